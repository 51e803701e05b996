-- The outcome of a call for the best course is one, and there always is one; and from every state of the table of a set that
-- settles there is a course of fewer letters than there are states.
use mathlib.Core.Path.{◌≡◌, refl, sym, ap, ◌∙◌}
use mathlib.Core.List.{List, [], ◌∷◌, ◌++◌}
use Prim.Native.Nat.{ℕ, ◌+◌, ◌-◌, ◌<◌}
use native.Mathlib.Omega.{arith}
use lib.ListN.{length, replicate}
use Rattle.automaton.specs.Words.{Word, append, prefix, InRange}
use Rattle.automaton.specs.Solutions.{Settles}
use Rattle.automaton.specs.Table.{walk, run, Follows, IsTable}
use Rattle.automaton.specs.WellFormed.{RowEntries}
use Rattle.automaton.specs.Course.{IsCourse, IsBest, CourseOutcome, unfit, endless, short, found}
use Rattle.automaton.proofs.Words.{all-below-prefix}
use Rattle.automaton.proofs.Paths.{run-walk, follows↔paths}
use Rattle.automaton.proofs.States.{continuation_followed, continuation_final}
use Rattle.automaton.proofs.WellFormed.{table-entries}
use Rattle.automaton.proofs.Course.{best_unique, best_exists, best-short, Decided, has_best, has_none, course_decided}

module _ (changes : ℕ → ℕ → ℕ) (k : ℕ) (entry : ℕ → ℕ → ℕ) (final : ℕ → ℕ) (s : ℕ) (Fit : Type 0) (Short : ℕ → Type 0) (room : ℕ) where
  abbrev Outcome : ℕ → ℕ → List ℕ → Type 0
  Outcome = CourseOutcome changes k entry final s Fit Short room

  -- two outcomes of one call are equal
  pub course_functional : {a c : ℕ} {l : List ℕ} {a' c' : ℕ} {l' : List ℕ} → Outcome a c l → Outcome a' c' l'
      → (a ≡ a') × (c ≡ c') × (l ≡ l')
  course_functional (unfit x) (unfit y) = (refl, refl, refl)
  course_functional (unfit x) (endless f e) = absurd (x f)
  course_functional (unfit x) (short f b h) = absurd (x f)
  course_functional (unfit x) (found f b h) = absurd (x f)
  course_functional (endless f e) (unfit y) = absurd (y f)
  course_functional (endless f e) (endless g d) = (refl, refl, refl)
  course_functional (endless f e) (short {r} g b h) = absurd (e r b.course)
  course_functional (endless f e) (found {r} g b h) = absurd (e r b.course)
  course_functional (short f b h) (unfit y) = absurd (y f)
  course_functional (short {r} f b h) (endless g d) = absurd (d r b.course)
  course_functional (short f b h) (short g c i) = (refl, refl, refl)
  course_functional (short {r} f b h) (found {r = q} g c i) = absurd (i (rw (best_unique changes k entry final s r q b c) at h))
  course_functional (found f b h) (unfit y) = absurd (y f)
  course_functional (found {r} f b h) (endless g d) = absurd (d r b.course)
  course_functional (found {r} f b h) (short {r = q} g c i) = absurd (h (rw (best_unique changes k entry final s q r c b) at i))
  course_functional (found {r} f b h) (found {r = q} g c i) =
      let e = best_unique changes k entry final s r q b c in (refl, ap length e, ap (λ p. p ++ replicate (room - length p) 0) e)

  -- every call has an outcome, and it is computed
  pub course-total : Dec Fit → ((m : ℕ) → Dec (Short m)) → (Fit → (n : ℕ) × RowEntries k n entry × (s < n))
      → (refusal : ℕ) × (count : ℕ) × (list : List ℕ) × Outcome refusal count list
  course-total d e rows = fits d
    where
      fill : Fit → (r : List ℕ) → IsBest changes k entry final s r → Dec (Short (length r))
          → (refusal : ℕ) × (count : ℕ) × (list : List ℕ) × Outcome refusal count list
      fill f r b (yes h) = (10, 0, replicate room 0, short f b h)
      fill f r b (no h) = (0, length r, r ++ replicate (room - length r) 0, found f b h)

      decided : Fit → Decided changes k entry final s → (refusal : ℕ) × (count : ℕ) × (list : List ℕ) × Outcome refusal count list
      decided f (has_best r b) = fill f r b (e (length r))
      decided f (has_none g) = (15, 0, replicate room 0, endless f g)

      fits : Dec Fit → (refusal : ℕ) × (count : ℕ) × (list : List ℕ) × Outcome refusal count list
      fits (yes f) = decided f (course_decided changes k entry final (rows f).0 s (rows f).1 (rows f).2)
      fits (no f) = (11, 0, replicate room 0, unfit f)

-- compiled tables

module _ {Sol : Word → Type 0} {k n : ℕ} {entry : ℕ → ℕ → ℕ} {final : ℕ → ℕ} (A : IsTable Sol k n entry final) where
  module _ (S : Settles Sol k) where
    -- from every state some record leads to a final one
    pub state-course : (i : ℕ) → i < n → (r : List ℕ) × IsCourse k entry final i r
    state-course i hi =
        let x = A.not_empty i hi in
        let f = continuation_followed A i hi x.word x.in_range x.continues in
        let u = continuation_final A i hi x.word x.in_range x.continues S in (
          prefix x.word u.0,
          record {
            letters = all-below-prefix u.0 x.word x.in_range;
            path = (follows↔paths A i x.word hi x.in_range).0 f u.0;
            ends = ap final (sym (run-walk entry u.0 i x.word)) ∙ u.1;
          },
        )

    -- the best course from a state of a compiled table has fewer letters than there are states
    pub compiled-course : (changes : ℕ → ℕ → ℕ) (i : ℕ) → i < n → (r : List ℕ) × IsBest changes k entry final i r × (length r < n)
    compiled-course changes i hi =
        let c = state-course i hi in
        let x = best_exists changes k entry final i c.0 c.1 in
        (x.0, x.1, best-short changes k entry final n i (table-entries A) hi x.0 x.1)

    -- with room enough for fewer letters than there are states, the call gives a course, of fewer letters than that
    pub compiled-outcome : (changes : ℕ → ℕ → ℕ) (i : ℕ) → i < n → (Fit : Type 0) (Short : ℕ → Type 0) (room : ℕ) → Fit
        → ((m : ℕ) → m < n → ¬ Short m) → {refusal count : ℕ} {list : List ℕ}
        → CourseOutcome changes k entry final i Fit Short room refusal count list → (refusal ≡ 0) × (count < n)
    compiled-outcome changes i hi Fit Short room f enough (unfit x) = absurd (x f)
    compiled-outcome changes i hi Fit Short room f enough (endless g x) = absurd (x (state-course i hi).0 (state-course i hi).1)
    compiled-outcome changes i hi Fit Short room f enough (short {r} g b h) =
        absurd (enough (length r) (best-short changes k entry final n i (table-entries A) hi r b) h)
    compiled-outcome changes i hi Fit Short room f enough (found {r} g b h) = (refl, best-short changes k entry final n i (table-entries A) hi r b)
