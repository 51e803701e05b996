-- Laws of a text or a refusal, by the cases of the refusal's number and of the place. From the definitions.
use Prim.Native.Nat.{ℕ, zero, suc, ◌-◌, ◌≤◌, ◌<◌}
use native.Mathlib.Omega.{arith}
use mathlib.Core.Path.{◌≡◌, refl, sym, ◌∙◌, ap}
use mathlib.Core.Bool.{cond}
use mathlib.Core.List.{List, [], ◌++◌}
use lib.Dec.{eqb}
use lib.ListN.{length}
use borrow.Author.Tests.{eq-eqb, ne_eqb}
use Rattle.basics.proofs.Tests.{cond_cases}
use Rattle.print.specs.Text.{refusal_line}
use Rattle.print.specs.Lines.{lines_from}
use Rattle.print.proofs.Lengths.{refusal-length}
use Rattle.pages.specs.Lines.{line_room, refused_line, or_refused, places_or}
use Rattle.pages.proofs.Lines.{first-line, same_lines}

-- ---- how many places there are

module _ (refusal : ℕ) where
  pub refused-places : (refusal ≡ 0 → ⊥) → (count : ℕ) → 1 ≡ places_or refusal count
  unfolding places_or
  refused-places refused count = sym (ap (λ t. cond t count 1) (ne_eqb refusal 0 refused))

  pub given-places : refusal ≡ 0 → (count : ℕ) → count ≡ places_or refusal count
  unfolding places_or
  given-places given count = sym (ap (λ t. cond t count 1) (eq-eqb refusal 0 given))

  pub few-places : {count most : ℕ} → 1 ≤ most → count ≤ most → places_or refusal count ≤ most
  unfolding places_or
  few-places {count} {most} some few = cond_cases (λ n. n ≤ most) (eqb refusal 0) {x = count} {y = 1} (λ t. few) (λ t. some)

-- ---- lines

module _ (refusal : ℕ) (line : ℕ → List ℕ) where
  module _ (refused : refusal ≡ 0 → ⊥) where
    refused-line : (k : ℕ) → refused_line refusal k ≡ or_refused refusal line k
    unfolding or_refused
    refused-line k = sym (ap (λ t. cond t (line k) (refused_line refusal k)) (ne_eqb refusal 0 refused))

    pub refusal-first : {k : ℕ} → k ≡ 0 → refusal_line refusal ≡ or_refused refusal line k
    refusal-first {k} z = ap (refused_line refusal) (sym z) ∙ refused-line k

    pub nothing-after : {k : ℕ} → (k ≡ 0 → ⊥) → [] ≡ or_refused refusal line k
    nothing-after {k} s = let e : suc (k - 1) ≡ k = omega arith in ap (refused_line refusal) e ∙ refused-line k

    -- "printed as the one line `refused 9`"
    pub refused-text : (count : ℕ) → lines_from (or_refused refusal line) 0 (places_or refusal count) ≡ refusal_line refusal
    unfolding lines_from
    refused-text count = ap (lines_from (or_refused refusal line) 0) (sym (refused-places refusal refused count)) ∙ sym (refusal-first refl)

  module _ (given : refusal ≡ 0) where
    line-given : (k : ℕ) → line k ≡ or_refused refusal line k
    unfolding or_refused
    line-given k = sym (ap (λ t. cond t (line k) (refused_line refusal k)) (eq-eqb refusal 0 given))

    pub first-given : {k : ℕ} → k ≡ 0 → line 0 ≡ or_refused refusal line k
    first-given {k} z = ap line (sym z) ∙ line-given k

    pub later-given : {k : ℕ} → (k ≡ 0 → ⊥) → line (suc (k - 1)) ≡ or_refused refusal line k
    later-given {k} s = let e : suc (k - 1) ≡ k = omega arith in ap line e ∙ line-given k

    -- The first line and the others.
    pub given-text : (count : ℕ) → lines_from (or_refused refusal line) 0 (places_or refusal (suc count)) ≡ line 0 ++ lines_from (λ k. line (suc k)) 0 count
    given-text count =
        ap (lines_from (or_refused refusal line) 0) (sym (given-places refusal given (suc count)))
        ∙ same_lines (or_refused refusal line) line (λ k. sym (line-given k)) 0 (suc count)
        ∙ first-line line count

  -- No line is longer than there is room for.
  refused-short : refusal < 4294967296 → (k : ℕ) → length (refused_line refusal k) ≤ line_room
  refused-short r zero = omega (arith, refusal-length refusal r)
  refused-short r (suc k) = omega arith

  pub short-or_refused : refusal < 4294967296 → ((k : ℕ) → length (line k) ≤ line_room) → (k : ℕ) → length (or_refused refusal line k) ≤ line_room
  unfolding or_refused
  short-or_refused r short k = cond_cases (λ (l : List ℕ). length l ≤ line_room) (eqb refusal 0) {x = line k} {y = refused_line refusal k} (λ t. short k) (λ t. refused-short r k)
