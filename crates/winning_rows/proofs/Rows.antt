-- One row: its entries are a part of the lent entries, its answers say whether the row is answered, and by them it is turned or settled. From the definitions of
-- answers and the laws of rankings.
use Prim.Native.Nat.{ℕ, ◌+◌, ◌-◌, ◌*◌, ◌<◌, ◌≤◌}
use mathlib.Core.Path.{◌≡◌, refl, sym, ◌∙◌, subst}
use mathlib.Core.Logic.{◌⊎◌, inl, inr, ⊎_elim, ◌≢◌}
use mathlib.Core.Bool.{Bool, true, false, not, beq}
use mathlib.Core.List.{List}
use native.Mathlib.Omega.{arith}
use native.Mathlib.Decide.{ℕ_discrete}
use lib.ListN.{length, get_or, take, drop, length-drop}
use lib.Seq.{length-take-le, get_or-take, get_or-drop}
use lib.Dec.{eqb}
use borrow.Author.Tests.{eqb-true, eqb-false, not-true, not-false}
use Rattle.basics.specs.Answers.{Says}
use Rattle.basics.proofs.Answers.{says_yes, says_no}
use Rattle.automaton.specs.Table.{no_state}
use Rattle.automaton.specs.Stored.{entry_at}
use Rattle.automaton.specs.PlayTable.{Game}
use Rattle.automaton.specs.Ranking.{rank_of, Ranked, HasAnswer, Answered, Unanswered, Turnable, NoneToTurn, highest_next, MayPlay, IsPlayed, played, nothing}
use Rattle.automaton.proofs.Rounds.{each_or}
use Rattle.marks.proofs.Sweeping.{beq_same, beq_other}
use Rattle.winning_rows.specs.Answers.{LetterAnswers, FirstAnswer, found, lacking, AreAnswers, AllAnswered}
use Rattle.winning_rows.specs.Sweeps.{lent_game}

-- the entries of row s, a part of the lent ones
abbrev pub row_of : (entries : List ℕ) (k s : ℕ) → List ℕ
row_of entries k s = take (s * k + k - s * k) (drop (s * k) entries)

row-entry : (entries : List ℕ) (k s a : ℕ) → a < k → get_or (row_of entries k s) a 0 ≡ entry_at k entries s a
row-entry entries k s a h = get_or-take (s * k + k - s * k) (drop (s * k) entries) a 0 (omega arith) ∙ get_or-drop (s * k) entries a 0

module _ (entries choice ranks : List ℕ) (choices rows s : ℕ) (final : ℕ → ℕ) {highest : ℕ} {answers : List ℕ} (long : length (row_of entries (length choice) s) ≡ length choice) (few : length choice < no_state)
    (same : length answers ≡ choices) (A : AreAnswers (row_of entries (length choice) s) choice ranks highest 0 answers) where
  abbrev G : Game
  G = lent_game entries choice choices rows final

  -- ---- the answers of the row

  ranked-entry : (a : ℕ) → a < length choice → Ranked ranks (get_or (row_of entries (length choice) s) a 0) → Ranked ranks (entry_at (length choice) entries s a)
  ranked-entry a h r = subst (Ranked ranks) (row-entry entries (length choice) s a h) r

  letter-answers : {a c : ℕ} → a < length choice → get_or choice a 0 ≡ c → Ranked ranks (entry_at (length choice) entries s a) → rank_of ranks (entry_at (length choice) entries s a) ≤ highest → LetterAnswers (row_of entries (length choice) s) choice ranks highest c a
  letter-answers {a} h e r l =
      let entry = row-entry entries (length choice) s a h in
      record { is_letter = omega arith; has_choice = e; ranked = subst (Ranked ranks) (sym entry) r; low = subst (λ t. rank_of ranks t ≤ highest) (sym entry) l }

  pub row-answered : AllAnswered answers → Answered G ranks s
  row-answered all = record { answer = λ c h. let inside : c < length answers = omega arith in by c (A.at c inside) (all c inside) }
    where
      by : (c : ℕ) {v : ℕ} → FirstAnswer (row_of entries (length choice) s) choice ranks highest 0 c v → v ≢ no_state → HasAnswer G (Ranked ranks) s c
      by c (lacking f) n = absurd (n refl)
      by c (found {v} h x f) n = let is_letter : v < length choice = omega (arith, x.is_letter) in record { letter = v; is_letter = is_letter; has_choice = x.has_choice; leads = ranked-entry v is_letter x.ranked }

  pub row_unanswered : ((t : ℕ) → rank_of ranks t ≤ highest) → ¬ AllAnswered answers → Unanswered G ranks s
  row_unanswered all n = ⊎_elim (λ f. absurd (n f)) (λ x. x) (each_or (λ c. get_or answers c 0 ≢ no_state) (length answers) λ c h. by c h (A.at c h) (ℕ_discrete (get_or answers c 0) no_state))
    where
      without : (c : ℕ) → c < length answers → {v : ℕ} → FirstAnswer (row_of entries (length choice) s) choice ranks highest 0 c v → v ≡ no_state → Unanswered G ranks s
      without c h (found g x f) e = absurd (omega (arith, x.is_letter, few))
      without c h (lacking f) e = record { at = c; is_choice = omega arith; none = λ a ha k r. f a (omega arith) (letter-answers ha k r (all _)) }

      by : (c : ℕ) → c < length answers → FirstAnswer (row_of entries (length choice) s) choice ranks highest 0 c (get_or answers c 0) → Dec (get_or answers c 0 ≡ no_state) → (get_or answers c 0 ≢ no_state) ⊎ Unanswered G ranks s
      by c h x (yes e) = inr (without c h x e)
      by c h x (no e) = inl e

  -- ---- turning it

  pub row_settled : (to answered : Bool) → ((t : ℕ) → rank_of ranks t ≤ highest) → beq answered to ≡ false → Says answered (AllAnswered answers) → NoneToTurn G to ranks s
  row_settled true answered all e h = inr (row_unanswered all (says_no (beq_other answered true e) h))
  row_settled false answered all e h = inr (row-answered (says_yes (beq_other answered false e) h))

  pub row_turnable : (to answered : Bool) → ((t : ℕ) → rank_of ranks t ≤ highest) → beq (not (eqb (get_or ranks s 0) 0)) to ≡ false → beq answered to ≡ true → Says answered (AllAnswered answers) → Turnable G to ranks s
  row_turnable true answered all m e h = ((λ r. r (eqb-true (get_or ranks s 0) 0 (not-false _ (beq_other _ true m)))), row-answered (says_yes (beq_same answered true e) h))
  row_turnable false answered all m e h = (eqb-false (get_or ranks s 0) 0 (not-true _ (beq_other _ false m)), row_unanswered all (says_no (beq_same answered false e) h))

  -- ---- playing it

  pub row-plays : highest ≡ highest_next (rank_of ranks s) → (c : ℕ) → c < choices → IsPlayed G ranks s c (get_or answers c 0)
  row-plays e c h = by (A.at c (omega arith))
    where
      to : {a : ℕ} → LetterAnswers (row_of entries (length choice) s) choice ranks highest c a → MayPlay G ranks s c a
      to {a} x =
          let is_letter : a < length choice = omega (arith, x.is_letter) in
          let entry = row-entry entries (length choice) s a is_letter in
          record { is_letter = is_letter; has_choice = x.has_choice; ranked = ranked-entry a is_letter x.ranked; low = subst (λ t. rank_of ranks (entry_at (length choice) entries s a) ≤ t) e (subst (λ t. rank_of ranks t ≤ highest) entry x.low) }

      from : {a : ℕ} → MayPlay G ranks s c a → LetterAnswers (row_of entries (length choice) s) choice ranks highest c a
      from {a} x = letter-answers x.is_letter x.has_choice x.ranked (subst (λ t. rank_of ranks (entry_at (length choice) entries s a) ≤ t) (sym e) x.low)

      by : {v : ℕ} → FirstAnswer (row_of entries (length choice) s) choice ranks highest 0 c v → IsPlayed G ranks s c v
      by (found g x f) = played (to x) λ a l y. f a (omega arith) l (from y)
      by (lacking f) = nothing λ a y. f a (omega arith) (from y)

-- nothing is to be turned where the row is ranked as it is to be
pub settled_rank : (G : Game) (to : Bool) (ranks : List ℕ) (s : ℕ) → beq (not (eqb (get_or ranks s 0) 0)) to ≡ true → NoneToTurn G to ranks s
settled_rank G true ranks s e = inl (eqb-false (get_or ranks s 0) 0 (not-true _ (beq_same _ true e)))
settled_rank G false ranks s e = inl λ r. r (eqb-true (get_or ranks s 0) 0 (not-false _ (beq_same _ false e)))

-- the entries of a row are as many as the letters
pub row-length : (entries : List ℕ) (k s : ℕ) → s * k + k ≤ length entries → length (row_of entries k s) ≡ k
row-length entries k s h = length-take-le (s * k + k - s * k) (drop (s * k) entries) (omega (arith, length-drop (s * k) entries)) ∙ (let e : s * k + k - s * k ≡ k = omega arith in e)
