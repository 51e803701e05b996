-- The outcome of a call for the normal form is one, and every call has one. From the one answer to a text (sheet).
use Prim.Native.Nat.{ℕ, ◌≤◌, ◌<◌}
use native.Mathlib.Omega.{arith}
use native.Mathlib.Decide.{dec_le}
use mathlib.Core.Path.{◌≡◌, refl, ap, subst}
use mathlib.Core.List.{List}
use Rattle.meaning.specs.Expression.{Sheet}
use Rattle.sheet.specs.Refusal.{Answer, refused, sheet, AnswerTo}
use Rattle.sheet.specs.Reading.{answer_to}
use Rattle.sheet.proofs.Reading.{answer_correct}
use Rattle.outcome.specs.NormalForm.{NormalAnswer, refused_normal_answer, entry_count, given_answer, given_list, NormalOutcome, unread, too_short, given}
use Rattle.outcome.proofs.Answers.{one_number, one-sheet, refused≢sheet}

module _ {E : Type 0} (blank : E) (encoded : Sheet → List E) (text : List ℕ) (room : ℕ) where
  abbrev Outcome : NormalAnswer → List E → Type 0
  Outcome = NormalOutcome blank encoded text room

  pub normal_unique : {a b : NormalAnswer} {l m : List E} → Outcome a l → Outcome b m → (a ≡ b) × (l ≡ m)
  normal_unique (unread r) (unread r') = (ap refused_normal_answer (one_number r r'), refl)
  normal_unique (unread r) (too_short r' h) = absurd (refused≢sheet r r')
  normal_unique (unread r) (given r' h) = absurd (refused≢sheet r r')
  normal_unique (too_short r h) (unread r') = absurd (refused≢sheet r' r)
  normal_unique (too_short r h) (too_short r' h') = (refl, refl)
  normal_unique (too_short {s} r h) (given r' h') = absurd (clash s h (subst (λ q. entry_count q ≤ room) (one-sheet r' r) h'))
    where
      clash : (s : Sheet) → room < entry_count s → entry_count s ≤ room → ⊥
      clash s h g = omega arith
  normal_unique (given r h) (unread r') = absurd (refused≢sheet r' r)
  normal_unique (given {s} r h) (too_short r' h') = absurd (clash s h (subst (λ q. room < entry_count q) (one-sheet r' r) h'))
    where
      clash : (s : Sheet) → entry_count s ≤ room → room < entry_count s → ⊥
      clash s h g = omega arith
  normal_unique (given r h) (given r' h') =
      let e = one-sheet r r' in
      (ap (given_answer) e, ap (given_list blank encoded room) e)

  -- An outcome, whatever its numbers and contents.
  pub record HasOutcome : Type 0 where
    pub answer : NormalAnswer
    pub list : List E
    pub outcome : Outcome answer list

  pub normal_total : HasOutcome
  normal_total = go (answer_to text) (answer_correct text)
    where
      read : {s : Sheet} → AnswerTo text (sheet s) → Dec (entry_count s ≤ room) → HasOutcome
      read r (yes h) = record { answer = _; list = _; outcome = given r h }
      read r (no h) = record { answer = _; list = _; outcome = too_short r (omega arith) }

      go : (a : Answer) → AnswerTo text a → HasOutcome
      go (refused n) r = record { answer = _; list = _; outcome = unread r }
      go (sheet s) r = read r (dec_le (entry_count s) room)
