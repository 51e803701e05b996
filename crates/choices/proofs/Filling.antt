-- The choices of the letters, filled one after the other. From the definitions.
use Prim.Native.Nat.{ℕ, ◌+◌, ◌%◌, ◌≤◌, ◌<◌}
use native.Mathlib.Omega.{arith}
use native.Mathlib.Nat.{mod-eq_of_lt, mod-lt, div-zero}
use mathlib.Core.Path.{◌≡◌, refl, sym, ◌∙◌, ap}
use mathlib.Core.List.{List}
use lib.ListN.{length, get_or, set, length-set}
use Rattle.basics.proofs.Lists.{below_set, set_other}
use Rattle.meaning.specs.Expression.{Stream}
use Rattle.meaning.specs.Letter.{letter_count}
use Rattle.meaning.specs.Choice.{choice_of}
use Rattle.meaning.proofs.Choice.{choice-below, choices-at-most}
use Rattle.streams.specs.Description.{description_of}
use Rattle.streams.specs.declared.StreamsDescription.{StreamsDescription}
use Rattle.choices.specs.declared.ChoiceRead.{ChoiceRead}
use Rattle.choices.specs.Counted.{CanCount, IsChosen, ChoicesCounted, counted, RowsHeld, HoldsChoices}

-- the choices of the first n letters
pub record Filling (ss : List Stream) (old new : List ℕ) (n : ℕ) : Type 0 where
  pub same : length new ≡ length old
  pub choices : (a : ℕ) → a < n → get_or new a 0 ≡ choice_of ss a
  pub beyond : (a : ℕ) → n ≤ a → get_or new a 0 ≡ get_or old a 0

module _ {ss : List Stream} where
  pub filling_start : (old : List ℕ) → Filling ss old old 0
  filling_start old = record { same = refl; choices = λ a h. absurd (omega arith); beyond = λ a h. refl }

  pub filling_next : {old new : List ℕ} {n v : ℕ} → n < length new → v ≡ choice_of ss n → Filling ss old new n → Filling ss old (set new n v) (n + 1)
  filling_next {old} {new} {n} {v} h e F =
      record {
        same = length-set new n v ∙ F.same;
        choices = below_set (λ a x. x ≡ choice_of ss a) new n v h F.choices e;
        beyond = λ a g. set_other new n v a (omega arith) ∙ F.beyond a (omega arith);
      }

  pub filling_end : {old new : List ℕ} {n : ℕ} → n ≡ letter_count ss → Filling ss old new n → HoldsChoices ss old new
  filling_end e F = record { same = F.same; choices = λ a h. F.choices a (omega arith); beyond = λ a h. F.beyond a (omega arith) }

-- what is known of a letter's choice
pub letter-choice : (s : StreamsDescription) {letter : ℕ} {r : ChoiceRead} → letter < letter_count (description_of s) → IsChosen s letter r → r.number ≡ choice_of (description_of s) letter
letter-choice s h x = x.number ∙ ap (choice_of (description_of s)) (mod-eq_of_lt h)

-- which is small
pub choice-small : (s : StreamsDescription) {letter : ℕ} {r : ChoiceRead} → CanCount s → IsChosen s letter r → r.number < 1024
choice-small s {letter} can x =
    omega (arith, x.number, choice-below (description_of s) (letter % letter_count (description_of s)) (mod-lt letter can.some_letter), choices-at-most (description_of s) can.some_letter, can.few_letters)

-- the number of choices that is counted with it
pub counted_with : (s : StreamsDescription) {letter : ℕ} {r : ChoiceRead} → CanCount s → IsChosen s letter r → ChoicesCounted s r.count
counted_with s can x = rw x.count (counted can)

pub no_rows : (s : StreamsDescription) (room : ℕ) {n : ℕ} → ChoicesCounted s n → n ≡ 0 → RowsHeld s room 0
no_rows s room {n} h e = record { choices = n; is_count = h; held = rw e (sym (div-zero room)) }
