-- The numbers of a record's letters: the record of these numbers is the record, and each is a letter's number. From the laws of one letter.
use Prim.Native.Nat.{ℕ}
use mathlib.Core.Path.{◌≡◌, refl}
use mathlib.Core.List.Memᴰ
use mathlib.Core.List.{List, [], ◌∷◌, map}
use Rattle.automaton.specs.Words.{AllBelow}
use Rattle.meaning.specs.Expression.{Stream}
use Rattle.meaning.specs.Letter.{Record, OfLetters, letter_count, letter_number, record_of}
use Rattle.meaning.proofs.Letter.{letter_number-bound, letter_of-letter_number}

module _ (ss : List Stream) where
  unfoldable pub letter_numbers_of : Record → List ℕ
  letter_numbers_of r = map (letter_number ss) r

  pub letter_numbers_of_record : (r : Record) → OfLetters ss r → record_of ss (letter_numbers_of r) ≡ r
  unfolding letter_numbers_of
  letter_numbers_of_record [] h = refl
  letter_numbers_of_record (l ∷ r) h = λ i. letter_of-letter_number (h l (Memᴰ.head refl)) i ∷ letter_numbers_of_record r (λ m k. h m (Memᴰ.tail k)) i

  pub letter_numbers_of_below : (r : Record) → OfLetters ss r → AllBelow (letter_count ss) (letter_numbers_of r)
  unfolding letter_numbers_of
  letter_numbers_of_below [] h = tt
  letter_numbers_of_below (l ∷ r) h = (letter_number-bound (h l (Memᴰ.head refl)), letter_numbers_of_below r (λ m k. h m (Memᴰ.tail k)))
