-- Letters and their numbers, records, and the streams that a word of letter numbers spells (document 01, "Letters, situations, table").
use Rattle.std.specs.Prelude.{ℕ, zero, suc, ◌+◌, ◌*◌, ◌/◌, ◌%◌, cond, ℤ, pos, nat_abs, ◌+ℤ◌, ◌-ℤ◌, get_or}
use mathlib.Core.List.{List, [], ◌∷◌, map, Memᴰ}
use Rattle.std.specs.Int.Signed.{le_z}
use Rattle.meaning.specs.Value.{Streams}
use Rattle.meaning.specs.Arithmetic.{Interval, Within}
use Rattle.meaning.specs.Expression.{Stream, Sheet, Solution}

-- "A letter is one value per stream." (Letter and record are document 01's own terms.)
abbrev pub Letter : Type 0
Letter = List ℤ

-- "A record of n letters": the letters at times 0 to n−1.
abbrev pub Record : Type 0
Record = List Letter

-- A letter whose values lie in the streams' ranges.
pub data IsLetter : List Stream → Letter → Type 0 where
  none : IsLetter [] []
  more : {s : Stream} {ss : List Stream} {v : ℤ} {l : Letter} → Within s.range v → IsLetter ss l → IsLetter (s ∷ ss) (v ∷ l)

abbrev pub OfLetters : List Stream → Record → Type 0
OfLetters ss r = (l : Letter) → Memᴰ l r → IsLetter ss l

-- How many numbers an interval holds.
abbrev pub size : Interval → ℕ
size I = cond (le_z I.low I.high) (suc (nat_abs (I.high -ℤ I.low))) 0

-- How many letters there are.
unfoldable pub letter_count : List Stream → ℕ
letter_count [] = 1
letter_count (s ∷ ss) = size s.range * letter_count ss

-- "Its number counts with the last stream fastest, values rising from the lowest, from 0."
unfoldable pub letter_number : List Stream → Letter → ℕ
letter_number [] l = 0
letter_number (s ∷ ss) [] = 0
letter_number (s ∷ ss) (v ∷ l) = nat_abs (v -ℤ s.range.low) * letter_count ss + letter_number ss l

-- The letter of a number.
unfoldable pub letter_of : List Stream → ℕ → Letter
letter_of [] n = []
letter_of (s ∷ ss) n = (s.range.low +ℤ pos (n / letter_count ss)) ∷ letter_of ss (n % letter_count ss)

-- The streams whose letter at each time is the one with the word's number; 0 beyond the sheet's streams, where nothing is read.
abbrev pub spell : List Stream → (ℕ → ℕ) → Streams
spell ss x k i = get_or (letter_of ss (x i)) k (pos 0)

-- The letter with these values, and the word whose letters have the values of w.
abbrev pub letter_with : List Stream → (ℕ → ℤ) → Letter
letter_with [] f = []
letter_with (s ∷ ss) f = f zero ∷ letter_with ss (λ k. f (suc k))

abbrev pub word_of : List Stream → Streams → ℕ → ℕ
word_of ss w i = letter_number ss (letter_with ss (λ k. w k i))

-- A record's values at its times; 0 beyond it, where nothing is judged.
abbrev pub streams_of : Record → Streams
streams_of r k i = get_or (get_or r i []) k (pos 0)

-- The record of the letters with these numbers.
abbrev pub record_of : List Stream → List ℕ → Record
record_of ss ns = map (letter_of ss) ns

-- An endless word of letter numbers is a solution if the streams that it spells are one.
pub record SolutionWord (s : Sheet) (x : ℕ → ℕ) : Type 0 where
  pub solves : Solution s (spell s.streams x)
