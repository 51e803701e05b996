-- Letters and their numbers, from the lists of the streams' lowest and highest values (document 01, "Letters, situations, table").
use Rattle.std.specs.Prelude.{ℕ, zero, suc, ◌*◌, min, ◌≡◌, Bool, true, false, cond, ◌&&◌, List, [], ◌∷◌, ◌++◌, leb, ltb, ℤ, length, drop}
use Rattle.std.specs.Int.Signed.{le_z}
use Rattle.meaning.specs.Expression.{set_kind, Stream}
use Rattle.sheet.specs.Refusal.{letter_bound}
use Rattle.meaning.specs.Letter.{Letter, letter_count, letter_number, letter_of}

abbrev pub ranged : ℤ → ℤ → Stream
ranged low high = record { name = []; kind = set_kind; range = record { low = low; high = high } }

-- The streams with these lowest and highest values, as many as both lists have.
abbrev pub described : List ℤ → List ℤ → List Stream
described [] highs = []
described (l ∷ lows) [] = []
described (l ∷ lows) (h ∷ highs) = ranged l h ∷ described lows highs

-- "1,024 letters": a count is exact up to the bound, and one more stands for every greater count.
abbrev pub cut_count : ℕ → ℕ
cut_count n = min n (suc letter_bound)

-- The values are a letter of the streams: one for each stream, in its range.
unfoldable pub is_letter : List Stream → Letter → Bool
is_letter [] [] = true
is_letter [] (v ∷ l) = false
is_letter (s ∷ ss) [] = false
is_letter (s ∷ ss) (v ∷ l) = le_z s.range.low v && (le_z v s.range.high && is_letter ss l)

-- The number of a letter; the bound itself, which no letter has, where the values are no letter or the letters are more than the bound.
unfoldable pub number_of : List Stream → Letter → ℕ
number_of ss l = cond (leb (letter_count ss) letter_bound && is_letter ss l) (letter_number ss l) letter_bound

-- What a call of `letter_count` with these ends answers, and a call of `letter_number` with these ends and values.
abbrev pub LetterCountCall : (lows highs : List ℤ) → ℕ → Type 0
LetterCountCall lows highs r = r ≡ cut_count (letter_count (described lows highs))

abbrev pub LetterNumberCall : (lows highs : List ℤ) → Letter → ℕ → Type 0
LetterNumberCall lows highs values r = r ≡ number_of (described lows highs) values

-- The number is a letter's, the letters are at most as many as the bound, and a list of this length has room for one.
unfoldable pub has_letter : List Stream → ℕ → ℕ → Bool
has_letter ss n room = leb (letter_count ss) letter_bound && (ltb n (letter_count ss) && leb (length ss) room)

-- The letter at the front of a list, the rest as it was; the list as it was where there is no such letter.
unfoldable pub with_letter : List Stream → ℕ → List ℤ → List ℤ
with_letter ss n out = cond (has_letter ss n (length out)) (letter_of ss n ++ drop (length ss) out) out

-- The values of the first n letters, letter after letter.
unfoldable pub letters_below : List Stream → ℕ → List ℤ
letters_below ss zero = []
letters_below ss (suc n) = letters_below ss n ++ letter_of ss n

-- The letters are at most as many as the bound, and a list of this length has room for the values of all of them.
unfoldable pub has_room : List Stream → ℕ → Bool
has_room ss room = leb (letter_count ss) letter_bound && leb (letter_count ss * length ss) room

-- All letters at the front of a list, letter after letter, the rest as it was; the list as it was where it has no room for them.
unfoldable pub with_letters : List Stream → List ℤ → List ℤ
with_letters ss out = cond (has_room ss (length out)) (letters_below ss (letter_count ss) ++ drop (letter_count ss * length ss) out) out
