-- Endless words of letters, and records.
-- "Letter" and "record" are document 01's terms: "A letter is one value per stream. Its number counts with the last stream
-- fastest, values rising from the lowest, from 0." Here a letter is its number, a record is the list of the numbers of its
-- letters, and there are k letters, numbered from 0.
use Rattle.std.specs.Prelude.{List, [], ◌∷◌, ℕ, zero, suc, ◌<◌}

-- an endless word: the letter at each time, "from 0"
abbrev pub Word : Type 0
Word = ℕ → ℕ

-- the word without its first letter
abbrev pub tail : Word → Word
tail w = λ t. w (suc t)

-- the letter a, and then the word w
abbrev pub cons : ℕ → Word → Word
cons a w zero = a
cons a w (suc t) = w t

-- the record r, and then the word w
abbrev pub append : List ℕ → Word → Word
append [] w = w
append (a ∷ r) w = cons a (append r w)

-- the record of the first t letters of w
abbrev pub prefix : Word → ℕ → List ℕ
prefix w zero = []
prefix w (suc t) = w 0 ∷ prefix (tail w) t

-- the word after the first t letters of w
abbrev pub suffix : Word → ℕ → Word
suffix w zero = w
suffix w (suc t) = suffix (tail w) t

-- every letter of the word is one of the k letters
abbrev pub InRange : ℕ → Word → Type 0
InRange k w = (t : ℕ) → w t < k

-- every letter of the record is one of the k letters
abbrev pub AllBelow : ℕ → List ℕ → Type 0
AllBelow k [] = Unit {0}
AllBelow k (a ∷ r) = (a < k) × AllBelow k r
