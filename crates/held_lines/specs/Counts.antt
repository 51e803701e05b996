-- How many value lines of a record hold a value (document 02, S-12). "Record" is document 02's term.
use Rattle.std.specs.Prelude.{ℕ, suc, Bool, cond, List, [], ◌∷◌, ℤ, pos, get_or}
use Rattle.meaning.specs.Value.{equal, compares}
use Rattle.records.specs.Line.{line_values}

-- How many members of a list pass a test.
unfoldable pub how_many : {X : Type 0} → (X → Bool) → List X → ℕ
how_many test [] = 0
how_many test (x ∷ xs) = cond (test x) (suc (how_many test xs)) (how_many test xs)

-- The value line holds the value for the stream at a place of the sheet.
abbrev pub holds_value : (stream : ℕ) → ℤ → List ℕ → Bool
holds_value stream value line = compares equal (get_or (line_values line) stream (pos 0)) value

-- "how many value lines hold it"
abbrev pub lines_holding : (stream : ℕ) → ℤ → List (List ℕ) → ℕ
lines_holding stream value ls = how_many (holds_value stream value) ls
