-- The fault of a record (document 02, S-12). "Record" is document 02's term.
use Rattle.std.specs.Prelude.{ℕ, ◌≡◌, cond, List, [], ◌∷◌, ◌++◌}
use Rattle.std.proofs.Math.Option.{Option, none, some}
use Rattle.text.specs.Bytes.{lines}
use Rattle.meaning.specs.Expression.{Stream}
use Rattle.sheet.specs.Form.{names_of}
use Rattle.records.specs.Line.{ValueLine, malformed, outside, letter, value_line}
use Rattle.record_names.specs.Line.{is_names_line}

-- What is wrong with a value line, if anything is.
abbrev pub line_fault : ValueLine → Option ℕ
line_fault malformed = some 13
line_fault outside = some 14
line_fault (letter n) = none

-- The first of two, where there is one.
abbrev pub first_of : Option ℕ → Option ℕ → Option ℕ
first_of none later = later
first_of (some n) later = some n

-- "the 13 or 14 of its first line with a fault", among the value lines.
unfoldable pub values_fault : List Stream → List (List ℕ) → Option ℕ
values_fault ss [] = none
values_fault ss (l ∷ ls) = first_of (line_fault (value_line ss l)) (values_fault ss ls)

-- The same for all lines, the names first: "13, names that differ". A record without lines has no names.
unfoldable pub record_fault : List Stream → List (List ℕ) → Option ℕ
record_fault ss [] = some 13
record_fault ss (l ∷ ls) = cond (is_names_line (names_of ss) l) (values_fault ss ls) (some 13)

-- No line that has ended, with its byte 10, within the bytes of a record has a fault.
abbrev pub NoFaultEnded : List Stream → List ℕ → Type 0
NoFaultEnded ss text = (front rest : List ℕ) → text ≡ front ++ (10 ∷ rest) → record_fault ss (lines (front ++ (10 ∷ []))) ≡ none
