-- Worked records to worked sheet P4, `x y|0 0|1 1|x until y` (document 02, S-1): rows of one table, and what a row says.
use Rattle.std.specs.Prelude.{ℕ, ◌≡◌, List, [], ◌∷◌}
use Prim.Native.String.{String}
use Rattle.text.specs.Bytes.{bytes_of, lines}
use Rattle.meaning.specs.Expression.{Stream}
use Rattle.replaying.specs.Replay.{replayed_lines}

-- A record's text, and what is printed of it from state 0.
pub record WorkedRecord : Type 0 where
  pub text : String
  pub printed : String

unfoldable pub worked_records : List WorkedRecord
worked_records =
    -- one line for each value line, with the state reached
    record { text = "x y\n1 0\n1 0\n0 1\n0 0"; printed = "line state\n1 0\n2 0\n3 1\n4 1\n" }
    -- it stops before the first line that has no way on, and a later fault is not looked at
    ∷ record { text = "x y\n1 0\n0 0\n9\n"; printed = "line state\n1 0\nrefused 12\n" }
    -- names only, the last line with byte 10 and without it
    ∷ record { text = "x y\n"; printed = "line state\n" }
    ∷ record { text = " x  y"; printed = "line state\n" }
    -- a blank line is a value line without integers
    ∷ record { text = "x y\n\n"; printed = "line state\nrefused 13\n" }
    -- an integer of any length is an integer
    ∷ record { text = "x y\n1 0\n4294967296 1\n"; printed = "line state\n1 0\nrefused 14\n" }
    -- in one line 13 comes before 14, and 14 before 12
    ∷ record { text = "x y\n0 2 (\n"; printed = "line state\nrefused 13\n" }
    ∷ record { text = "x y\n0 -1\n"; printed = "line state\nrefused 14\n" }
    -- no heading for names that differ, nor for a record without lines
    ∷ record { text = "y x\n1 0\n"; printed = "refused 13\n" }
    ∷ record { text = ""; printed = "refused 13\n" }
    ∷ []

-- What a row says of a sheet's streams and of a table's entries.
abbrev pub RecordPrints : List Stream → List ℕ → WorkedRecord → Type 0
RecordPrints ss entries r = replayed_lines ss entries 0 (lines (bytes_of r.text)) ≡ bytes_of r.printed
