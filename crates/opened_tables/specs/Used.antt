-- The used rows of a table that a program opened, and of the compile behind it, as tables that are given to a call.
use Rattle.std.specs.Prelude.{ℕ, ◌*◌, min, List, take}
use Rattle.meaning.specs.Expression.{Sheet}
use Rattle.meaning.specs.Letter.{letter_count}
use Rattle.reader.specs.Stored.{stored_sheet}
use Rattle.outcome.specs.Compile.{CompileAnswer, Tables}
use Rattle.compiled_sheet.specs.Told.{sheet_streams}
use Rattle.theorems.specs.UsedRows.{used_entries, used_finals}
use Rattle.given_tables.specs.Given.{GivenTable, given_table}
use Rattle.opening.specs.declared.OpenedTable.{OpenedTable}

-- No more than the rows that its array has.
abbrev pub used_rows : OpenedTable → ℕ
used_rows x = min x.states 256

-- The used rows of a table that was opened, no more than its arrays hold, with the letters and the streams of its sheet.
abbrev pub opened_given : OpenedTable → (entries finals : List ℕ) → GivenTable
opened_given x entries finals =
    given_table (take (min (used_rows x * x.sheet.letters) 32768) entries) (take (used_rows x) finals) x.sheet.letters (sheet_streams x.sheet)

-- The used rows of a compile, with the letters and the streams of its sheet.
abbrev pub compiled_given : Sheet → CompileAnswer → Tables → GivenTable
compiled_given s a t = given_table (used_entries s a t) (used_finals a t) (letter_count s.streams) (sheet_streams (stored_sheet s))
