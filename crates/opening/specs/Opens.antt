-- What `open_table` gives back and leaves in entries and final bytes, before a record is read or a course is found.
use Rattle.std.specs.Prelude.{ℕ, ◌-◌, ◌≡◌, List, ◌++◌, length}
use Rattle.std.proofs.Math.Option.{Option, none, some}
use Rattle.text.specs.Bytes.{Token}
use Rattle.meaning.specs.Expression.{Sheet}
use Rattle.sheet.specs.Reading.{answer_to}
use Rattle.reader.specs.Stored.{reading_of}
use Rattle.outcome.specs.Room.{zeros}
use Rattle.outcome.specs.Compile.{CompileAnswer, Tables}
use Rattle.lend.specs.Lend.{CompiledLent, RefusedLent}
use Rattle.opening.specs.declared.OpenedTable.{OpenedTable}
use Rattle.opening.specs.Start.{start_state}

-- A refusal's number or 0, the number of states, the state to start from, and the sheet as it is read.
abbrev pub opened_as : (refusal states state : ℕ) (text : List ℕ) → OpenedTable
opened_as refusal states state text = record { refusal = refusal; states = states; state = state; sheet = (reading_of (answer_to text)).sheet }

-- After a refusal there are no states, and entries and final bytes are zero.
pub data OpensTable (text : List ℕ) (start : Option Token) : OpenedTable → (entries finals : List ℕ) → Type 0 where
  -- the sheet's own numbers
  refused_sheet : {n : ℕ} → RefusedLent text n → OpensTable text start (opened_as n 0 0 text) (zeros 32768) (zeros 256)
  -- "11, a start that is no state of the table"
  no_start : {s : Sheet} {a : CompileAnswer} {t : Tables} → CompiledLent text s a t → a.refusal ≡ 0 → start_state a.states start ≡ none
      → OpensTable text start (opened_as 11 0 0 text) (zeros 32768) (zeros 256)
  -- the state, with entries and final bytes of the rows lent and zeros behind them
  opened : {s : Sheet} {a : CompileAnswer} {t : Tables} {state : ℕ} → CompiledLent text s a t → a.refusal ≡ 0 → start_state a.states start ≡ some state
      → OpensTable text start (opened_as 0 a.states state text) (t.entries ++ zeros (32768 - length t.entries)) (t.finals ++ zeros (256 - length t.finals))
