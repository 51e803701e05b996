-- What `show_strategy` gives back, and what its parts do.
use Rattle.std.specs.Prelude.{ℕ, List}
use Rattle.outcome.specs.Compile.{CompileAnswer}
use Rattle.outcome.specs.Force.{ForceCall}
use Rattle.reader.specs.declared.StoredSheet.{StoredSheet}
use Rattle.lend.specs.Lend.{room_of_rows, tables_of_rows}
use Rattle.output.specs.Output.{Hands}
use Rattle.output.specs.declared.Handed.{Handed}
use Rattle.show.specs.Answer.{printout_of}
use Rattle.play_text.specs.Output.{PlayPrintout, play_places, play_output}
use Rattle.show_strategy.specs.Prints.{PrintsStrategy}

-- How many of the bytes that `strategy` prints for the text of a sheet were taken by writes.
pub record ShowsStrategy (text : List ℕ) (r : Handed) : Type 0 where
  pub bytes : List ℕ
  pub prints : PrintsStrategy text bytes
  pub hands : Hands bytes r.size r.whole

-- ---- parts of a call

-- An answer, a table and a play table, with the names and ranges of a stored sheet.
abbrev pub play_printout : StoredSheet → (refusal states choices : ℕ) (entries finals play : List ℕ) → PlayPrintout
play_printout stored refusal states choices entries finals play = record { table = printout_of stored refusal states entries finals; choices = choices; play = play }

abbrev pub play_places_of : PlayPrintout → ℕ
play_places_of p = play_places p.table.refusal p.table.states p.choices p.play

-- The text was compiled with a play table in tables of so many rows, and what was left in them is printed.
pub record ShownIn (text : List ℕ) (stored : StoredSheet) (rows choices entries_room finals_room play_room : ℕ) (r : Handed) : Type 0 where
  pub answer : CompileAnswer
  pub entries : List ℕ
  pub finals : List ℕ
  pub play : List ℕ
  pub call : ForceCall text (room_of_rows entries_room finals_room rows) play_room answer (tables_of_rows rows entries finals) play
  pub hands : Hands (play_output (play_printout stored answer.refusal answer.states choices entries finals play)) r.size r.whole
