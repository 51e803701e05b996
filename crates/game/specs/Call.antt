-- What a call for a play table gives, with what is told of the sheet.
use Rattle.std.specs.Prelude.{ℕ, List}
use Rattle.outcome.specs.Compile.{Room, Tables}
use Rattle.outcome.specs.Force.{ForceCall}
use Rattle.compiled.specs.Answer.{answer_of}
use Rattle.compiled_sheet.specs.Told.{compiled_in, Tells}
use Rattle.compiled_sheet.specs.declared.CompiledSheet.{CompiledSheet}

-- A call with this text, this room and a play table of so many numbers gave this answer, with what is told of the text's sheet, and left these tables and this
-- play table.
pub record ForceSheetCall (text : List ℕ) (room : Room) (size : ℕ) (r : CompiledSheet) (t : Tables) (play : List ℕ) : Type 0 where
  pub call : ForceCall text room size (answer_of (compiled_in r)) t play
  pub tells : Tells text r
