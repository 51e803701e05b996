-- What is told of a sheet beside the answer of its compile: the number of letters and the streams, which a host needs to follow the table. "The kinds
-- travel with every description of a stream" (document 02, S-6).
use Rattle.std.specs.Prelude.{ℕ, ◌≡◌, Bool, cond, List, eqb}
use Rattle.sheet.specs.Reading.{answer_to}
use Rattle.outcome.specs.Compile.{Room, Tables, CompileCall}
use Rattle.reader.specs.Stored.{reading_of}
use Rattle.reader.specs.declared.StoredSheet.{StoredSheet}
use Rattle.streams.specs.Description.{none_described}
use Rattle.streams.specs.declared.StreamsDescription.{StreamsDescription}
use Rattle.compiled.specs.Answer.{refused_with, answer_of}
use Rattle.compiled.specs.declared.Compiled.{Compiled}
use Rattle.compiled_sheet.specs.declared.CompiledSheet.{CompiledSheet}

abbrev pub sheet_streams : StoredSheet → StreamsDescription
sheet_streams x = record { count = x.streams; names = x.names; lengths = x.lengths; lows = x.lows; highs = x.highs; kinds = x.stream_kinds }

abbrev pub told_with : Compiled → ℕ → StreamsDescription → CompiledSheet
told_with c letters streams = record { refusal = c.refusal; states = c.states; situations = c.situations; letters = letters; streams = streams }

-- With refusal 0 the letters and streams of the stored sheet, else zeros.
abbrev pub told : StoredSheet → Compiled → CompiledSheet
told x c = cond (eqb c.refusal 0) (told_with c x.letters (sheet_streams x)) (told_with c 0 none_described)

-- "16, exactly when the river can prevent a solution from state 0, after the compile's own numbers" (document 02, S-7): with it nothing is told.
abbrev pub told_with_play : CompiledSheet → (forced : Bool) → CompiledSheet
told_with_play r forced = cond (eqb r.refusal 0) (cond forced r (told_with (refused_with 16) 0 none_described)) r

-- The answer of the compile.
abbrev pub compiled_in : CompiledSheet → Compiled
compiled_in r = record { refusal = r.refusal; states = r.states; situations = r.situations }

-- The answer tells of the text's sheet: its letters and streams with refusal 0, and nothing with another.
abbrev pub Tells : List ℕ → CompiledSheet → Type 0
Tells text r = r ≡ told (reading_of (answer_to text)).sheet (compiled_in r)

-- A call of the compile with this text and this room gave this answer, with what is told of the text's sheet, and left these tables.
pub record SheetCall (text : List ℕ) (room : Room) (r : CompiledSheet) (t : Tables) : Type 0 where
  pub call : CompileCall text room (answer_of (compiled_in r)) t
  pub tells : Tells text r
