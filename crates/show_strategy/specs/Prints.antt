-- What `strategy` prints for the bytes of a sheet (document 02, S-7). Which letters a play table holds is free, and so are the values of the lines that are
-- printed of them: what is printed is settled by the play table.
use Rattle.std.specs.Prelude.{ℕ, ◌*◌, ◌<◌, ◌≡◌, List}
use Rattle.meaning.specs.Expression.{Sheet}
use Rattle.meaning.specs.Letter.{letter_count}
use Rattle.meaning.specs.Choice.{choice_count}
use Rattle.sheet.specs.Refusal.{refused, sheet, AnswerTo}
use Rattle.outcome.specs.Compile.{CompileAnswer, Tables}
use Rattle.outcome.specs.Force.{SamePlayRows, ForceCall}
use Rattle.lend.specs.Lend.{rows_lent, lent_room}
use Rattle.print.specs.Text.{refusal_line}
use Rattle.play_text.specs.Play.{play_text}

-- The text is a sheet, and its compile with a play table in the rows lent, as many for the play table, gave this answer and left these tables and this play table.
pub record ForcedLent (text : List ℕ) (s : Sheet) (a : CompileAnswer) (t : Tables) (play : List ℕ) : Type 0 where
  pub reads : AnswerTo text (sheet s)
  pub call : ForceCall text (lent_room (letter_count s.streams)) (rows_lent (letter_count s.streams) * choice_count s.streams) a t play

pub data PrintsStrategy (text : List ℕ) : List ℕ → Type 0 where
  -- a refusal 1 to 7
  refused_text : {n : ℕ} → AnswerTo text (refused n) → PrintsStrategy text (refusal_line n)
  -- a refusal of the compile, or 16
  refused_sheet : {s : Sheet} {a : CompileAnswer} {t : Tables} {play : List ℕ} → ForcedLent text s a t play → 0 < a.refusal → PrintsStrategy text (refusal_line a.refusal)
  -- the heading, then for each state whose row holds letters and each choice in order the line of the letter held
  played : {s : Sheet} {a : CompileAnswer} {t : Tables} {play : List ℕ} → ForcedLent text s a t play → a.refusal ≡ 0 → PrintsStrategy text (play_text s.streams a.states t.entries t.finals play)

-- There is an outcome.
pub record HasStrategyOutput (text : List ℕ) : Type 0 where
  pub bytes : List ℕ
  pub prints : PrintsStrategy text bytes

-- What is settled of two outputs of one text: they are the same, or those of two play tables of one table, which hold letters for the same states.
pub data SameOutput (text : List ℕ) : (b c : List ℕ) → Type 0 where
  same : {b : List ℕ} → SameOutput text b b
  same_plays : {s : Sheet} {a : CompileAnswer} {t : Tables} {play play' : List ℕ} → ForcedLent text s a t play → ForcedLent text s a t play' → SamePlayRows text a.states play play'
      → SameOutput text (play_text s.streams a.states t.entries t.finals play) (play_text s.streams a.states t.entries t.finals play')
