-- What `replay` prints for the bytes of a sheet and of a record and for the text of a start (document 02, S-1).
use Rattle.std.specs.Prelude.{ℕ, ◌≡◌, List}
use Rattle.std.proofs.Math.Option.{Option, none, some}
use Rattle.text.specs.Bytes.{Token, lines}
use Rattle.meaning.specs.Expression.{Sheet}
use Rattle.outcome.specs.Compile.{CompileAnswer, Tables}
use Rattle.lend.specs.Lend.{CompiledLent, RefusedLent}
use Rattle.print.specs.Text.{refusal_line}
use Rattle.replaying.specs.Replay.{replayed_lines}
use Rattle.opening.specs.Start.{start_state}

pub data Plays (sheet_text record_text : List ℕ) (start : Option Token) : List ℕ → Type 0 where
  -- "A refused sheet or start, or names that differ, print no heading." The sheet's numbers come before all others.
  refused_sheet : {n : ℕ} → RefusedLent sheet_text n → Plays sheet_text record_text start (refusal_line n)
  -- "Turned away, after the sheet's numbers: 11, a start that is no state of the table"
  no_start : {s : Sheet} {a : CompileAnswer} {t : Tables} → CompiledLent sheet_text s a t → a.refusal ≡ 0 → start_state a.states start ≡ none
      → Plays sheet_text record_text start (refusal_line 11)
  -- "reads sheet and record and prints `line state`, then one such line per value line [..] with the state reached"
  played : {s : Sheet} {a : CompileAnswer} {t : Tables} {state : ℕ} → CompiledLent sheet_text s a t → a.refusal ≡ 0 → start_state a.states start ≡ some state
      → Plays sheet_text record_text start (replayed_lines s.streams t.entries state (lines record_text))

-- There is an outcome.
pub record HasReplayOutput (sheet_text record_text : List ℕ) (start : Option Token) : Type 0 where
  pub bytes : List ℕ
  pub plays : Plays sheet_text record_text start bytes
