-- What the program `replay` prints by its calls, in the terms of their contracts (replaying, Machine).
use Rattle.std.specs.Prelude.{ℕ, min, ◌≡◌, List, [], take}
use Rattle.std.proofs.Math.Option.{Option}
use Rattle.text.specs.Bytes.{Token, lines}
use Rattle.text.specs.Lines.{run_chunks}
use Rattle.meaning.specs.Expression.{Sheet}
use Rattle.sheet.specs.Refusal.{sheet, AnswerTo}
use Rattle.reader.specs.declared.StoredSheet.{StoredSheet}
use Rattle.reader.specs.Stored.{stored_sheet}
use Rattle.replaying.specs.Replay.{replayed_lines}
use Rattle.replaying.specs.Machine.{PlayedSheet, played_sheet, playing, start_replay, play_byte, last_line, closed_replay}
use Rattle.opening.specs.declared.OpenedTable.{OpenedTable}
use Rattle.opening.specs.Plays.{Plays}

-- The sheet as the program passes it: the names uncut, the other lists cut to the streams.
abbrev pub passed_sheet : StoredSheet → List ℕ → PlayedSheet
passed_sheet x entries =
    let streams = min x.streams 8 in
    played_sheet x.names (take streams x.lengths) (take streams x.lows) (take streams x.highs) entries

-- What the calls print for the chunks of a record, from a state, with its end.
abbrev pub printed_by : PlayedSheet → ℕ → List (List ℕ) → List ℕ
printed_by k state chunks = (closed_replay k (last_line k (run_chunks (play_byte k) (playing (start_replay state) []) chunks))).printed

-- The stored sheet is that of the text, and each record is played along the entries from the state.
pub record PlaysOpened (text : List ℕ) (start : Option Token) (r : OpenedTable) (entries : List ℕ) : Type 0 where
  pub source : Sheet
  pub reads : AnswerTo text (sheet source)
  pub stored : r.sheet ≡ stored_sheet source
  pub plays : (record_text : List ℕ) → Plays text record_text start (replayed_lines source.streams entries r.state (lines record_text))
