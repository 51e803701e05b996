-- What `replay` prints for the lines of a record, from the streams of the sheet, the entries of its table and a state (document 02, S-1). "Record"
-- and "letter" are the papers' terms.
use Rattle.std.specs.Prelude.{ℕ, suc, cond, List, [], ◌∷◌, ◌++◌, eqb, pos}
use Rattle.text.specs.Bytes.{bytes_of}
use Rattle.meaning.specs.Expression.{Stream}
use Rattle.meaning.specs.Letter.{letter_count}
use Rattle.sheet.specs.Form.{names_of}
use Rattle.automaton.specs.Table.{no_state}
use Rattle.automaton.specs.Stored.{entry_at}
use Rattle.print.specs.Text.{line, decimal, refusal_line}
use Rattle.records.specs.Line.{ValueLine, malformed, outside, letter, value_line}
use Rattle.record_names.specs.Line.{is_names_line}

-- "prints `line state`"
abbrev pub replay_heading : List ℕ
replay_heading = line (bytes_of "line" ∷ []) (bytes_of "state")

-- "one such line per value line, counted from 1, with the state reached"
abbrev pub state_line : ℕ → ℕ → List ℕ
state_line number state = line (decimal (pos number) ∷ []) (decimal (pos state))

-- ---- the lines of a record

-- What a value line leads to: a state, or a refusal by its number.
pub data LineOutcome : Type 0 where
  reaches : ℕ → LineOutcome
  refuses : ℕ → LineOutcome

-- "the first line that has no way on [..] `refused 12`"
abbrev pub entered : ℕ → LineOutcome
entered next = cond (eqb next no_state) (refuses 12) (reaches next)

-- The line is printed, and what comes after it from the state reached; "the first line with a fault decides [..] and the lines printed before it
-- remain".
abbrev pub line_then : ℕ → (ℕ → List ℕ) → LineOutcome → List ℕ
line_then number rest (reaches state) = state_line number state ++ rest state
line_then number rest (refuses n) = refusal_line n

module _ (ss : List Stream) (entries : List ℕ) where
  -- "in the order 13, 14, 12"
  abbrev pub outcome_from : ℕ → ValueLine → LineOutcome
  outcome_from state malformed = refuses 13
  outcome_from state outside = refuses 14
  outcome_from state (letter a) = entered (entry_at (letter_count ss) entries state a)

  -- The value lines from one on, with its number, from a state.
  unfoldable pub replayed : (number state : ℕ) → List (List ℕ) → List ℕ
  replayed number state [] = []
  replayed number state (l ∷ ls) = line_then number (λ next. replayed (suc number) next ls) (outcome_from state (value_line ss l))

  -- All lines: "names that differ, print no heading"; a record without lines has no names. "A record with names only prints the heading alone."
  unfoldable pub replayed_lines : (state : ℕ) → List (List ℕ) → List ℕ
  replayed_lines state [] = refusal_line 13
  replayed_lines state (l ∷ ls) = cond (is_names_line (names_of ss) l) (replay_heading ++ replayed 1 state ls) (refusal_line 13)
