-- What a call for a play table gives (document 02, S-7): one relation over the sheet's bytes, the lent tables, the answer and the contents of every lent table
-- afterwards.
use Rattle.std.specs.Prelude.{ℕ, ◌-◌, ◌*◌, ◌≤◌, ◌<◌, ◌≡◌, ◌↔◌, List, [], ◌∷◌, length, drop}
use Rattle.automaton.specs.Stored.{entry_at, final_at}
use Rattle.automaton.specs.Strategies.{Forces, Prevents}
use Rattle.automaton.specs.PlayTable.{Game, LacksRow, IsPlayTable}
use Rattle.meaning.specs.Expression.{Sheet}
use Rattle.meaning.specs.Letter.{letter_count, SolutionWord}
use Rattle.meaning.specs.Choice.{choice_count, choice_of}
use Rattle.sheet.specs.Refusal.{refused, sheet, AnswerTo}
use Rattle.outcome.specs.Room.{zeros}
use Rattle.outcome.specs.Compile.{CompileAnswer, refused_answer, Room, Tables, all_zero, SheetOutcome}

-- After the record r the keeper can force a solution of the sheet, or the river can prevent one.
abbrev pub KeeperForces : Sheet → List ℕ → Type 0
KeeperForces s r = Forces (letter_count s.streams) (choice_count s.streams) (choice_of s.streams) (SolutionWord s) r

abbrev pub RiverPrevents : Sheet → List ℕ → Type 0
RiverPrevents s r = Prevents (letter_count s.streams) (choice_count s.streams) (choice_of s.streams) (SolutionWord s) r

-- The game of a sheet on a table of so many states.
abbrev pub sheet_game : Sheet → ℕ → Tables → Game
sheet_game s states t =
    record {
      letters = letter_count s.streams;
      choices = choice_count s.streams;
      choice = choice_of s.streams;
      states = states;
      entry = entry_at (letter_count s.streams) t.entries;
      final = final_at t.finals;
    }

-- "The play table, one number a choice in each row, is among the lent tables of 8 and 10": the room with a play table of so many numbers.
abbrev pub with_play : Sheet → ℕ → Room → Room
with_play s size room = record { entries = room.entries; finals = room.finals; work = record { per_row = choice_count s.streams; size = size } ∷ room.work }

-- The tables that a compile leaves in that room, where the play table is zero as the work tables are.
abbrev pub with_zero_play : ℕ → Tables → Tables
with_zero_play size t = record { entries = t.entries; finals = t.finals; work = zeros size ∷ t.work }

-- The play table stands in the first rows, as many as there are states; the number for a state and a choice stands at state * choices + choice. "Room beyond
-- the used rows [..] is zero" (document 01).
pub record HoldsPlay (s : Sheet) (states : ℕ) (t : Tables) (size : ℕ) (play : List ℕ) : Type 0 where
  pub play_size : length play ≡ size
  pub play_fits : states * choice_count s.streams ≤ size
  pub is_play_table : IsPlayTable (sheet_game s states t) (SolutionWord s) (entry_at (choice_count s.streams) play)
  pub play_beyond : drop (states * choice_count s.streams) play ≡ zeros (size - states * choice_count s.streams)

pub data ForceOutcome (text : List ℕ) (room : Room) (size : ℕ) : CompileAnswer → Tables → (play : List ℕ) → Type 0 where
  -- refusals 1 to 7
  unread : {n : ℕ} → AnswerTo text (refused n) → ForceOutcome text room size (refused_answer n) (all_zero room) (zeros size)
  -- refusals 8 to 10, in the room with the play table
  not_compiled : {s : Sheet} {a : CompileAnswer} {t : Tables} → AnswerTo text (sheet s) → SheetOutcome s (with_play s size room) a t → 0 < a.refusal
      → ForceOutcome text room size a (all_zero room) (zeros size)
  -- "16, exactly when the river can prevent a solution from state 0, after the compile's own numbers; every lent table is then zero."
  prevented : {s : Sheet} {a : CompileAnswer} {t : Tables} → AnswerTo text (sheet s) → SheetOutcome s (with_play s size room) a t → a.refusal ≡ 0 → RiverPrevents s []
      → ForceOutcome text room size (refused_answer 16) (all_zero room) (zeros size)
  -- the compile's answer and table, with a play table
  forced : {s : Sheet} {a : CompileAnswer} {t : Tables} {play : List ℕ} → AnswerTo text (sheet s) → SheetOutcome s (with_play s size room) a (with_zero_play size t) → a.refusal ≡ 0
      → KeeperForces s [] → HoldsPlay s a.states t size play → ForceOutcome text room size a t play

-- What is settled of a play table: its numbers beyond the rows of the states, and which of these rows hold 65,535. Which letters the others hold is free
-- beyond `IsPlayTable`.
pub record SamePlayRows (text : List ℕ) (states : ℕ) (play play' : List ℕ) : Type 0 where
  pub size : length play ≡ length play'
  pub rows : (s : Sheet) → AnswerTo text (sheet s) → (i : ℕ) → i < states
      → LacksRow (choice_count s.streams) (entry_at (choice_count s.streams) play) i ↔ LacksRow (choice_count s.streams) (entry_at (choice_count s.streams) play') i
  pub beyond : (s : Sheet) → AnswerTo text (sheet s) → drop (states * choice_count s.streams) play ≡ drop (states * choice_count s.streams) play'

-- A call with this text, this room and a play table of so many numbers gave this answer and left these tables and this play table: what the public function
-- `force` (crate game) and its entry for C ensure, and what the theorems about calls (crate theorems) take.
abbrev pub ForceCall : List ℕ → Room → ℕ → CompileAnswer → Tables → List ℕ → Type 0
ForceCall text room size a t play = ForceOutcome text room size a t play
