-- What a compile gives: one relation over the sheet's bytes, the lent tables, the answer and the contents of every lent table afterwards.
use Rattle.std.specs.Prelude.{ℕ, ◌-◌, ◌*◌, ◌≤◌, ◌<◌, ◌≡◌, List, ◌∷◌, length, drop}
use Rattle.basics.specs.Count.{CountOf, MoreThan}
use Rattle.automaton.specs.Words.{Word}
use Rattle.automaton.specs.Solutions.{NoSolution}
use Rattle.automaton.specs.Stored.{StoredTable}
use Rattle.meaning.specs.Expression.{Sheet}
use Rattle.meaning.specs.Letter.{letter_count, SolutionWord}
use Rattle.meaning.specs.Situation.{IsSituation}
use Rattle.sheet.specs.Refusal.{refused, sheet, AnswerTo}
use Rattle.outcome.specs.Room.{LentTable, fewest_rows, zeros, zero_tables}

-- "4,096 situations"
abbrev pub situation_bound : ℕ
situation_bound = 4096

-- The refusal's number or 0, "the number of states and the number of distinct situations".
pub record CompileAnswer : Type 0 where
  pub refusal : ℕ
  pub states : ℕ
  pub situations : ℕ

-- "A refusal returns its number with states and situations 0."
abbrev pub refused_answer : ℕ → CompileAnswer
refused_answer n = record { refusal = n; states = 0; situations = 0 }

-- The lent tables: the numbers that the entries and the final bytes have room for, and the work tables.
pub record Room : Type 0 where
  pub entries : ℕ
  pub finals : ℕ
  pub work : List LentTable

-- "A row takes one entry per letter in the table, one final byte, and up to 32 numbers in work tables".
abbrev pub room_rows : Room → ℕ → ℕ
room_rows room letters =
    fewest_rows (record { per_row = letters; size = room.entries }) (record { per_row = 1; size = room.finals } ∷ room.work)

-- What the lent tables hold.
pub record Tables : Type 0 where
  pub entries : List ℕ
  pub finals : List ℕ
  pub work : List (List ℕ)

-- "After a refused compile every lent table is zero" (demand 1).
abbrev pub all_zero : Room → Tables
all_zero room = record { entries = zeros room.entries; finals = zeros room.finals; work = zero_tables room.work }

-- ---- what is given of a set of words

-- The used rows hold the table of the set of words, and "Room beyond the used rows [..] is zero, and work tables are zero after every call."
pub record HoldsTable (Sol : Word → Type 0) (letters : ℕ) (room : Room) (states : ℕ) (t : Tables) : Type 0 where
  pub entries_size : length t.entries ≡ room.entries
  pub finals_size : length t.finals ≡ room.finals
  pub table : StoredTable Sol letters states t.entries t.finals
  pub entries_beyond : drop (states * letters) t.entries ≡ zeros (room.entries - states * letters)
  pub finals_beyond : drop states t.finals ≡ zeros (room.finals - states)
  pub work_zero : t.work ≡ zero_tables room.work

-- The m things that take a row each fit the bound and the rows lent: neither 8 nor 10 applies.
pub record CountFits {X : Type 0} (Counted : X → Type 0) (letters : ℕ) (room : Room) (m : ℕ) : Type 0 where
  pub counted : CountOf Counted m
  pub within_bound : m ≤ situation_bound
  pub within_room : m ≤ room_rows room letters

-- What is given of a set of words over so many letters, where each thing that is counted takes a row: for a sheet its solutions and situations.
pub data WordsOutcome (Sol : Word → Type 0) (letters : ℕ) {X : Type 0} (Counted : X → Type 0) (room : Room) : CompileAnswer → Tables → Type 0 where
  -- "8: all lent tables hold 4,096 rows or more, and there are more situations."
  too_many_situations : situation_bound ≤ room_rows room letters → MoreThan Counted situation_bound → WordsOutcome Sol letters Counted room (refused_answer 8) (all_zero room)
  -- "10: the fewest rows any lent table holds, R, is below 4,096, and the situations exceed R"
  too_few_rows : room_rows room letters < situation_bound → MoreThan Counted (room_rows room letters) → WordsOutcome Sol letters Counted room (refused_answer 10) (all_zero room)
  -- "9: no solution."
  no_solution : {m : ℕ} → CountFits Counted letters room m → NoSolution letters Sol → WordsOutcome Sol letters Counted room (refused_answer 9) (all_zero room)
  -- the table, with the number of states and of what is counted
  compiled : {m n : ℕ} {t : Tables} → CountFits Counted letters room m → HoldsTable Sol letters room n t
      → WordsOutcome Sol letters Counted room (record { refusal = 0; states = n; situations = m }) t

-- ---- what a compile gives

-- The same of a sheet: its solutions as words of letter numbers, its letters and its situations.
abbrev pub HoldsSheetTable : Sheet → Room → ℕ → Tables → Type 0
HoldsSheetTable s = HoldsTable (SolutionWord s) (letter_count s.streams)

abbrev pub SituationsFit : Sheet → Room → ℕ → Type 0
SituationsFit s = CountFits (IsSituation s) (letter_count s.streams)

-- What a compile gives once the sheet is read.
abbrev pub SheetOutcome : Sheet → Room → CompileAnswer → Tables → Type 0
SheetOutcome s = WordsOutcome (SolutionWord s) (letter_count s.streams) (IsSituation s)

-- "The lowest that applies to the whole sheet is given, but 10 comes before 9."
pub data CompileOutcome (text : List ℕ) (room : Room) : CompileAnswer → Tables → Type 0 where
  -- refusals 1 to 7
  unread : {n : ℕ} → AnswerTo text (refused n) → CompileOutcome text room (refused_answer n) (all_zero room)
  -- none of refusals 1 to 7 applies
  read : {s : Sheet} {a : CompileAnswer} {t : Tables} → AnswerTo text (sheet s) → SheetOutcome s room a t → CompileOutcome text room a t

-- A call of the compile with this text and this room gave this answer and left these tables: what the public function `compile` (crate compile)
-- and its entry for C ensure, beside what they tell of the sheet, and what the theorems about calls (crate theorems) take.
abbrev pub CompileCall : List ℕ → Room → CompileAnswer → Tables → Type 0
CompileCall text room a t = CompileOutcome text room a t
