-- The step (document 01): the refusals that it can give, and its answer. "State", "letter", "entry" and "row" are document
-- 01's terms. A table is the list of its bytes.
use Rattle.std.specs.Prelude.{ℕ, ◌+◌, ◌*◌, ◌/◌, ◌≤◌, ◌<◌, ◌≡◌, ◌≢◌, List, length}
use Rattle.stored.specs.Number.{number_at}
use Rattle.automaton.specs.Table.{no_state}
use Rattle.automaton.specs.WellFormed.{most_rows}

-- "two bytes an entry, low first"
abbrev pub entry_width : ℕ
entry_width = 2

-- "A row takes one entry per letter in the table": the bytes that a row takes
abbrev pub row_bytes : ℕ → ℕ
row_bytes letters = letters * entry_width

-- the whole rows that a table of a length holds, if a row takes so many of its numbers
abbrev pub whole_rows : ℕ → ℕ → ℕ
whole_rows numbers_per_row len = len / numbers_per_row

-- the rows that a table of bytes holds for so many letters
abbrev pub row_count : List ℕ → ℕ → ℕ
row_count table letters = whole_rows (row_bytes letters) (length table)

-- "the entry to be followed": the letter's entry in the state's row
abbrev pub entry_followed : List ℕ → ℕ → ℕ → ℕ → ℕ
entry_followed table letters state letter = number_at entry_width table ((state * letters + letter) * entry_width)

-- "11: in a step, no letters, a table length that is not whole rows or is over 4,096 rows, a state or letter outside, or
-- the entry to be followed is neither a row's number nor 65,535."
pub data Refusal11 (table : List ℕ) (letters state letter : ℕ) : Type 0 where
  -- "no letters"
  no_letters : letters ≡ 0 → Refusal11 table letters state letter
  -- "a table length that is not whole rows": it is the length of no number of rows
  not_whole_rows : ((rows : ℕ) → length table ≢ rows * row_bytes letters) → Refusal11 table letters state letter
  -- "or is over 4,096 rows"
  too_many_rows : most_rows < row_count table letters → Refusal11 table letters state letter
  -- "a state [..] outside"
  state_outside : row_count table letters ≤ state → Refusal11 table letters state letter
  -- "or letter outside"
  letter_outside : letters ≤ letter → Refusal11 table letters state letter
  -- "or the entry to be followed is neither a row's number nor 65,535"
  no_row : row_count table letters ≤ entry_followed table letters state letter → entry_followed table letters state letter ≢ no_state
      → Refusal11 table letters state letter

-- "12: in a step, the entry is 65,535."
pub data Refusal12 (table : List ℕ) (letters state letter : ℕ) : Type 0 where
  missing : entry_followed table letters state letter ≡ no_state → Refusal12 table letters state letter

-- "gets the state or 65,536 plus the refusal"
abbrev pub refused_step : ℕ → ℕ
refused_step refusal = 65536 + refusal

-- The answer of a step: 65,536 plus the lowest refusal that applies, or the next state.
pub data StepAnswer (table : List ℕ) (letters state letter : ℕ) : ℕ → Type 0 where
  refused11 : Refusal11 table letters state letter → StepAnswer table letters state letter (refused_step 11)
  refused12 : ¬ Refusal11 table letters state letter → Refusal12 table letters state letter → StepAnswer table letters state letter (refused_step 12)
  moves : ¬ Refusal11 table letters state letter → ¬ Refusal12 table letters state letter
      → StepAnswer table letters state letter (entry_followed table letters state letter)
