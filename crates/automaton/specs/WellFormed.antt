-- Tables as they are lent to a call: any entries, any final bytes, any number of letters. Document 01 says which entries are a
-- whole table, and document 02 which tables are well formed ("a malformed table [..] is 11, as in S-3").
use Rattle.std.specs.Prelude.{◌≡◌, ◌⊎◌, ◌≢◌, List, ℕ, ◌*◌, ◌<◌, ◌≤◌, length, get_or}
use Rattle.automaton.specs.Table.{no_state}

-- "over 4,096 rows"
abbrev pub most_rows : ℕ
most_rows = 4096

-- in n rows: "An entry is the next state, or 65,535 for none."
pub record RowEntries (k n : ℕ) (entry : ℕ → ℕ → ℕ) : Type 0 where
  pub row_or_none : (i a : ℕ) → i < n → a < k → (entry i a < n) ⊎ (entry i a ≡ no_state)

-- The entries of a table with n rows for k letters. Document 01: "no letters, a table length that is not whole rows or is over
-- 4,096 rows", and "neither a row's number nor 65,535", do not apply.
pub record WholeTable (k n : ℕ) (entries : List ℕ) : Type 0 where
  pub some_letter : k ≢ 0
  pub some_row : 0 < n
  pub few_rows : n ≤ most_rows
  pub whole_rows : length entries ≡ n * k
  pub state_or_none : (i : ℕ) → i < length entries → (get_or entries i 0 < n) ⊎ (get_or entries i 0 ≡ no_state)

-- Document 02, S-3: "11 (here for any entry of the table, or final bytes that are not one 0 or 1 a row)" does not apply to the
-- table: it is whole, and has one final byte for each row.
pub record IsWellFormed (k : ℕ) (entries finals : List ℕ) : Type 0 where
  pub whole : WholeTable k (length finals) entries
  pub flags : (i : ℕ) → i < length finals → get_or finals i 0 ≤ 1

-- nor does "a state [..] outside": s is a row of a table that is well formed
pub record WellFormedState (k : ℕ) (entries finals : List ℕ) (s : ℕ) : Type 0 where
  pub well_formed : IsWellFormed k entries finals
  pub is_row : s < length finals
