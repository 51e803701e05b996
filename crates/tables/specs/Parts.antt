-- The parts of a well_formed table that are tested one after the other.
use Rattle.std.specs.Prelude.{◌≡◌, ◌⊎◌, ◌≢◌, List, ℕ, ◌*◌, ◌<◌, ◌≤◌, length, get_or}
use Rattle.automaton.specs.Table.{no_state}
use Rattle.automaton.specs.WellFormed.{most_rows}

-- n rows for k letters take as many entries as there are
pub record HasTableSizes (k n size : ℕ) : Type 0 where
  pub some_letter : k ≢ 0
  pub some_row : 0 < n
  pub few_rows : n ≤ most_rows
  pub whole_rows : size ≡ n * k

-- the first m entries are rows or none
abbrev pub AreRows : (entries : List ℕ) (n m : ℕ) → Type 0
AreRows entries n m = (i : ℕ) → i < m → (get_or entries i 0 < n) ⊎ (get_or entries i 0 ≡ no_state)

-- each final byte is 0 or 1
abbrev pub AreFlags : (finals : List ℕ) → Type 0
AreFlags finals = (i : ℕ) → i < length finals → get_or finals i 0 ≤ 1
