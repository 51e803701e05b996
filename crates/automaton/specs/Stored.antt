-- A table as it is stored: a list of entries, row after row, and a list of final bytes.
use Rattle.std.specs.Prelude.{ℕ, ◌+◌, ◌*◌, ◌≤◌, List, length}
use Rattle.basics.specs.Lists.{at}
use Rattle.automaton.specs.Words.{Word}
use Rattle.automaton.specs.Table.{IsTable, SameRows}

-- "A row takes one entry per letter in the table": the entry of state i for letter a stands at i * k + a.
abbrev pub entry_at : (k : ℕ) (entries : List ℕ) (i a : ℕ) → ℕ
entry_at k entries i a = at entries (i * k + a)

-- "one final byte": that of state i stands at i.
abbrev pub final_at : (finals : List ℕ) (i : ℕ) → ℕ
final_at finals i = at finals i

-- "The used rows are the first rows, as many as the states reported": they lie within the lists, and hold the table.
pub record StoredTable (Sol : Word → Type 0) (k n : ℕ) (entries finals : List ℕ) : Type 0 where
  pub entries_fit : n * k ≤ length entries
  pub finals_fit : n ≤ length finals
  pub table : IsTable Sol k n (entry_at k entries) (final_at finals)

-- the set has a table
pub record HasTable (Sol : Word → Type 0) (k : ℕ) : Type 0 where
  pub states : ℕ
  pub entries : List ℕ
  pub finals : List ℕ
  pub stored : StoredTable Sol k states entries finals

-- "Those of two tables are equal if they are as many and agree in every entry and final byte."
abbrev pub SameUsedRows : (k n : ℕ) (entries finals : List ℕ) (n' : ℕ) (entries' finals' : List ℕ) → Type 0
SameUsedRows k n entries finals n' entries' finals' =
    SameRows k n (entry_at k entries) (final_at finals) n' (entry_at k entries') (final_at finals')
