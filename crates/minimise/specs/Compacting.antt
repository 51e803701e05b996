-- The numbering of classes by their first rows, and the rows of the table in place of the graph's.
use Rattle.std.specs.Prelude.{◌≡◌, List, ℕ, suc, ◌+◌, ◌*◌, ◌-◌, ◌<◌, ◌≤◌, get_or, length}
use Rattle.automaton.specs.Table.{no_state}

-- The first rows of the classes among the first r rows, in rising order, are `first` 0 to n - 1; `number` has the place of each.
pub record IsNumbered (class number first : List ℕ) (r n : ℕ) : Type 0 where
  pub most : n ≤ r
  pub inside : (j : ℕ) → j < n → get_or first j 0 < r
  pub own : (j : ℕ) → j < n → get_or class (get_or first j 0) 0 ≡ suc (get_or first j 0)
  pub rising : (i j : ℕ) → i < j → j < n → get_or first i 0 < get_or first j 0
  pub place : (s : ℕ) → s < r → get_or class s 0 ≡ suc s → get_or number s 0 < n
  pub first_of : (s : ℕ) → s < r → get_or class s 0 ≡ suc s → get_or first (get_or number s 0) 0 ≡ s

-- v is the state of the row that an entry names: none if the row has no class
pub record IsState (class number : List ℕ) (entry v : ℕ) : Type 0 where
  pub none : get_or class entry 0 ≡ 0 → v ≡ no_state
  pub some : 0 < get_or class entry 0 → v ≡ get_or number (get_or class entry 0 - 1) 0

-- each class has a number that is no larger than an entry can be
pub record IsNameable (class number : List ℕ) : Type 0 where
  pub inside : (s : ℕ) → get_or class s 0 ≤ length number
  pub small : (s : ℕ) → 0 < get_or class s 0 → get_or number (get_or class s 0 - 1) 0 < 65536

-- the first `count` entries from `from` stand at `to`, renamed; what lies before `to`, or from `from + count` on, is as it was
pub record IsMoved (class number old new : List ℕ) (from to count end : ℕ) : Type 0 where
  pub moved : (a : ℕ) → a < count → IsState class number (get_or old (from + a) 0) (get_or new (to + a) 0)
  pub before : (i : ℕ) → i < to → get_or new i 0 ≡ get_or old i 0
  pub after : (i : ℕ) → end ≤ i → get_or new i 0 ≡ get_or old i 0

-- what the rows of the first n states are afterwards
pub record IsCompacted (letters : ℕ) (class number first entries finals entries' finals' : List ℕ) (n : ℕ) : Type 0 where
  pub rows : (j a : ℕ) → j < n → a < letters → IsState class number (get_or entries (get_or first j 0 * letters + a) 0) (get_or entries' (j * letters + a) 0)
  pub bytes : (j : ℕ) → j < n → get_or finals' j 0 ≡ get_or finals (get_or first j 0) 0
