-- The queue of the old rows that are met, each with the new state that a record leads to. Rows are met letter by letter, the row at the head of the queue
-- first. `state` and `queue` are functions where they are laws' matter; the code has them in lists.
use Rattle.std.specs.Prelude.{◌≡◌, ◌⊎◌, ◌≢◌, Bool, true, false, Option, Some, None, List, ◌++◌, ℕ, ◌+◌, ◌-◌, ◌<◌, ◌≤◌, length, set, replicate}
use Rattle.basics.specs.Lists.{at}
use Rattle.automaton.specs.Table.{no_state, Before}
use Rattle.automaton.specs.Stored.{entry_at}
use Rattle.carry.specs.Carry.{LeadsToState, LacksState, AreCarried}

-- a new state is stored for the row i, one of n
pub record HasState (n : ℕ) (state : ℕ → ℕ) (i : ℕ) : Type 0 where
  pub is_row : i < n
  pub some_state : state i ≢ no_state

-- some record leads to the old row i and, in the new table, to the state j
pub record LeadsToBoth (k : ℕ) (old new : ℕ → ℕ → ℕ) (i j : ℕ) : Type 0 where
  pub by : List ℕ
  pub old_leads : LeadsToState k old i by
  pub new_leads : LeadsToState k new j by

-- the row that the letter a leads to from the row i has the state that it leads to from the row's state
pub record Agrees (n : ℕ) (old new : ℕ → ℕ → ℕ) (state : ℕ → ℕ) (i a : ℕ) : Type 0 where
  pub has_state : HasState n state (old i a)
  pub some_entry : new (state i) a ≢ no_state
  pub same_state : new (state i) a ≡ state (old i a)

-- The first `count` places of the queue hold the rows that have a state, each once, and a record leads to each row and its state. The rows before the head
-- and the letters before a at the head have been looked at: what they lead to agrees.
pub record CarryTurn (k n : ℕ) (old new : ℕ → ℕ → ℕ) (state queue : ℕ → ℕ) (count head a : ℕ) : Type 0 where
  pub start : state 0 ≡ 0
  pub held : (p : ℕ) → p < count → HasState n state (queue p)
  pub distinct : (p q : ℕ) → p < q → q < count → queue p ≢ queue q
  pub known : (i : ℕ) → HasState n state i → (p : ℕ) × (p < count) × (queue p ≡ i)
  pub led : (i : ℕ) → HasState n state i → LeadsToBoth k old new i (state i)
  pub done : (p b : ℕ) → p < count → b < k → Before p b head a → old (queue p) b ≢ no_state → Agrees n old new state (queue p) b

-- ---- in lists

-- the turn with states and queue in lists
abbrev pub StoredCarryTurn : (k n : ℕ) (entries new-entries states queue : List ℕ) (count head a : ℕ) → Type 0
StoredCarryTurn k n entries new-entries states queue count head a =
    CarryTurn k n (entry_at k entries) (entry_at k new-entries) (at states) (at queue) count head a

-- the row of an entry lies within the states, and the queue has a place for it if it has no state yet
pub record HasPlace (entry count : ℕ) (states queue : List ℕ) : Type 0 where
  pub is_row : entry ≢ no_state → entry < length states
  pub place : entry ≢ no_state → at states entry ≡ no_state → count < length queue

-- what is left after an entry was carried to the state that the new table has for it
pub data EntryCarried (entry state count : ℕ) (states queue states' queue' : List ℕ) (r : Option ℕ) : Type 0 where
  -- it leads to no row, or to one that has this state
  missing : entry ≡ no_state → states' ≡ states → queue' ≡ queue → r ≡ Some count → EntryCarried entry state count states queue states' queue' r
  kept : entry ≢ no_state → state ≢ no_state → at states entry ≡ state → states' ≡ states → queue' ≡ queue → r ≡ Some count
      → EntryCarried entry state count states queue states' queue' r
  -- its row had no state
  added : entry ≢ no_state → state ≢ no_state → at states entry ≡ no_state → states' ≡ set states entry state → queue' ≡ set queue count entry → r ≡ Some (count + 1)
      → EntryCarried entry state count states queue states' queue' r
  -- there is no state, or the row has another
  differs : entry ≢ no_state → (state ≡ no_state) ⊎ ((at states entry ≢ no_state) × (at states entry ≢ state)) → r ≡ None
      → EntryCarried entry state count states queue states' queue' r

-- after every letter of the row at the head; none where some row has no state to go on from
pub data RowCarried (k : ℕ) (entries new-entries : List ℕ) (head : ℕ) (states' queue' : List ℕ) : Option ℕ → Type 0 where
  goes_on : {r : ℕ} → StoredCarryTurn k (length states') entries new-entries states' queue' r head k → RowCarried k entries new-entries head states' queue' (Some r)
  stops : LacksState k (entry_at k entries) (entry_at k new-entries) → RowCarried k entries new-entries head states' queue' None

-- after every row of the queue
pub data RowsCarried (k : ℕ) (entries new-entries states : List ℕ) : Bool → Type 0 where
  all : AreCarried k (entry_at k entries) (entry_at k new-entries) states → RowsCarried k entries new-entries states true
  some_lacks : LacksState k (entry_at k entries) (entry_at k new-entries) → RowsCarried k entries new-entries states false

-- after the states of the rows were copied to the front of a list of `room` zeros, if they could be
pub data ListFilled (k : ℕ) (entries new-entries : List ℕ) (rows room : ℕ) : (refusal : ℕ) (list : List ℕ) → Type 0 where
  row_lacks : LacksState k (entry_at k entries) (entry_at k new-entries) → ListFilled k entries new-entries rows room 18 (replicate room 0)
  list_short : {states : List ℕ} → length states ≡ rows → AreCarried k (entry_at k entries) (entry_at k new-entries) states → room < rows
      → ListFilled k entries new-entries rows room 10 (replicate room 0)
  filled : {states : List ℕ} → length states ≡ rows → AreCarried k (entry_at k entries) (entry_at k new-entries) states → rows ≤ room
      → ListFilled k entries new-entries rows room 0 (states ++ replicate (room - rows) 0)
