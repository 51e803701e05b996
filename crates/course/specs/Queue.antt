-- The queue of the rows that a start leads to, each with its layer: how many letters lead to it at least. Rows are met letter by
-- letter, the row at the head of the queue first. `layer` and `queue` are functions here; the code has them in lists.
use Rattle.std.specs.Prelude.{◌≡◌, ◌≢◌, List, ℕ, suc, ◌+◌, ◌<◌, ◌≤◌, length, set}
use Rattle.basics.specs.Lists.{at}
use Rattle.automaton.specs.Table.{no_state, Before}
use Rattle.automaton.specs.Stored.{entry_at}
use Rattle.automaton.specs.Layers.{MetFrom, IsLayers}
use Rattle.course_tests.specs.Goal.{not_met}

-- i is one of n rows, and it is met
pub record IsMet (n : ℕ) (layer : ℕ → ℕ) (i : ℕ) : Type 0 where
  pub is_row : i < n
  pub has_layer : layer i ≢ not_met

-- The first `count` places of the queue hold the rows that are met, each once, in the order of their layers.
pub record IsQueue (n : ℕ) (layer queue : ℕ → ℕ) (count : ℕ) : Type 0 where
  pub some : 0 < count
  pub rows : (p : ℕ) → p < count → queue p < n
  pub small : (p : ℕ) → p < count → layer (queue p) ≤ p
  pub distinct : (p q : ℕ) → p < q → q < count → queue p ≢ queue q
  pub known : (i : ℕ) → IsMet n layer i → (p : ℕ) × (p < count) × (queue p ≡ i)
  pub rising : (p q : ℕ) → p ≤ q → q < count → layer (queue p) ≤ layer (queue q)

-- The rows before the head and the letters before a at the head have been looked at: where they lead to is met, at most one layer
-- on. Each row of the queue but the first was met from a row one layer before.
pub record QueueTurn (k n : ℕ) (entry : ℕ → ℕ → ℕ) (layer queue : ℕ → ℕ) (count head a : ℕ) : Type 0 where
  pub is_queue : IsQueue n layer queue count
  pub within : head < count → (p : ℕ) → p < count → layer (queue p) ≤ suc (layer (queue head))
  pub from : (p : ℕ) → 0 < p → p < count → MetFrom k entry (IsMet n layer) layer (queue p)
  pub done_met : (p b : ℕ) → p < count → b < k → Before p b head a → entry (queue p) b ≢ no_state → IsMet n layer (entry (queue p) b)
  pub done_layer : (p b : ℕ) → p < count → b < k → Before p b head a → entry (queue p) b ≢ no_state → layer (entry (queue p) b) ≤ suc (layer (queue p))

-- the turn with the layers and the queue in lists
abbrev pub StoredTurn : (k n : ℕ) (entries layers queue : List ℕ) (count head a : ℕ) → Type 0
StoredTurn k n entries layers queue count head a = QueueTurn k n (entry_at k entries) (at layers) (at queue) count head a

-- an entry of n rows
abbrev pub EntryFits : (entry n : ℕ) → Type 0
EntryFits entry n = entry ≢ no_state → entry < n

-- the queue has room for the row of an entry that is not met
pub record HasRoom (entry count : ℕ) (layers queue : List ℕ) : Type 0 where
  pub fits : EntryFits entry (length layers)
  pub room : entry ≢ no_state → at layers entry ≡ not_met → count < length queue

-- what is left after an entry was looked at, in lists: it leads to no row or to one that is met, or its row is met now
pub data EntryMet (entry next count : ℕ) (layers queue layers' queue' : List ℕ) (r : ℕ) : Type 0 where
  kept : (entry ≢ no_state → at layers entry ≢ not_met) → layers' ≡ layers → queue' ≡ queue → r ≡ count → EntryMet entry next count layers queue layers' queue' r
  added : entry ≢ no_state → at layers entry ≡ not_met → layers' ≡ set layers entry next → queue' ≡ set queue count entry → r ≡ count + 1
      → EntryMet entry next count layers queue layers' queue' r

-- after every letter of the row at the head
pub record RowMet (k : ℕ) (entries : List ℕ) (head : ℕ) (queue layers' queue' : List ℕ) (r : ℕ) : Type 0 where
  pub turn : StoredTurn k (length layers') entries layers' queue' r head k
  pub first : at queue' 0 ≡ at queue 0

-- after every row of the queue
pub record QueueEnded (k : ℕ) (entries : List ℕ) (s : ℕ) (layers queue : List ℕ) (count : ℕ) : Type 0 where
  pub is_queue : IsQueue (length layers) (at layers) (at queue) count
  pub is_layers : IsLayers k (entry_at k entries) s (IsMet (length layers) (at layers)) (at layers)
