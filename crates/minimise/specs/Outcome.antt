-- What `minimise` makes of its arguments: one relation over the tables at the call, the letters and rows given, the answer, and
-- the tables afterwards. It mentions no algorithm.
use Rattle.std.specs.Prelude.{◌≡◌, ◌⊎◌, List, [], ◌∷◌, ℕ, ◌*◌, ◌≤◌, get_or, length, replicate}
use Rattle.automaton.specs.Words.{Word, InRange}
use Rattle.automaton.specs.Stored.{StoredTable}
use Rattle.automaton.specs.Graph.{Language}
use Rattle.stored_graph.specs.StoredGraph.{IsStoredGraph, stored_graph}

-- the lent tables: entries, flags (final bytes afterwards) and the work tables
pub record GraphTables : Type 0 where
  pub entries : List ℕ
  pub flags : List ℕ
  pub work : List (List ℕ)

-- each work table has room for the rows
abbrev pub WorkHasRoom : ℕ → List (List ℕ) → Type 0
WorkHasRoom rows [] = Unit {0}
WorkHasRoom rows (w ∷ ws) = (rows ≤ length w) × WorkHasRoom rows ws

-- the lists, with 0 in every place
abbrev pub cleared : List (List ℕ) → List (List ℕ)
cleared [] = []
cleared (w ∷ ws) = replicate (length w) 0 ∷ cleared ws

-- the arguments are a graph, and every work table has room for its rows
pub record IsAccepted (before : GraphTables) (letters rows : ℕ) : Type 0 where
  pub graph : IsStoredGraph before.entries before.flags letters rows
  pub room : WorkHasRoom rows before.work

-- "A refusal returns its number with states and situations 0", and every table is zero
pub record IsRefusal (number : ℕ) (before : GraphTables) (refusal states : ℕ) (after : GraphTables) : Type 0 where
  pub number_is : refusal ≡ number
  pub no_states : states ≡ 0
  pub entries_zero : after.entries ≡ replicate (length before.entries) 0
  pub flags_zero : after.flags ≡ replicate (length before.flags) 0
  pub work_zero : after.work ≡ cleared before.work

-- 11: the arguments are no graph in tables with room
pub record NoGraph (before : GraphTables) (letters rows refusal states : ℕ) (after : GraphTables) : Type 0 where
  pub refused : ¬ IsAccepted before letters rows
  pub answer : IsRefusal 11 before refusal states after

-- 9: the language of the start has no word
pub record NoWord (before : GraphTables) (letters rows refusal states : ℕ) (after : GraphTables) : Type 0 where
  pub accepted : IsAccepted before letters rows
  pub empty : (w : Word) → InRange letters w → ¬ Language (stored_graph accepted.graph) 0 w
  pub answer : IsRefusal 9 before refusal states after

-- 0: the used rows hold the table of the start's language. "Room beyond the used rows [..] is zero, and work tables are zero
-- after every call."
pub record TableGiven (before : GraphTables) (letters rows refusal states : ℕ) (after : GraphTables) : Type 0 where
  pub accepted : IsAccepted before letters rows
  pub no_refusal : refusal ≡ 0
  pub table : StoredTable (Language (stored_graph accepted.graph) 0) letters states after.entries after.flags
  pub entries_length : length after.entries ≡ length before.entries
  pub flags_length : length after.flags ≡ length before.flags
  pub entries_beyond : (i : ℕ) → states * letters ≤ i → get_or after.entries i 0 ≡ 0
  pub flags_beyond : (i : ℕ) → states ≤ i → get_or after.flags i 0 ≡ 0
  pub work_zero : after.work ≡ cleared before.work

abbrev pub MinimiseOutcome : (before : GraphTables) (letters rows refusal states : ℕ) (after : GraphTables) → Type 0
MinimiseOutcome before letters rows refusal states after =
    NoGraph before letters rows refusal states after ⊎ (NoWord before letters rows refusal states after ⊎ TableGiven before letters rows refusal states after)
