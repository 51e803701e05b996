-- What the passes leave in the entries and the final bytes before all beyond the used rows is cleared.
use Rattle.std.specs.Prelude.{◌≡◌, ◌⊎◌, List, ℕ, ◌≤◌, length}
use Rattle.automaton.specs.Words.{Word, InRange}
use Rattle.automaton.specs.Table.{IsTable}
use Rattle.automaton.specs.Stored.{entry_at, final_at}
use Rattle.automaton.specs.Graph.{Language}
use Rattle.marks.specs.Marks.{Marked}
use Rattle.stored_graph.specs.StoredGraph.{IsStoredGraph, stored_graph}
use Rattle.live_rows.specs.Sets.{FindsLive}
use Rattle.minimise.specs.Outcome.{WorkHasRoom}

pub record Unfit (entries flags : List ℕ) (letters rows refusal : ℕ) : Type 0 where
  pub no_graph : ¬ IsStoredGraph entries flags letters rows
  pub refused : refusal ≡ 11

pub record Wordless (entries flags : List ℕ) (letters rows refusal : ℕ) : Type 0 where
  pub graph : IsStoredGraph entries flags letters rows
  pub empty : (w : Word) → InRange letters w → ¬ Language (stored_graph graph) 0 w
  pub refused : refusal ≡ 9

-- a graph whose live rows are marked, row 0 among them
pub record HasWord (entries flags : List ℕ) (letters rows : ℕ) (live : List ℕ) : Type 0 where
  pub graph : IsStoredGraph entries flags letters rows
  pub rows_are : length live ≡ rows
  pub found : FindsLive letters entries flags live
  pub start : Marked live 0

abbrev pub RowsJudged : (entries flags : List ℕ) (letters rows refusal : ℕ) (live : List ℕ) → Type 0
RowsJudged entries flags letters rows refusal live =
    Unfit entries flags letters rows refusal ⊎ (Wordless entries flags letters rows refusal ⊎ ((refusal ≡ 0) × HasWord entries flags letters rows live))

pub record Tabled (entries flags : List ℕ) (letters rows states : ℕ) (entries' flags' : List ℕ) : Type 0 where
  pub graph : IsStoredGraph entries flags letters rows
  pub few_states : states ≤ rows
  pub table : IsTable (Language (stored_graph graph) 0) letters states (entry_at letters entries') (final_at flags')

-- the arguments are no graph, or a work table has fewer rows
pub record Rejected (entries flags : List ℕ) (letters rows : ℕ) (work : List (List ℕ)) (refusal : ℕ) : Type 0 where
  pub no_room : ¬ (IsStoredGraph entries flags letters rows × WorkHasRoom rows work)
  pub refused : refusal ≡ 11

-- no table: one of the two refusals
abbrev pub ReductionRefused : (entries flags : List ℕ) (letters rows : ℕ) (work : List (List ℕ)) (refusal : ℕ) → Type 0
ReductionRefused entries flags letters rows work refusal = Rejected entries flags letters rows work refusal ⊎ (WorkHasRoom rows work × Wordless entries flags letters rows refusal)

abbrev pub Ran : (entries flags : List ℕ) (letters rows : ℕ) (work : List (List ℕ)) (refusal states : ℕ) (entries' flags' : List ℕ) → Type 0
Ran entries flags letters rows work refusal states entries' flags' =
    ((states ≡ 0) × ReductionRefused entries flags letters rows work refusal) ⊎ ((refusal ≡ 0) × (WorkHasRoom rows work × Tabled entries flags letters rows states entries' flags'))
