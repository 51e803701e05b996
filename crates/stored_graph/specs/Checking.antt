-- The check that tables hold a graph, place by place.
use Rattle.std.specs.Prelude.{Option, None, Some, ◌≡◌, ◌⊎◌, List, ℕ, ◌*◌, ◌<◌, ◌≤◌, T, get_or, length}
use Rattle.automaton.specs.Table.{no_state, Before, FirstMet}
use Rattle.automaton.specs.Stored.{entry_at}
use Rattle.marks.specs.Tests.{is_marked}
use Rattle.stored_graph.specs.StoredGraph.{IsStoredGraph}

-- the sizes of a graph in tables
pub record HasGraphSizes (entries flags : List ℕ) (letters rows : ℕ) : Type 0 where
  pub some_letter : 0 < letters
  pub some_row : 0 < rows
  pub few_rows : rows ≤ 4096
  pub entries_fit : rows * letters ≤ length entries
  pub flags_fit : rows ≤ length flags

abbrev pub AreBits : List ℕ → ℕ → Type 0
AreBits flags rows = (s : ℕ) → s < rows → get_or flags s 0 ≤ 1

-- every place before row i and letter a is as in a graph, and the rows that it names are those below `met`
pub record Checked (entries flags : List ℕ) (letters rows i a met : ℕ) : Type 0 where
  pub some : 0 < met
  pub most : met ≤ rows
  pub targets : (s b : ℕ) → b < letters → Before s b i a → (entry_at letters entries s b ≡ no_state) ⊎ (entry_at letters entries s b < met)
  pub stays : (s b : ℕ) → b < letters → Before s b i a → entry_at letters entries s b < rows → T (is_marked flags s) → T (is_marked flags (entry_at letters entries s b))
  pub first_met : (j : ℕ) → 0 < j → j < met → (f : FirstMet letters (entry_at letters entries) j) × Before f.state f.letter i a

-- the answer of the check of every place before row i and letter a: how many rows are met, or none if the tables are no graph
abbrev pub CheckedTo : (entries flags : List ℕ) (letters rows i a : ℕ) → Option ℕ → Type 0
CheckedTo entries flags letters rows i a None = ¬ IsStoredGraph entries flags letters rows
CheckedTo entries flags letters rows i a (Some met) = (i < met) × Checked entries flags letters rows i a met
