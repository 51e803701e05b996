-- What a graph in lent tables is: entries, row after row, and a flag for each row. It has one row for each node and one entry
-- for each letter. Nothing here knows how such a graph is turned into a table.
use Rattle.std.specs.Prelude.{◌≡◌, ◌⊎◌, List, ℕ, ◌*◌, ◌<◌, ◌≤◌, T, get_or, length}
use Rattle.automaton.specs.Table.{no_state, FirstMet}
use Rattle.automaton.specs.Stored.{entry_at}
use Rattle.automaton.specs.Graph.{Graph}
use Rattle.marks.specs.Tests.{is_marked}

-- The nodes are the rows, node 0 is the start. "4,096 situations" bounds the rows. An entry is a successor, or 65,535 for none.
-- A flag is 1 or 0, and never falls along an entry. The nodes are numbered "in the order in which they are first met, state by
-- state and letter by letter", so every node is met from the start.
pub record IsStoredGraph (entries flags : List ℕ) (letters rows : ℕ) : Type 0 where
  pub some_letter : 0 < letters
  pub some_row : 0 < rows
  pub few_rows : rows ≤ 4096
  pub entries_fit : rows * letters ≤ length entries
  pub flags_fit : rows ≤ length flags
  pub bits : (s : ℕ) → s < rows → get_or flags s 0 ≤ 1
  pub targets : (s a : ℕ) → s < rows → a < letters → (entry_at letters entries s a ≡ no_state) ⊎ (entry_at letters entries s a < rows)
  pub stays : (s a : ℕ) → s < rows → a < letters → entry_at letters entries s a < rows → T (is_marked flags s) → T (is_marked flags (entry_at letters entries s a))
  pub first_met : (j : ℕ) → 0 < j → j < rows → FirstMet letters (entry_at letters entries) j

-- the graph that the tables hold
abbrev pub stored_graph : {entries flags : List ℕ} {letters rows : ℕ} → IsStoredGraph entries flags letters rows → Graph
stored_graph {entries} {flags} {letters} {rows} g = record {
  nodes = rows;
  letters = letters;
  successor = entry_at letters entries;
  done = is_marked flags;
  done_stays = g.stays;
}
