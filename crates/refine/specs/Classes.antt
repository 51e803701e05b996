-- Classes of the live rows of a stored graph, in a list with one number a row: 0 for a row that is not live, and else one more
-- than the first row of its class.
use Rattle.std.specs.Prelude.{◌≡◌, false, List, ℕ, suc, ◌-◌, ◌*◌, ◌<◌, ◌≤◌, get_or, length}
use Rattle.automaton.specs.Stored.{entry_at}
use Rattle.automaton.specs.Graph.{Graph}
use Rattle.automaton.specs.Fixpoints.{IsPartition}
use Rattle.marks.specs.Marks.{Marked}
use Rattle.marks.specs.Tests.{is_marked}

-- the graph of the entries of `rows` rows. Which records tell its nodes apart depends on no flag, so none is set.
abbrev pub edges : ℕ → List ℕ → ℕ → Graph
edges letters entries rows = record {
  nodes = rows;
  letters = letters;
  successor = entry_at letters entries;
  done = λ s. false;
  done_stays = λ s a hs ha hu d. d;
}

-- each class is named by its first row
pub record IsNamed (live class : List ℕ) : Type 0 where
  pub none : (s : ℕ) → ¬ Marked live s → get_or class s 0 ≡ 0
  pub some : (s : ℕ) → Marked live s → 0 < get_or class s 0
  pub low : (s : ℕ) → get_or class s 0 ≤ suc s
  pub name : (s : ℕ) → Marked live s → get_or class (get_or class s 0 - 1) 0 ≡ get_or class s 0

-- The live rows of one class are those that no record tells apart.
pub record Refined (letters : ℕ) (entries live finals class : List ℕ) : Type 0 where
  pub named : IsNamed live class
  pub partition : IsPartition (edges letters entries (length live)) (is_marked live) (is_marked finals) (λ s t. get_or class s 0 ≡ get_or class t 0)

-- The lists of rows are of one length, and the entries and the final bytes have room for as many rows. A class is at most 65,535, which a stored number holds.
pub record Sizes (letters : ℕ) (entries live finals class next heads links envelopes : List ℕ) : Type 0 where
  pub few : length live < 65536
  pub entries_fit : length live * letters ≤ length entries
  pub finals_fit : length live ≤ length finals
  pub class_fits : length class ≡ length live
  pub next_fits : length next ≡ length live
  pub heads_fit : length heads ≡ length live
  pub links_fit : length links ≡ length live
  pub envelopes_fit : length envelopes ≡ length live
