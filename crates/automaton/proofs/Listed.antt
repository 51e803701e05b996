-- A well_formed list of edges is a graph.
use mathlib.Core.Bool.{not, ◌&&◌}
use Prim.Native.Nat.{ℕ, ◌<◌}
use lib.Dec.{T, T_not, ltb, lt→ltb}
use Rattle.basics.proofs.Tests.{by_contradiction, T_and}
use Rattle.automaton.specs.Graph.{Graph}
use Rattle.automaton.specs.Closure.{any_below, contains}
use Rattle.automaton.specs.Listed.{Listed, listed_successor, falls, well_formed}
use Rattle.automaton.proofs.Closure.{any_below↔}

module _ (L : Listed) (h : T (well_formed L)) where
  pub listed-stays : (s a : ℕ) → s < L.nodes → a < L.letters → listed_successor L s a < L.nodes
      → T (contains L.done s) → T (contains L.done (listed_successor L s a))
  listed-stays s a hs ha hu d = by_contradiction (contains L.done u) λ n.
      let x = (T_and (contains L.done s) (not (contains L.done u))).1 (d, n) in
      let y = (T_and (ltb u L.nodes) (contains L.done s && not (contains L.done u))).1 (lt→ltb u L.nodes hu, x) in
      let z = (any_below↔ L.letters (falls L s)).1 (a, ha, y) in
      T_not (any_below L.nodes (λ s. any_below L.letters (falls L s))) h
      ((any_below↔ L.nodes (λ s. any_below L.letters (falls L s))).1 (s, hs, z))
    where
      u : ℕ
      u = listed_successor L s a

  abbrev pub listed_graph : Graph
  listed_graph = record {
    nodes = L.nodes;
    letters = L.letters;
    successor = listed_successor L;
    done = contains L.done;
    done_stays = listed-stays;
  }
