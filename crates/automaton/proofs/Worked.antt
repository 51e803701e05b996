-- The graphs of situations of some worked sheets of document 01, and their answers, computed: one row for each sheet, and one
-- theorem over the rows.
use mathlib.Core.Path.{◌≡◌, refl}
use mathlib.Core.Bool.{true, false}
use mathlib.Core.List.{List, [], ◌∷◌}
use Prim.Native.Nat.{ℕ}
use lib.Dec.{T, leb, leb→le}
use Rattle.automaton.specs.Table.{no_state}
use Rattle.automaton.specs.Construction.{LanguageAnswer, table, no_word, language_answer, IsAnswer}
use Rattle.automaton.specs.Listed.{Listed, well_formed}
use Rattle.automaton.proofs.Listed.{listed_graph}
use Rattle.automaton.proofs.Construction.{answer-is}

record WorkedGraph : Type 0 where
  graph : Listed
  is_formed : T (well_formed graph)
  fits : T (leb graph.nodes no_state)
  result : LanguageAnswer

-- a missing edge
abbrev none : ℕ
none = no_state

-- P2 `x|0|1|next x == x + 1`. The nodes are the empty record, the records 0 and 1, and the last letter 1 of a cut record.
abbrev p2 : WorkedGraph
p2 = record {
  graph = record { nodes = 4; letters = 2; successors = 1 ∷ 2 ∷ none ∷ 3 ∷ none ∷ none ∷ none ∷ none ∷ []; done = true ∷ true ∷ true ∷ true ∷ [] };
  is_formed = tt;
  fits = tt;
  result = no_word;
}

-- P3 `x|0|1|1 until x`. The nodes are the empty record, pending, and done.
abbrev p3 : WorkedGraph
p3 = record {
  graph = record { nodes = 3; letters = 2; successors = 1 ∷ 2 ∷ 1 ∷ 2 ∷ 2 ∷ 2 ∷ []; done = false ∷ false ∷ true ∷ [] };
  is_formed = tt;
  fits = tt;
  result = table (record { states = 2; entries = 0 ∷ 1 ∷ 1 ∷ 1 ∷ []; finals = 0 ∷ 1 ∷ [] });
}

-- P4 `x y|0 0|1 1|x until y`. The nodes are the empty record, pending, and done.
abbrev p4 : WorkedGraph
p4 = record {
  graph = record { nodes = 3; letters = 4; successors = none ∷ 2 ∷ 1 ∷ 2 ∷ none ∷ 2 ∷ 1 ∷ 2 ∷ 2 ∷ 2 ∷ 2 ∷ 2 ∷ []; done = false ∷ false ∷ true ∷ [] };
  is_formed = tt;
  fits = tt;
  result = table (record { states = 2; entries = 65535 ∷ 1 ∷ 0 ∷ 1 ∷ 1 ∷ 1 ∷ 1 ∷ 1 ∷ []; finals = 0 ∷ 1 ∷ [] });
}

-- P6 `x|0|1|x == 0 fby ( 1 - x )`. The nodes are the empty record, the record 0, and the last letters 1 and 0 of a cut record.
abbrev p6 : WorkedGraph
p6 = record {
  graph = record { nodes = 4; letters = 2; successors = 1 ∷ none ∷ none ∷ 2 ∷ 3 ∷ none ∷ none ∷ 2 ∷ []; done = true ∷ true ∷ true ∷ true ∷ [] };
  is_formed = tt;
  fits = tt;
  result = table (record { states = 2; entries = 1 ∷ 65535 ∷ 65535 ∷ 0 ∷ []; finals = 1 ∷ 1 ∷ [] });
}

-- P8 `x|0|1|1 until 0`. The nodes are the empty record and pending.
abbrev p8 : WorkedGraph
p8 = record {
  graph = record { nodes = 2; letters = 2; successors = 1 ∷ 1 ∷ 1 ∷ 1 ∷ []; done = false ∷ false ∷ [] };
  is_formed = tt;
  fits = tt;
  result = no_word;
}

abbrev All : (WorkedGraph → Type 0) → List WorkedGraph → Type 0
All P [] = Unit {0}
All P (r ∷ l) = P r × All P l

abbrev computes : WorkedGraph → Type 0
computes r = language_answer (listed_graph r.graph r.is_formed) 0 ≡ r.result

abbrev holds : WorkedGraph → Type 0
holds r = IsAnswer (listed_graph r.graph r.is_formed) 0 r.result

all_hold : (l : List WorkedGraph) → All computes l → All holds l
all_hold [] h = tt
all_hold (r ∷ l) h =
    let x = answer-is (listed_graph r.graph r.is_formed) 0 (leb→le r.graph.nodes no_state r.fits) in
    (rw h.0 at x, all_hold l h.1)

pub worked : All holds (p2 ∷ p3 ∷ p4 ∷ p6 ∷ p8 ∷ [])
worked = all_hold (p2 ∷ p3 ∷ p4 ∷ p6 ∷ p8 ∷ []) (refl, (refl, (refl, (refl, (refl, tt)))))
