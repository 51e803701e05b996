-- What stored constraints add, over arbitrary lists of nodes. proofs/ shows that on the nodes of a sheet it is what the sheet's lines add.
use Rattle.std.specs.Prelude.{Option, ℕ, zero, suc, List, [], ◌∷◌, ℤ, get_or}
use Rattle.nodes.specs.Evaluate.{Nodes, Kind, integer_node, name_node, first_node, next_node, negation_node, conditional_node, fby_node, operator_node, kind_of, left_end, answer_up_to}
use Rattle.nodes.specs.Bounds.{no_range, node_summary}
use Rattle.nodes.specs.declared.Range.{Range}
use Rattle.normal.specs.Rows.{Rewriting, nothing_added, both_rewritings, next_rewriting, fby_rewriting, Line, relation_line}

-- What node i, a node of this kind, adds, from what the parts add that end up to i.
abbrev pub rewriting_by_kind : List ℕ → Kind → (ℕ → Rewriting) → ℕ → Rewriting
rewriting_by_kind starts integer_node before i = nothing_added
rewriting_by_kind starts name_node before i = nothing_added
rewriting_by_kind starts first_node before i = before i
rewriting_by_kind starts next_node before i = next_rewriting i (before i)
rewriting_by_kind starts negation_node before i = before i
rewriting_by_kind starts conditional_node before i = both_rewritings (before (left_end starts (left_end starts i))) (both_rewritings (before (left_end starts i)) (before i))
rewriting_by_kind starts fby_node before i = fby_rewriting (left_end starts i) i (before (left_end starts i)) (before i)
rewriting_by_kind starts operator_node before i = both_rewritings (before (left_end starts i)) (before i)

module _ (kinds starts : List ℕ) where
  unfoldable pub rewriting_step : (ℕ → Rewriting) → ℕ → Rewriting
  rewriting_step before i = rewriting_by_kind starts (kind_of (get_or kinds i 0)) before i

  -- What the part adds that ends before the place e.
  unfoldable pub rewriting_before : ℕ → Rewriting
  rewriting_before e = answer_up_to nothing_added rewriting_step e e

  -- The line with this relation whose sides end with the nodes l and r.
  abbrev pub stored_line : ℕ → ℕ → ℕ → Line
  stored_line relation l r = relation_line relation (suc l) (suc r) (rewriting_before (suc l)) (rewriting_before (suc r))

  unfoldable pub stored_lines : List ℕ → List ℕ → List ℕ → List Line
  stored_lines [] lefts rights = []
  stored_lines (p ∷ relations) [] rights = []
  stored_lines (p ∷ relations) (l ∷ lefts) [] = []
  stored_lines (p ∷ relations) (l ∷ lefts) (r ∷ rights) = stored_line p l r ∷ stored_lines relations lefts rights

-- The range of the part that ends before a place.
abbrev pub range_before : Nodes → List ℤ → List ℤ → ℕ → Option Range
range_before N lows highs zero = no_range
range_before N lows highs (suc i) = (node_summary N lows highs i).range
