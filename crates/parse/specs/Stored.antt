-- The three arrays in which nodes are stored, and what stands in them after nodes were stored.
use Rattle.std.specs.Prelude.{ℕ, ◌≡◌, List, take}
use Rattle.std.proofs.lemmas.List.Edits.{sets}
use Rattle.nodes.specs.Evaluate.{Nodes}
use Rattle.nodes.specs.Postfix.{Node, kinds_of, values_of, starts_of}

-- The arrays with these nodes stored one after the other from the place n on.
unfoldable pub store : Nodes → ℕ → List Node → Nodes
store a n l = record { kinds = sets a.kinds n (kinds_of l); values = sets a.values n (values_of l); starts = sets a.starts n (starts_of l) }

-- Both hold the same below the place n.
pub record SameBelow (n : ℕ) (a b : Nodes) : Type 0 where
  pub kinds : take n a.kinds ≡ take n b.kinds
  pub values : take n a.values ≡ take n b.values
  pub starts : take n a.starts ≡ take n b.starts
