-- The nodes that a residue's tree is written as, in postfix order, and what stands in the lists of nodes then.
use Rattle.std.specs.Prelude.{ℕ, suc, ◌+◌, ◌≡◌, List, [], ◌∷◌, ◌++◌, pos, length, take}
use Rattle.nodes.specs.Postfix.{Node, node, kinds_of, values_of, starts_of}
use Rattle.nodes.specs.Evaluate.{Nodes}
use Rattle.arithmetic.specs.Coded.{coded}
use Rattle.residue.specs.Residue.{Tree, constant_tree, name_tree, negation_tree, operator_tree, conditional_tree}

-- The nodes of a tree whose first node has the place n. A value that is known is an integer, and no value one beyond the magnitude bound, which has
-- none.
unfoldable pub written : ℕ → Tree → List Node
written n (constant_tree x) = node 0 (coded x) n ∷ []
written n (name_tree z) = node 1 z n ∷ []
written n (negation_tree t) = written n t ++ (node 4 (pos 0) n ∷ [])
written n (operator_tree k a b) =
    let l = written n a in
    let r = written (n + length l) b in
    l ++ (r ++ (node k (pos 0) n ∷ []))
written n (conditional_tree c a b) =
    let p = written n c in
    let l = written (n + length p) a in
    let r = written (n + length p + length l) b in
    p ++ (l ++ (r ++ (node 5 (pos 0) n ∷ [])))

-- How many nodes that are.
unfoldable pub tree_size : Tree → ℕ
tree_size (constant_tree x) = 1
tree_size (name_tree z) = 1
tree_size (negation_tree t) = suc (tree_size t)
tree_size (operator_tree k a b) = suc (tree_size a + tree_size b)
tree_size (conditional_tree c a b) = suc (tree_size c + (tree_size a + tree_size b))

-- ---- lists of nodes

-- Both hold the same below the place n.
pub record SameBelow (n : ℕ) (a b : Nodes) : Type 0 where
  pub kinds : take n a.kinds ≡ take n b.kinds
  pub values : take n a.values ≡ take n b.values
  pub starts : take n a.starts ≡ take n b.starts

-- Up to behind the last of these nodes, `new` holds what stood in `old` before the place n, and from there on the nodes.
pub record Writes (old new : Nodes) (n : ℕ) (xs : List Node) : Type 0 where
  pub kinds : take (n + length xs) new.kinds ≡ take n old.kinds ++ kinds_of xs
  pub values : take (n + length xs) new.values ≡ take n old.values ++ values_of xs
  pub starts : take (n + length xs) new.starts ≡ take n old.starts ++ starts_of xs
