-- The parts that have no parts of their own: integers, names, and where no part ends. Their values are read without a call of the recursion.
use Rattle.std.specs.Prelude.{ℕ, ◌-◌, Bool, true, cond, List, leb, eqb, ℤ, pos, get_or}
use Rattle.nodes.specs.Bounded.{no_value, bounded}
use Rattle.nodes.specs.Evaluate.{stream_evaluated}
use Rattle.nodes.specs.declared.Evaluated.{Evaluated}

-- Whether the part that ends before e is a leaf, by the kind of its last node.
abbrev pub is_leaf : List ℕ → ℕ → Bool
is_leaf kinds e = cond (eqb e 0) true (leb (get_or kinds (e - 1) 0) 1)

-- The value of the leaf that ends before e, at the place p of a window.
abbrev pub leaf_value : List ℕ → List ℤ → List ℤ → ℕ → ℕ → ℕ → Evaluated
leaf_value kinds values window streams e p =
    cond (eqb e 0) no_value
    (cond (eqb (get_or kinds (e - 1) 0) 0) (bounded (get_or values (e - 1) (pos 0))) (stream_evaluated window streams p (get_or values (e - 1) (pos 0))))
