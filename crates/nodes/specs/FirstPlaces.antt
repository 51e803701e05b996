-- The places of the nodes of firsts among stored nodes. "First" is document 01's term.
use Rattle.std.specs.Prelude.{ℕ, ◌+◌, List, [], ◌∷◌, ◌++◌, length}
use Rattle.meaning.specs.Expression.{Expression, integer, name, first, next, negation, binary, conditional, fby, Constraint, left_side, right_side}
use Rattle.meaning.specs.Interval.{subexpressions}

-- The places of the nodes of an expression's firsts, by their numbers, where the expression's nodes stand from n on: a node stands behind those
-- of its parts, and there is one node for each subexpression.
unfoldable pub first_places : ℕ → Expression → List ℕ
first_places n (integer z) = []
first_places n (name k) = []
first_places n (first e) = (n + length (subexpressions e)) ∷ first_places n e
first_places n (next e) = first_places n e
first_places n (negation e) = first_places n e
first_places n (binary o a b) = first_places n a ++ first_places (n + length (subexpressions a)) b
first_places n (conditional c a b) =
    first_places n c ++ (first_places (n + length (subexpressions c)) a ++ first_places (n + length (subexpressions c) + length (subexpressions a)) b)
first_places n (fby a b) = first_places n a ++ first_places (n + length (subexpressions a)) b

-- Those of all constraints, left side before right side, line after line.
unfoldable pub all_first_places : ℕ → List Constraint → List ℕ
all_first_places n [] = []
all_first_places n (c ∷ cs) =
    (first_places n (left_side c) ++ first_places (n + length (subexpressions (left_side c))) (right_side c))
    ++ all_first_places (n + length (subexpressions (left_side c)) + length (subexpressions (right_side c))) cs
