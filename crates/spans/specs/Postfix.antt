-- The expressions of a sheet in the order of its stored nodes: each behind those inside it, left side before right side, line after line.
use Rattle.std.specs.Prelude.{List, [], ◌∷◌, ◌++◌, length, ℕ}
use Rattle.meaning.specs.Expression.{Expression, integer, name, first, next, negation, binary, conditional, fby, Constraint, left_side, right_side}

-- An expression and every expression inside it, in the order of their nodes: behind those of its parts.
unfoldable pub in_postfix : Expression → List Expression
in_postfix (integer z) = integer z ∷ []
in_postfix (name k) = name k ∷ []
in_postfix (first e) = in_postfix e ++ (first e ∷ [])
in_postfix (next e) = in_postfix e ++ (next e ∷ [])
in_postfix (negation e) = in_postfix e ++ (negation e ∷ [])
in_postfix (binary o a b) = in_postfix a ++ (in_postfix b ++ (binary o a b ∷ []))
in_postfix (conditional c a b) = in_postfix c ++ (in_postfix a ++ (in_postfix b ++ (conditional c a b ∷ [])))
in_postfix (fby a b) = in_postfix a ++ (in_postfix b ++ (fby a b ∷ []))

abbrev pub node_count : Expression → ℕ
node_count e = length (in_postfix e)

-- The expressions of all nodes of the sheet, by their places.
unfoldable pub node_expressions : List Constraint → List Expression
node_expressions [] = []
node_expressions (c ∷ cs) = (in_postfix (left_side c) ++ in_postfix (right_side c)) ++ node_expressions cs
