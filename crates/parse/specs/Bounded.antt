-- Integers beyond the magnitude bound: whether a tree has one, and the tree with 0 in the place of each (document 01, "Magnitudes to
-- 1,000,000,000"). A sheet with such an integer is refused, so that no stored value leaves the machine's numbers.
use Rattle.std.specs.Prelude.{Bool, cond, ◌++◌, ℤ, pos}
use Rattle.meaning.specs.Expression.{Expression, integer, name, first, next, negation, binary, conditional, fby, Constraint, always, until, left_side, right_side}
use Rattle.meaning.specs.Interval.{subexpressions}
use Rattle.sheet.specs.Reading.{any_of, is_beyond, is_integer_beyond}

abbrev pub zero_beyond : ℤ → ℤ
zero_beyond z = cond (is_beyond z) (pos 0) z

unfoldable pub bounded_expression : Expression → Expression
bounded_expression (integer z) = integer (zero_beyond z)
bounded_expression (name k) = name k
bounded_expression (first e) = first (bounded_expression e)
bounded_expression (next e) = next (bounded_expression e)
bounded_expression (negation e) = negation (bounded_expression e)
bounded_expression (binary o a b) = binary o (bounded_expression a) (bounded_expression b)
bounded_expression (conditional c a b) = conditional (bounded_expression c) (bounded_expression a) (bounded_expression b)
bounded_expression (fby a b) = fby (bounded_expression a) (bounded_expression b)

abbrev pub bounded_constraint : Constraint → Constraint
bounded_constraint (always s a b) = always s (bounded_expression a) (bounded_expression b)
bounded_constraint (until a b) = until (bounded_expression a) (bounded_expression b)

unfoldable pub has_beyond : Expression → Bool
has_beyond e = any_of is_integer_beyond (subexpressions e)

-- Some integer of the constraint is beyond the bound.
abbrev pub constraint_beyond : Constraint → Bool
constraint_beyond c = any_of is_integer_beyond (subexpressions (left_side c) ++ subexpressions (right_side c))
