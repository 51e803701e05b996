-- The interval of an expression (document 01, "Intervals and the normal form").
use Rattle.std.specs.Prelude.{ℕ, ◌<◌, List, [], ◌∷◌, ◌++◌}
use Rattle.meaning.specs.Arithmetic.{Interval, hull, truth_interval, operator_interval}
use Rattle.meaning.specs.Expression.{Expression, integer, name, first, next, negation, binary, conditional, fby, Constraint, left_side, right_side, Stream, range_of}

-- "Each expression has an interval: an integer's own value; a stream's range; for `+ - *` the least and greatest over the ends; [..]
-- 0 to 1 for truth values; that of e for `first e` and `next e`; the hull of both sides for `fby` and of both branches for `if`."
unfoldable pub interval : List Stream → Expression → Interval
interval ss (integer z) = record { low = z; high = z }
interval ss (name k) = range_of ss k
interval ss (first e) = interval ss e
interval ss (next e) = interval ss e
interval ss (negation e) = truth_interval
interval ss (binary o a b) = operator_interval o (interval ss a) (interval ss b)
interval ss (conditional c a b) = hull (interval ss a) (interval ss b)
interval ss (fby a b) = hull (interval ss a) (interval ss b)

-- An expression and every expression inside it, conditions and both branches included.
unfoldable pub subexpressions : Expression → List Expression
subexpressions (integer z) = integer z ∷ []
subexpressions (name k) = name k ∷ []
subexpressions (first e) = first e ∷ subexpressions e
subexpressions (next e) = next e ∷ subexpressions e
subexpressions (negation e) = negation e ∷ subexpressions e
subexpressions (binary o a b) = binary o a b ∷ (subexpressions a ++ subexpressions b)
subexpressions (conditional c a b) = conditional c a b ∷ (subexpressions c ++ (subexpressions a ++ subexpressions b))
subexpressions (fby a b) = fby a b ∷ (subexpressions a ++ subexpressions b)

-- Every name in the expression is one of the first n streams.
abbrev pub NamesBelow : ℕ → Expression → Type 0
NamesBelow n (integer z) = Unit
NamesBelow n (name k) = k < n
NamesBelow n (first e) = NamesBelow n e
NamesBelow n (next e) = NamesBelow n e
NamesBelow n (negation e) = NamesBelow n e
NamesBelow n (binary o a b) = NamesBelow n a × NamesBelow n b
NamesBelow n (conditional c a b) = NamesBelow n c × NamesBelow n a × NamesBelow n b
NamesBelow n (fby a b) = NamesBelow n a × NamesBelow n b

pub record SidesBelow (n : ℕ) (c : Constraint) : Type 0 where
  pub left : NamesBelow n (left_side c)
  pub right : NamesBelow n (right_side c)
