-- The release of a sheet (document 02, S-11): which first line says it, and what a sheet of release 2 means by its `/` and `%`. The grammar reads the same
-- operators in both releases; the two others are put in their place once the constraints are read.
use Rattle.std.specs.Prelude.{ℕ, Bool, true, false, cond, ◌&&◌, ◌||◌, List, [], ◌∷◌, map, ℤ, pos, get_or}
use Rattle.text.specs.Bytes.{Token, bytes_of}
use Rattle.text.specs.Token.{same_bytes, is_integer, integer_value}
use Rattle.meaning.specs.Value.{equal, compares}
use Rattle.meaning.specs.Arithmetic.{Operator, add, subtract, multiply, divide, remainder, compare, and, or, floored_divide, floored_remainder}
use Rattle.meaning.specs.Expression.{Expression, integer, name, first, next, negation, binary, conditional, fby, Constraint, always, until}

-- "Only a first line of `release` and one integer is such a line"
unfoldable pub says_release : List Token → Bool
says_release [] = false
says_release (w ∷ []) = false
says_release (w ∷ n ∷ []) = same_bytes (bytes_of "release") w && is_integer n
says_release (w ∷ n ∷ t ∷ ts) = false

-- The number of the release that the tokens of a first line say; "A sheet without the line, or with `release 1`, reads as it always did".
unfoldable pub said_release : List Token → ℤ
said_release ts = cond (says_release ts) (integer_value (get_or ts 1 [])) (pos 1)

-- "both releases remain. Any other number is 3."
abbrev pub is_known_release : ℤ → Bool
is_known_release z = compares equal z (pos 1) || compares equal z (pos 2)

-- "A sheet whose first line is `release 2` [..] uses that": quotients rounded down.
abbrev pub floors_quotients : ℤ → Bool
floors_quotients z = compares equal z (pos 2)

abbrev pub floored_operator : Operator → Operator
floored_operator add = add
floored_operator subtract = subtract
floored_operator multiply = multiply
floored_operator divide = floored_divide
floored_operator remainder = floored_remainder
floored_operator (compare c) = compare c
floored_operator and = and
floored_operator or = or
floored_operator floored_divide = floored_divide
floored_operator floored_remainder = floored_remainder

abbrev pub floored : Expression → Expression
floored (integer z) = integer z
floored (name k) = name k
floored (first e) = first (floored e)
floored (next e) = next (floored e)
floored (negation e) = negation (floored e)
floored (binary o a b) = binary (floored_operator o) (floored a) (floored b)
floored (conditional c a b) = conditional (floored c) (floored a) (floored b)
floored (fby a b) = fby (floored a) (floored b)

abbrev pub floored_constraint : Constraint → Constraint
floored_constraint (always s a b) = always s (floored a) (floored b)
floored_constraint (until a b) = until (floored a) (floored b)

-- What a sheet means by an expression, and by constraints, that its lines are read as, where `floors` says whether its quotients are rounded down.
abbrev pub meant : Bool → Expression → Expression
meant true e = floored e
meant false e = e

abbrev pub meant_constraints : Bool → List Constraint → List Constraint
meant_constraints true cs = map floored_constraint cs
meant_constraints false cs = cs
