-- The numbers by which stored nodes, constraints and streams name what they are.
use Rattle.std.specs.Prelude.{ℕ, ◌+◌, Bool, true, false, cond, List, [], ◌∷◌, map, eqb, get_or}
use Rattle.meaning.specs.Value.{Comparison, less, at_most, equal, at_least, greater, different}
use Rattle.meaning.specs.Arithmetic.{Operator, add, subtract, multiply, divide, remainder, compare, and, or, floored_divide, floored_remainder}
use Rattle.meaning.specs.Expression.{Sign, comparison, implies, Constraint, always, until, StreamKind, read_kind, set_kind}

abbrev pub comparison_code : Comparison → ℕ
comparison_code less = 0
comparison_code at_most = 1
comparison_code equal = 2
comparison_code at_least = 3
comparison_code greater = 4
comparison_code different = 5

-- A node's kind: 0 integer, 1 name, 2 first, 3 next, 4 not, 5 if, 6 fby, and from 7 on the operators in the order in which document 01 lists them,
-- behind them those that are rounded down (document 02, S-11).
abbrev pub operator_code : Operator → ℕ
operator_code add = 7
operator_code subtract = 8
operator_code multiply = 9
operator_code divide = 10
operator_code remainder = 11
operator_code (compare c) = 12 + comparison_code c
operator_code and = 18
operator_code or = 19
operator_code floored_divide = 20
operator_code floored_remainder = 21

-- What the kind of a node becomes where the sheet's quotients are rounded down.
abbrev pub floored_kind : ℕ → ℕ
floored_kind k = cond (eqb k 10) 20 (cond (eqb k 11) 21 k)

-- The kinds of nodes as a sheet means them, where `floors` says whether its quotients are rounded down.
abbrev pub meant_kinds : Bool → List ℕ → List ℕ
meant_kinds true ks = map floored_kind ks
meant_kinds false ks = ks

-- A constraint's relation: 0 to 5 the comparison signs, 6 `->`, 7 `until`.
abbrev pub sign_code : Sign → ℕ
sign_code (comparison c) = comparison_code c
sign_code implies = 6

-- The sign with a relation's number; a number that is no sign's plays no part.
abbrev pub signs : List Sign
signs = comparison less ∷ comparison at_most ∷ comparison equal ∷ comparison at_least ∷ comparison greater ∷ comparison different ∷ implies ∷ []

abbrev pub sign_at : ℕ → Sign
sign_at k = get_or signs k implies

-- A stream's kind (document 02, S-6): 0 `set`, 1 `read`; so a place without a stream is zero, as is a stream of which nothing is said.
abbrev pub stream_kind_code : StreamKind → ℕ
stream_kind_code read_kind = 1
stream_kind_code set_kind = 0

abbrev pub relation_code : Constraint → ℕ
relation_code (always s a b) = sign_code s
relation_code (until a b) = 7
