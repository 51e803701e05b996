-- The tokens that have a meaning of their own in a constraint (document 01, "The sheet").
use Rattle.std.specs.Prelude.{ℕ, suc, cond, List, [], ◌∷◌}
use Rattle.std.proofs.Math.Option.{Option, some, none}
use Rattle.text.specs.Bytes.{Token, bytes_of}
use Rattle.text.specs.Token.{same_bytes}
use Rattle.meaning.specs.Value.{less, at_most, equal, at_least, greater, different}
use Rattle.meaning.specs.Arithmetic.{Operator, add, subtract, multiply, divide, remainder, compare, and, or}
use Rattle.meaning.specs.Expression.{Expression, first, next, negation, binary, fby, Sign, comparison, implies, Constraint, always, until, StreamKind, read_kind, set_kind}

-- What stands first in the table beside the token t.
abbrev pub look_up : {X : Type 0} → List (Token × X) → Token → Option X
look_up [] t = none
look_up (e ∷ es) t = cond (same_bytes e.0 t) (some e.1) (look_up es t)

-- What an operator does with the two parts that it stands between.
pub data Infix : Type 0 where
  pointwise : Operator → Infix
  followed_by : Infix

abbrev pub infixed : Infix → Expression → Expression → Expression
infixed (pointwise o) a b = binary o a b
infixed followed_by a b = fby a b

-- "Operators: `+ - * / % lt le eq ge gt ne and or fby`."
unfoldable pub operator_tokens : List (Token × Infix)
operator_tokens =
    (bytes_of "+", pointwise add)
    ∷ (bytes_of "-", pointwise subtract)
    ∷ (bytes_of "*", pointwise multiply)
    ∷ (bytes_of "/", pointwise divide)
    ∷ (bytes_of "%", pointwise remainder)
    ∷ (bytes_of "lt", pointwise (compare less))
    ∷ (bytes_of "le", pointwise (compare at_most))
    ∷ (bytes_of "eq", pointwise (compare equal))
    ∷ (bytes_of "ge", pointwise (compare at_least))
    ∷ (bytes_of "gt", pointwise (compare greater))
    ∷ (bytes_of "ne", pointwise (compare different))
    ∷ (bytes_of "and", pointwise and)
    ∷ (bytes_of "or", pointwise or)
    ∷ (bytes_of "fby", followed_by)
    ∷ []

unfoldable pub operator_of : Token → Option Infix
operator_of t = look_up operator_tokens t

-- What stands between the two sides of a constraint.
pub data Relation : Type 0 where
  sign : Sign → Relation
  until_sign : Relation

abbrev pub related : Relation → Expression → Expression → Constraint
related (sign s) a b = always s a b
related until_sign a b = until a b

-- "one of `< <= == >= > != -> until`"
unfoldable pub relation_tokens : List (Token × Relation)
relation_tokens =
    (bytes_of "<", sign (comparison less))
    ∷ (bytes_of "<=", sign (comparison at_most))
    ∷ (bytes_of "==", sign (comparison equal))
    ∷ (bytes_of ">=", sign (comparison at_least))
    ∷ (bytes_of ">", sign (comparison greater))
    ∷ (bytes_of "!=", sign (comparison different))
    ∷ (bytes_of "->", sign implies)
    ∷ (bytes_of "until", until_sign)
    ∷ []

unfoldable pub relation_of : Token → Option Relation
relation_of t = look_up relation_tokens t

-- "`first`, `next` or `not` before a part"
pub data Prefix : Type 0 where
  first_prefix next_prefix not_prefix : Prefix

abbrev pub prefixed : Prefix → Expression → Expression
prefixed first_prefix e = first e
prefixed next_prefix e = next e
prefixed not_prefix e = negation e

unfoldable pub prefix_tokens : List (Token × Prefix)
prefix_tokens = (bytes_of "first", first_prefix) ∷ (bytes_of "next", next_prefix) ∷ (bytes_of "not", not_prefix) ∷ []

unfoldable pub prefix_of : Token → Option Prefix
prefix_of t = look_up prefix_tokens t

-- "known by `read` or `set`" (document 02, S-6): what a word of the line of kinds says of its stream.
unfoldable pub stream_kind_tokens : List (Token × StreamKind)
stream_kind_tokens = (bytes_of "read", read_kind) ∷ (bytes_of "set", set_kind) ∷ []

unfoldable pub stream_kind_of : Token → Option StreamKind
stream_kind_of t = look_up stream_kind_tokens t

-- The place of a name in line 1, counted from 0; as many as there are names where it is unknown.
unfoldable pub name_place : List Token → Token → ℕ
name_place [] t = 0
name_place (n ∷ ns) t = cond (same_bytes n t) 0 (suc (name_place ns t))
