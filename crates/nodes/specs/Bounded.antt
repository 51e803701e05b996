-- Numbers within the magnitude bound, values as results, and operators on numbers, whose result is no value where a number is beyond the bound or
-- where the operator gives none.
use Rattle.std.specs.Prelude.{ℕ, ◌-◌, ◌≤◌, Bool, true, false, cond, ◌&&◌, List, [], ◌∷◌, leb, ltb, ℤ, pos, nat_abs, get_or}
use Rattle.meaning.specs.Value.{Value, absent, number, less, at_most, equal, at_least, greater, different}
use Rattle.meaning.specs.Arithmetic.{Operator, add, subtract, multiply, divide, remainder, compare, and, or, floored_divide, floored_remainder, apply_numbers}
use Rattle.sheet.specs.Refusal.{magnitude_bound}
use Rattle.nodes.specs.declared.Evaluated.{Evaluated}

-- "Magnitudes to 1,000,000,000."
abbrev pub in_bound : ℤ → Bool
in_bound z = leb (nat_abs z) magnitude_bound

abbrev pub Small : ℤ → Type 0
Small z = nat_abs z ≤ magnitude_bound

abbrev pub no_value : Evaluated
no_value = record { ok = false; value = pos 0 }

abbrev pub some_value : ℤ → Evaluated
some_value z = record { ok = true; value = z }

-- The value itself, where it is within the bound.
abbrev pub bounded : ℤ → Evaluated
bounded z = cond (in_bound z) (some_value z) no_value

-- A value as a result: a number within the bound, or no value. And back, from a result, and from a stored number: one beyond the bound stands for
-- none.
abbrev pub evaluated : Value → Evaluated
evaluated absent = no_value
evaluated (number z) = bounded z

abbrev pub value_in : Evaluated → Value
value_in e = cond e.ok (number e.value) absent

abbrev pub stored_value : ℤ → Value
stored_value z = value_in (bounded z)

-- A number, if there is one, is within the bound.
abbrev pub SmallValue : Value → Type 0
SmallValue absent = Unit
SmallValue (number z) = Small z

-- What an operator gives, where both operands and the result are within the bound.
abbrev pub bounded_apply : Operator → ℤ → ℤ → Evaluated
bounded_apply o a b = cond (in_bound a && in_bound b) (evaluated (apply_numbers o a b)) no_value

-- "Operators: `+ - * / % lt le eq ge gt ne and or fby`", but for `fby`, and those of release 2, in the order of their numbers (Code).
abbrev pub operators_by_kind : List Operator
operators_by_kind =
    add ∷ subtract ∷ multiply ∷ divide ∷ remainder
    ∷ compare less ∷ compare at_most ∷ compare equal ∷ compare at_least ∷ compare greater ∷ compare different
    ∷ and ∷ or
    ∷ floored_divide ∷ floored_remainder ∷ []

-- The operator with a node's kind; what a kind that is no operator's is given plays no part.
abbrev pub operator_at : ℕ → Operator
operator_at k = get_or operators_by_kind (k - 7) floored_remainder

-- What the operator with a node's kind gives; no value where the kind is no operator's.
abbrev pub applied_by_kind : ℕ → ℤ → ℤ → Evaluated
applied_by_kind k a b = cond (leb 7 k && ltb k 22) (bounded_apply (operator_at k) a b) no_value
