-- Worked values: what some expressions are at the times 0, 1 and 2, where they have none, and what `until` and the signs ask (document 01, "Meaning
-- at time i"; document 02, S-5).
use Prim.Native.Nat.{ℕ, zero, suc, ◌<◌}
use native.Mathlib.Omega.{arith}
use native.Mathlib.Nat.{le_of_suc-le-suc, not-suc-le-zero}
use mathlib.Core.Path.{◌≡◌, refl}
use mathlib.Core.List.{List, [], ◌∷◌, map}
use lib.Dec.{T}
use lib.IntN.{ℤ, pos, neg_ℤ}
use Rattle.meaning.specs.Value.{Value, absent, number, nonzero, bit, Streams, less, equal, different, compares}
use Rattle.meaning.specs.Arithmetic.{subtract, multiply, divide, compare, and, or}
use Rattle.meaning.specs.Expression.{Expression, integer, name, first, next, negation, binary, conditional, fby, comparison, implies, always, until, value_from, value, MeetsFrom, Meets}

-- The stream x, which counts the times.
abbrev streams : Streams
streams k i = pos i

abbrev x : Expression
x = name 0

abbrev constant : ℕ → Expression
constant n = integer (pos n)

abbrev x-1 : Expression
x-1 = binary subtract x (constant 1)

-- `6 / x`, which has none at time 0, and `1 / 0`, which never has a value.
abbrev quotient : Expression
quotient = binary divide (constant 6) x

abbrev nowhere : Expression
nowhere = binary divide (constant 1) (constant 0)

abbrev three : ℤ → ℤ → ℤ → List Value
three a b c = number a ∷ number b ∷ number c ∷ []

-- None at time 0, and then two numbers.
abbrev later : ℤ → ℤ → List Value
later b c = absent ∷ number b ∷ number c ∷ []

abbrev never : List Value
never = absent ∷ absent ∷ absent ∷ []

-- An expression and its values at the times 0, 1 and 2.
abbrev rows : List (Expression × List Value)
rows =
    (constant 5, three (pos 5) (pos 5) (pos 5))
    ∷ (x, three (pos 0) (pos 1) (pos 2))
    ∷ (x-1, three (neg_ℤ (pos 1)) (pos 0) (pos 1))
    ∷ (first x, three (pos 0) (pos 0) (pos 0))
    ∷ (next x, three (pos 1) (pos 2) (pos 3))
    ∷ (first (next x), three (pos 1) (pos 1) (pos 1))
    ∷ (fby (constant 9) x, three (pos 9) (pos 0) (pos 1))
    ∷ (next (fby (constant 9) x), three (pos 0) (pos 1) (pos 2))
    ∷ (negation x-1, three (pos 0) (pos 1) (pos 0))
    ∷ (conditional x-1 (constant 7) (constant 8), three (pos 7) (pos 8) (pos 7))
    ∷ (binary and x x-1, three (pos 0) (pos 0) (pos 1))
    ∷ (binary or (constant 0) x-1, three (pos 1) (pos 0) (pos 1))
    ∷ (binary (compare less) x (constant 1), three (pos 1) (pos 0) (pos 0)) ∷ []

values : map (λ r. map (value streams r.0) (0 ∷ 1 ∷ 2 ∷ [])) rows ≡ map (λ r. r.1) rows
unfolding value value_from
values = refl

-- "Any operator with a part that has none at the time it is read gives none": `and` and `or` read both parts, `next` and `fby` one time, `first`
-- time 0, and `if` its condition and the branch that it takes.
abbrev absences : List (Expression × List Value)
absences =
    (quotient, later (pos 6) (pos 3))
    ∷ (negation quotient, later (pos 0) (pos 0))
    ∷ (binary subtract quotient x, later (pos 5) (pos 1))
    ∷ (binary (compare equal) quotient quotient, later (pos 1) (pos 1))
    ∷ (binary multiply (constant 0) quotient, later (pos 0) (pos 0))
    ∷ (binary and (constant 0) quotient, later (pos 0) (pos 0))
    ∷ (binary and quotient (constant 0), later (pos 0) (pos 0))
    ∷ (binary or (constant 1) quotient, later (pos 1) (pos 1))
    ∷ (binary or quotient (constant 1), later (pos 1) (pos 1))
    ∷ (first quotient, never)
    ∷ (next quotient, three (pos 6) (pos 3) (pos 2))
    ∷ (first (next quotient), three (pos 6) (pos 6) (pos 6))
    ∷ (fby nowhere x, later (pos 0) (pos 1))
    ∷ (fby (constant 9) quotient, number (pos 9) ∷ absent ∷ number (pos 6) ∷ [])
    ∷ (conditional x quotient (constant 9), three (pos 9) (pos 6) (pos 3))
    ∷ (conditional (constant 1) quotient (constant 9), later (pos 6) (pos 3))
    ∷ (conditional (constant 0) (constant 9) quotient, later (pos 6) (pos 3))
    ∷ (conditional quotient (constant 7) (constant 8), later (pos 7) (pos 7)) ∷ []

absent-values : map (λ r. map (value streams r.0) (0 ∷ 1 ∷ 2 ∷ [])) absences ≡ map (λ r. r.1) absences
unfolding value value_from
absent-values = refl

-- `( x lt 1 ) until ( x eq 1 )`: met at time 1, where the left side is already 0.
until-met : Meets streams (until (binary (compare less) x (constant 1)) (binary (compare equal) x (constant 1)))
unfolding Meets MeetsFrom value value_from
until-met = record { time = 1; right = tt; left = earlier }
  where
    earlier : (j : ℕ) → j < 1 → T (nonzero (bit (compares less (pos j) (pos 1))))
    earlier zero l = tt
    earlier (suc j) l = absurd (not-suc-le-zero (le_of_suc-le-suc l))

-- A stream that has to be true at time 0.
starts_true : (t : ℕ) → T (nonzero (pos t)) → ((j : ℕ) → j < t → ⊥) → ⊥
starts_true zero right left = right
starts_true (suc t) right left = left zero (omega arith)

-- `0 until x`: never met, as both sides are 0 at time 0.
until-broken : Meets streams (until (constant 0) x) → ⊥
unfolding Meets MeetsFrom value value_from
until-broken u = starts_true u.time u.right u.left

-- `( 1 / 0 ) until x`: never met either, since "`until` treats none as 0".
until-absent : Meets streams (until nowhere x) → ⊥
unfolding Meets MeetsFrom value value_from
until-absent u = starts_true u.time u.right u.left

-- `1 until ( 1 / 0 )`: never done.
until-never : Meets streams (until (constant 1) nowhere) → ⊥
unfolding Meets MeetsFrom value value_from
until-never u = u.right

-- "A comparison or implication with none on either side fails at that time": `0 -> ( 1 / 0 )`, `( 1 / 0 ) == ( 1 / 0 )`, and the same with `!=`.
implication_absent : Meets streams (always implies (constant 0) nowhere) → ⊥
unfolding Meets MeetsFrom value value_from
implication_absent m = m 0

equal-absent : Meets streams (always (comparison equal) nowhere nowhere) → ⊥
unfolding Meets MeetsFrom value value_from
equal-absent m = m 0

different_absent : Meets streams (always (comparison different) nowhere nowhere) → ⊥
unfolding Meets MeetsFrom value value_from
different_absent m = m 0
