-- The intervals of some expressions over two streams.
use Prim.Native.Nat.{ℕ}
use mathlib.Core.Path.{◌≡◌, refl}
use mathlib.Core.List.{List, [], ◌∷◌, map}
use lib.IntN.{ℤ, pos, neg_ℤ}
use Rattle.meaning.specs.Value.{less}
use Rattle.meaning.specs.Arithmetic.{Interval, add, subtract, multiply, divide, remainder, compare, and, floored_divide, floored_remainder}
use Rattle.meaning.specs.Expression.{Expression, integer, name, first, next, negation, binary, conditional, fby, set_kind, Stream}
use Rattle.meaning.specs.Interval.{interval}

abbrev to : ℤ → ℤ → Interval
to l h = record { low = l; high = h }

abbrev minus : ℕ → ℤ
minus n = neg_ℤ (pos n)

-- x is −7 to 3 and y is 0 to 2.
abbrev streams : List Stream
streams = record { name = []; kind = set_kind; range = to (minus 7) (pos 3) } ∷ record { name = []; kind = set_kind; range = to (pos 0) (pos 2) } ∷ []

abbrev x : Expression
x = name 0

abbrev y : Expression
y = name 1

-- An expression and its interval.
abbrev rows : List (Expression × Interval)
rows =
    (integer (minus 5), to (minus 5) (minus 5))
    ∷ (x, to (minus 7) (pos 3))
    ∷ (binary add x y, to (minus 7) (pos 5))
    ∷ (binary subtract x y, to (minus 9) (pos 3))
    ∷ (binary multiply x y, to (minus 14) (pos 6))
    ∷ (binary multiply x x, to (minus 21) (pos 49))
    ∷ (binary divide x y, to (minus 7) (pos 7))
    ∷ (binary remainder y x, to (pos 0) (pos 2))
    ∷ (binary floored_divide x y, to (minus 7) (pos 7))
    ∷ (binary floored_remainder y x, to (minus 6) (pos 6))
    ∷ (binary floored_remainder x (integer (pos 0)), to (pos 0) (pos 0))
    ∷ (binary (compare less) x y, to (pos 0) (pos 1))
    ∷ (binary and x y, to (pos 0) (pos 1))
    ∷ (negation x, to (pos 0) (pos 1))
    ∷ (conditional x y (integer (pos 5)), to (pos 0) (pos 5))
    ∷ (fby y x, to (minus 7) (pos 3))
    ∷ (first x, to (minus 7) (pos 3))
    ∷ (next y, to (pos 0) (pos 2)) ∷ []

example : map (λ r. interval streams r.0) rows ≡ map (λ r. r.1) rows
unfolding interval
example = refl
