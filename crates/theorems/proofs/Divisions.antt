-- A division by zero breaks its rule: the file to open for request S-5 of document 02. What the lines of a sheet ask of every solution where there are
-- divisions, for any expressions: neither side of a comparison or an implication has none at any time, so a quotient or remainder there has a divisor
-- that is not 0; `next`, `first` and `until` ask it at other times, and `if` where it reads the quotient. From the definitions. What a division gives:
-- meaning Division; what the signs ask: meaning Value; the normal form's streams, which may carry none: Demands; whole sheets: worked Rows.
use Prim.Native.Nat.{ℕ, suc}
use mathlib.Core.Path.{◌≡◌, ◌∙◌, ap, subst}
use mathlib.Core.Logic.{◌↔◌, ◌≢◌}
use lib.Dec.{T}
use lib.IntN.{ℤ, pos}
use Rattle.basics.proofs.Tests.{cond_true}
use Rattle.meaning.specs.Value.{Value, absent, number, nonzero, truth, Streams}
use Rattle.meaning.specs.Arithmetic.{Operator, divide, remainder, floored_divide, floored_remainder, apply}
use Rattle.meaning.specs.Expression.{Expression, next, first, binary, conditional, Sign, always, until, Sheet, holds, chosen, value_from, value, MeetsFrom, Meets, Solution}
use Rattle.meaning.proofs.Value.{nonzero_means}
use Rattle.theorems.specs.Divisions.{IsDivision, is_quotient, is_remainder, is_floored_quotient, is_floored_remainder, HasNumber, IsDivisor, HasLine}

-- ---- values

-- "A comparison or implication with none on either side fails at that time".
pub sign_numbers : (g : Sign) (x y : Value) → T (holds g x y) → HasNumber x × HasNumber y
sign_numbers g absent y t = absurd t
sign_numbers g (number a) absent t = absurd t
sign_numbers g (number a) (number b) t = (tt, tt)

-- "`until` treats none as 0."
truth-number : (x : Value) → T (truth x) → HasNumber x
truth-number absent t = absurd t
truth-number (number a) t = tt

-- "Any operator with a part that has none at the time it is read gives none": so the same goes for a quotient that is a part.
pub parts-numbers : (o : Operator) (x y : Value) → HasNumber (apply o x y) → HasNumber x × HasNumber y
parts-numbers o absent y h = absurd h
parts-numbers o (number a) absent h = absurd h
parts-numbers o (number a) (number b) h = (tt, tt)

-- "such a quotient or remainder has no value".
pub division-number : {o : Operator} → IsDivision o → (x y : Value) → HasNumber (apply o x y) → IsDivisor y
division-number d absent y h = absurd h
division-number d (number a) absent h = absurd h
division-number is_quotient (number a) (number b) h = λ e. subst (λ z. HasNumber (apply divide (number a) (number z))) e h
division-number is_remainder (number a) (number b) h = λ e. subst (λ z. HasNumber (apply remainder (number a) (number z))) e h
division-number is_floored_quotient (number a) (number b) h = λ e. subst (λ z. HasNumber (apply floored_divide (number a) (number z))) e h
division-number is_floored_remainder (number a) (number b) h = λ e. subst (λ z. HasNumber (apply floored_remainder (number a) (number z))) e h

-- A quotient or remainder that is there has a divisor other than 0.
module _ (w : Streams) {o : Operator} (d : IsDivision o) (a b : Expression) where
  pub quotient-there : (i : ℕ) → HasNumber (value w (binary o a b) i) → IsDivisor (value w b i)
  unfolding value value_from
  quotient-there i h = division-number d (value w a i) (value w b i) h

-- ---- the lines of a sheet

module _ {s : Sheet} {w : Streams} (solution : Solution s w) where
  -- In a solution each side of a comparison or implication has a number at every time.
  pub line-numbers : {g : Sign} {a b : Expression} → HasLine s (always g a b) → (i : ℕ) → HasNumber (value w a i) × HasNumber (value w b i)
  unfolding Meets MeetsFrom value
  line-numbers {g} {a} {b} line i = sign_numbers g (value w a i) (value w b i) (solution.meets (always g a b) line i)

  module _ {o : Operator} (d : IsDivision o) (a b : Expression) {g : Sign} {c : Expression} where
    -- No solution of a sheet with the line `a / b == c` has 0 as b at any time, nor one with the line `c == a / b`.
    pub quotient-line : HasLine s (always g (binary o a b) c) → (i : ℕ) → IsDivisor (value w b i)
    quotient-line line i = quotient-there w d a b i (line-numbers line i).0

    pub line-quotient : HasLine s (always g c (binary o a b)) → (i : ℕ) → IsDivisor (value w b i)
    line-quotient line i = quotient-there w d a b i (line-numbers line i).1

    -- "So `next ( a / b )` does not suffer from b being 0 at time 0": it asks the same from time 1 on.
    pub next-quotient-line : HasLine s (always g (next (binary o a b)) c) → (i : ℕ) → IsDivisor (value w b (suc i))
    unfolding value value_from
    next-quotient-line line i = quotient-there w d a b (suc i) (line-numbers line i).0

    -- "The `first` of none is none": it asks the same at time 0.
    pub first-quotient-line : HasLine s (always g (first (binary o a b)) c) → IsDivisor (value w b 0)
    unfolding value value_from
    first-quotient-line line = quotient-there w d a b 0 (line-numbers line 0).0

  -- "`until` treats none as 0": a quotient that ends it has a divisor other than 0 at the time at which it ends.
  pub until-quotient-line : {o : Operator} → IsDivision o → (a b c : Expression) → HasLine s (until c (binary o a b)) → (i : ℕ) × IsDivisor (value w b i)
  unfolding Meets MeetsFrom value
  until-quotient-line {o} d a b c line =
      let u = solution.meets (until c (binary o a b)) line in
      (u.time, quotient-there w d a b u.time (truth-number (value w (binary o a b) u.time) u.right))

-- ---- times that are not read

-- What `next e` asks: nothing of e at time 0.
pub next_asks : (w : Streams) (g : Sign) (e c : Expression) → Meets w (always g (next e) c) ↔ ((i : ℕ) → T (holds g (value w e (suc i)) (value w c i)))
unfolding Meets MeetsFrom value value_from
next_asks w g e c = (λ h i. h i, λ h i. h i)

-- "`if` needs only its condition and chosen branch": a quotient behind the test of its divisor is read only where that is not 0.
module _ (w : Streams) (o : Operator) (a b c : Expression) (i : ℕ) where
  pub guarded_zero : value w b i ≡ number (pos 0) → value w (conditional b (binary o a b) c) i ≡ value w c i
  unfolding value value_from
  guarded_zero e = ap (λ v. chosen v (apply o (value w a i) (value w b i)) (value w c i)) e

  pub guarded_other : {z : ℤ} → value w b i ≡ number z → z ≢ pos 0 → value w (conditional b (binary o a b) c) i ≡ value w (binary o a b) i
  unfolding value value_from
  guarded_other {z} e h =
      ap (λ v. chosen v (apply o (value w a i) (value w b i)) (value w c i)) e
      ∙ cond_true (nonzero z) (apply o (value w a i) (value w b i)) (value w c i) ((nonzero_means z).1 h)
