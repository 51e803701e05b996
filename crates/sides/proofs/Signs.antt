-- What the signs and `until` ask of values that went through locals. From the machine's numbers (arithmetic).
use Prim.Native.Nat.{ℕ, ◌≤◌}
use native.Mathlib.Omega.{arith}
use native.Mathlib.Decide.{ℕ_discrete}
use mathlib.Core.Path.{◌≡◌, refl, sym, ◌∙◌, ap, ap₂}
use mathlib.Core.Bool.{Bool, true, false, cond}
use lib.IntN.{ℤ}
use lib.ListN.{get_or-eq_default}
use mir.Syntax.{w64}
use mir.Val.{SFits}
use mir.ValLaws.{to_z-of_z}
use Rattle.meaning.specs.Value.{nonzero, truth}
use Rattle.meaning.specs.Expression.{Sign, implies, holds, holds_numbers}
use Rattle.nodes.specs.Bounded.{in_bound, no_value, some_value, value_in, stored_value}
use Rattle.nodes.specs.Code.{signs, sign_at}
use Rattle.arithmetic.proofs.Machine.{held, held_both}
use Rattle.sides.proofs.Values.{number-there, number-absent}

-- A value that goes through a local or an argument stays what it is, and so does what a test says of it.
pub implied_so : (a b : ℤ) → SFits w64 a → SFits w64 b → {p q : Bool} → p ≡ nonzero (held a) → p ≡ true → q ≡ nonzero (held b) → q ≡ holds_numbers implies a b
implied_so a b fa fb e h f =
    let x : nonzero a ≡ true = ap nonzero (sym (to_z-of_z w64 a fa)) ∙ sym e ∙ h in
    f ∙ ap nonzero (to_z-of_z w64 b fb) ∙ sym (simp x)

pub implied_else : (a b : ℤ) → SFits w64 a → {p : Bool} → p ≡ nonzero (held a) → p ≡ false → true ≡ holds_numbers implies a b
implied_else a b fa e h = let x : nonzero a ≡ false = ap nonzero (sym (to_z-of_z w64 a fa)) ∙ sym e ∙ h in sym (simp x)

pub sign-kind : {k : ℕ} {a b : ℤ} {r : Bool} (n : ℕ) → k ≡ n → SFits w64 a → SFits w64 b → r ≡ holds_numbers (sign_at n) (held a) (held b) → r ≡ holds_numbers (sign_at k) a b
sign-kind {k} {a} {b} n e fa fb h = h ∙ held_both (holds_numbers (sign_at n)) a b fa fb ∙ ap (λ i. holds_numbers (sign_at i) a b) (sym e)

sign_at-last : (k : ℕ) → 6 ≤ k → sign_at k ≡ implies
sign_at-last k h = by (ℕ_discrete k 6)
  where
    by : Dec (k ≡ 6) → sign_at k ≡ implies
    by (yes e) = ap sign_at e
    by (no e) = get_or-eq_default signs implies {n = k} (omega arith)

pub sign-last : {k : ℕ} {a b : ℤ} {r : Bool} → 6 ≤ k → SFits w64 a → SFits w64 b → r ≡ holds_numbers implies (held a) (held b) → r ≡ holds_numbers (sign_at k) a b
sign-last {k} {a} {b} l fa fb h = h ∙ held_both (holds_numbers implies) a b fa fb ∙ ap (λ s. holds_numbers s a b) (sym (sign_at-last k l))

-- ---- values that are given as one number

module _ (z : ℤ) (f : SFits w64 z) {t : Bool} (test : t ≡ in_bound (held z)) where
  pub truth-there : {r : Bool} → t ≡ true → r ≡ nonzero (held z) → r ≡ truth (stored_value z)
  truth-there e h = h ∙ ap nonzero (to_z-of_z w64 z f) ∙ sym (ap truth (number-there z f test e))

  pub truth-absent : t ≡ false → false ≡ truth (stored_value z)
  truth-absent e = sym (ap truth (number-absent z f test e))

module _ (s : Sign) (a b : ℤ) (fa : SFits w64 a) (fb : SFits w64 b) {n : Bool} (numbers : n ≡ holds_numbers s (held a) (held b)) where
  same_numbers : n ≡ holds_numbers s a b
  same_numbers = numbers ∙ held_both (holds_numbers s) a b fa fb

  -- Where the sign does not hold of the numbers, it does not hold of the values, whether they are there or not.
  pub numbers_fail : n ≡ false → false ≡ holds s (stored_value a) (stored_value b)
  numbers_fail e = by (in_bound a) (in_bound b)
    where
      by : (t u : Bool) → false ≡ holds s (value_in (cond t (some_value a) no_value)) (value_in (cond u (some_value b) no_value))
      by true true = sym e ∙ same_numbers
      by true false = refl
      by false u = refl

  module _ {t : Bool} (left : t ≡ in_bound (held a)) where
    pub left-absent : t ≡ false → false ≡ holds s (stored_value a) (stored_value b)
    left-absent e = sym (ap (λ x. holds s x (stored_value b)) (number-absent a fa left e))

    -- Where it holds of the numbers and the left value is there, it holds exactly if the right one is.
    pub right_decides : n ≡ true → t ≡ true → {u : Bool} → u ≡ in_bound (held b) → u ≡ holds s (stored_value a) (stored_value b)
    right_decides h e {u} right = by u refl
      where
        by : (v : Bool) → u ≡ v → v ≡ holds s (stored_value a) (stored_value b)
        by true q = sym (ap₂ (holds s) (number-there a fa left e) (number-there b fb right q) ∙ sym same_numbers ∙ h)
        by false q = sym (ap₂ (holds s) (number-there a fa left e) (number-absent b fb right q))
