-- Quotient and remainder rounded down, as the machine reckons them: the operations on numbers that were held, whether remainder and divisor are
-- opposite, and the results, which need no test. From the results of small operands (Machine, Coded).
use Prim.Native.Nat.{zero, suc}
use native.Mathlib.Omega.{arith}
use mathlib.Core.Path.{◌≡◌, refl, sym, ap, ap₂, subst, ◌∙◌}
use mathlib.Core.Bool.{Bool, true, false, cond}
use lib.Dec.{T}
use lib.IntN.{ℤ, pos, negsuc, nat_abs, ◌+ℤ◌, ◌-ℤ◌}
use lib.Signed.{lt_z, quot_z, rem_z}
use borrow.Author.Tests.{lt-ltb, le-leb, ltb-true}
use mir.Syntax.{w64}
use mir.Val.{SFits}
use mir.ValLaws.{to_z-of_z}
use Rattle.basics.proofs.Tests.{T-of_true}
use Rattle.meaning.specs.Value.{absent, number, nonzero}
use Rattle.meaning.specs.Arithmetic.{are_opposite, floor_quot_z, floor_rem_z}
use Rattle.meaning.proofs.Arithmetic.{floor_quot_z-small, floor_rem_z-small}
use Rattle.nodes.specs.Bounded.{Small, evaluated}
use Rattle.arithmetic.specs.Coded.{coded}
use Rattle.arithmetic.proofs.Machine.{held, held_fits, held-exact, quot_z_fits, rem_z_fits, +ℤ-fits, -ℤ-fits, by-nonzero}
use Rattle.arithmetic.proofs.Coded.{quotient-within, remainder-within}
use Rattle.arithmetic.proofs.Operators.{in_bound-Small}

-- ---- opposite signs, by the tests of either

below-is : (a b : ℤ) → lt_z a (pos 0) ≡ true → lt_z (pos 0) b ≡ are_opposite a b
below-is (pos n) b e = let h = ltb-true n 0 e in absurd (omega arith)
below-is (negsuc n) (pos zero) e = refl
below-is (negsuc n) (pos (suc m)) e = lt-ltb 0 (suc m) (omega arith)
below-is (negsuc n) (negsuc m) e = refl

above-is : (a b : ℤ) → lt_z a (pos 0) ≡ false → lt_z b (pos 0) ≡ true → lt_z (pos 0) a ≡ are_opposite a b
above-is (negsuc n) b e h = let y : T false = subst T e tt in absurd y
above-is (pos n) (pos m) e h = let k = ltb-true m 0 h in absurd (omega arith)
above-is (pos zero) (negsuc m) e h = refl
above-is (pos (suc n)) (negsuc m) e h = lt-ltb 0 (suc n) (omega arith)

neither_is : (a b : ℤ) → lt_z a (pos 0) ≡ false → lt_z b (pos 0) ≡ false → false ≡ are_opposite a b
neither_is (negsuc n) b e h = let y : T false = subst T e tt in absurd y
neither_is (pos n) (negsuc m) e h = let y : T false = subst T h tt in absurd y
neither_is (pos n) (pos m) e h = refl

module _ (a b : ℤ) (fa : SFits w64 a) (fb : SFits w64 b) where
  plain_left : {t : Bool} → lt_z (held a) (pos 0) ≡ t → lt_z a (pos 0) ≡ t
  plain_left e = ap (λ z. lt_z z (pos 0)) (sym (to_z-of_z w64 a fa)) ∙ e

  plain_right : {t : Bool} → lt_z (held b) (pos 0) ≡ t → lt_z b (pos 0) ≡ t
  plain_right e = ap (λ z. lt_z z (pos 0)) (sym (to_z-of_z w64 b fb)) ∙ e

  pub opposite_below : lt_z (held a) (pos 0) ≡ true → lt_z (pos 0) (held b) ≡ are_opposite a b
  opposite_below e = ap (lt_z (pos 0)) (to_z-of_z w64 b fb) ∙ below-is a b (plain_left e)

  pub opposite_above : lt_z (held a) (pos 0) ≡ false → lt_z (held b) (pos 0) ≡ true → lt_z (pos 0) (held a) ≡ are_opposite a b
  opposite_above e h = ap (lt_z (pos 0)) (to_z-of_z w64 a fa) ∙ above-is a b (plain_left e) (plain_right h)

  pub opposite_neither : lt_z (held a) (pos 0) ≡ false → lt_z (held b) (pos 0) ≡ false → false ≡ are_opposite a b
  opposite_neither e h = neither_is a b (plain_left e) (plain_right h)

-- ---- the operations, of operands within the bound

module _ (a b : ℤ) (fa : SFits w64 a) (fb : SFits w64 b) (sa : Small a) (sb : Small b) where
  pub division-fits : SFits w64 (quot_z (held a) (held b))
  division-fits = held_fits quot_z a b fa fb (quot_z_fits a b sa sb)

  quotient-held : held (quot_z (held a) (held b)) ≡ quot_z a b
  quotient-held = held-exact quot_z a b fa fb (quot_z_fits a b sa sb)

  remainder-held : held (rem_z (held a) (held b)) ≡ rem_z a b
  remainder-held = held-exact rem_z a b fa fb (rem_z_fits a b fa)

  quotient-small : Small (quot_z a b)
  quotient-small = in_bound-Small (quot_z a b) (quotient-within a b sa)

  remainder-small : Small (rem_z a b)
  remainder-small = in_bound-Small (rem_z a b) (remainder-within a b sa)

  pub lowered-fits : SFits w64 (held (quot_z (held a) (held b)) -ℤ pos 1)
  lowered-fits = subst (λ z. SFits w64 (z -ℤ pos 1)) (sym quotient-held) (-ℤ-fits (quot_z a b) (pos 1) quotient-small (omega arith))

  moved-is : held (rem_z (held a) (held b)) +ℤ held b ≡ rem_z a b +ℤ b
  moved-is = ap₂ ◌+ℤ◌ remainder-held (to_z-of_z w64 b fb)

  pub moved-fits : SFits w64 (held (rem_z (held a) (held b)) +ℤ held b)
  moved-fits = subst (SFits w64) (sym moved-is) (+ℤ-fits (rem_z a b) b remainder-small sb)

  -- Whether remainder and divisor are opposite, as a branch leaves it.
  module _ (z : nonzero b ≡ true) {r t : Bool} (e : r ≡ are_opposite (held (rem_z (held a) (held b))) (held b)) (h : r ≡ t) where
    opposite_is : are_opposite (rem_z a b) b ≡ t
    opposite_is = ap₂ are_opposite (sym remainder-held) (sym (to_z-of_z w64 b fb)) ∙ sym e ∙ h

    quotient-result : {x : ℤ} → x ≡ cond t (quot_z a b -ℤ pos 1) (quot_z a b) → x ≡ coded (evaluated (cond (nonzero b) (number (floor_quot_z a b)) absent))
    quotient-result q =
        q ∙ sym (ap (λ o. cond o (quot_z a b -ℤ pos 1) (quot_z a b)) opposite_is)
        ∙ by-nonzero floor_quot_z a b z (le-leb (nat_abs (floor_quot_z a b)) 1000000000 (omega (arith, floor_quot_z-small a b (T-of_true (nonzero b) z))))

    remainder-result : {x : ℤ} → x ≡ cond t (rem_z a b +ℤ b) (rem_z a b) → x ≡ coded (evaluated (cond (nonzero b) (number (floor_rem_z a b)) absent))
    remainder-result q =
        q ∙ sym (ap (λ o. cond o (rem_z a b +ℤ b) (rem_z a b)) opposite_is)
        ∙ by-nonzero floor_rem_z a b z (le-leb (nat_abs (floor_rem_z a b)) 1000000000 (omega (arith, floor_rem_z-small a b (T-of_true (nonzero b) z))))

  module _ (z : nonzero b ≡ true) {r : Bool} (e : r ≡ are_opposite (held (rem_z (held a) (held b))) (held b)) where
    pub quotient-lowered : r ≡ true → held (held (quot_z (held a) (held b)) -ℤ pos 1) ≡ coded (evaluated (cond (nonzero b) (number (floor_quot_z a b)) absent))
    quotient-lowered h = quotient-result z e h (to_z-of_z w64 _ lowered-fits ∙ ap (λ x. x -ℤ pos 1) quotient-held)

    pub quotient-kept : r ≡ false → held (quot_z (held a) (held b)) ≡ coded (evaluated (cond (nonzero b) (number (floor_quot_z a b)) absent))
    quotient-kept h = quotient-result z e h quotient-held

    pub remainder-moved : r ≡ true → held (held (rem_z (held a) (held b)) +ℤ held b) ≡ coded (evaluated (cond (nonzero b) (number (floor_rem_z a b)) absent))
    remainder-moved h = remainder-result z e h (to_z-of_z w64 _ moved-fits ∙ moved-is)

    pub remainder-kept : r ≡ false → held (rem_z (held a) (held b)) ≡ coded (evaluated (cond (nonzero b) (number (floor_rem_z a b)) absent))
    remainder-kept h = remainder-result z e h remainder-held
