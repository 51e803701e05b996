-- Results that can be read back from their numbers: no value, and the numbers within the bound. Which results are within the bound without a test.
use Prim.Native.Nat.{ℕ}
use native.Mathlib.Omega.{arith}
use native.Mathlib.Nat.{div-le_self, mod-le}
use mathlib.Core.Path.{◌≡◌, refl, ◌∙◌, ap}
use mathlib.Core.Bool.{Bool, true, false, cond, ◌&&◌}
use lib.Dec.{leb, ltb}
use lib.IntN.{ℤ, nat_abs}
use lib.Signed.{quot_z, rem_z}
use borrow.Author.Tests.{le-leb}
use mir.Syntax.{w64}
use mir.Val.{SFits}
use mir.ValLaws.{to_z-of_z}
use Rattle.meaning.specs.Value.{Value, absent, number, bit}
use Rattle.meaning.specs.Arithmetic.{apply_numbers}
use Rattle.meaning.proofs.Arithmetic.{nat_abs_quot_z, nat_abs_rem_z}
use Rattle.nodes.specs.Bounded.{in_bound, Small, no_value, some_value, bounded, evaluated, operator_at, applied_by_kind}
use Rattle.nodes.specs.declared.Evaluated.{Evaluated}
use Rattle.arithmetic.specs.Coded.{coded}
use Rattle.arithmetic.proofs.Machine.{held}

-- The number of a value within the bound is the value, and that of no value is beyond the bound.
abbrev pub Decodes : Evaluated → Type 0
Decodes e = bounded (coded e) ≡ e

pub decodes_none : Decodes no_value
decodes_none = refl

pub decodes_bit : (b : Bool) → Decodes (some_value (bit b))
decodes_bit true = refl
decodes_bit false = refl

pub decodes_cond : (t : Bool) {x y : Evaluated} → Decodes x → Decodes y → Decodes (cond t x y)
decodes_cond true p q = p
decodes_cond false p q = q

pub decodes_bounded : (z : ℤ) → Decodes (bounded z)
decodes_bounded z = by (in_bound z) refl
  where
    by : (t : Bool) → in_bound z ≡ t → Decodes (cond t (some_value z) no_value)
    by true e = simp e
    by false e = refl

pub decodes_evaluated : (v : Value) → Decodes (evaluated v)
decodes_evaluated absent = decodes_none
decodes_evaluated (number z) = decodes_bounded z

pub decodes_applied : (k : ℕ) (a b : ℤ) → Decodes (applied_by_kind k a b)
decodes_applied k a b =
    decodes_cond (leb 7 k && ltb k 22) (decodes_cond (in_bound a && in_bound b) (decodes_evaluated (apply_numbers (operator_at k) a b)) decodes_none) decodes_none

-- ---- results that need no test

module _ (a b : ℤ) (s : Small a) where
  pub quotient-within : in_bound (quot_z a b) ≡ true
  quotient-within = le-leb (nat_abs (quot_z a b)) 1000000000 (omega (arith, nat_abs_quot_z a b, div-le_self (nat_abs a) (nat_abs b)))

  pub remainder-within : in_bound (rem_z a b) ≡ true
  remainder-within = le-leb (nat_abs (rem_z a b)) 1000000000 (omega (arith, nat_abs_rem_z a b, mod-le (nat_abs a) (nat_abs b)))

-- A truth value.
pub bit-coded : {r : ℤ} {t u : Bool} → r ≡ bit t → t ≡ u → r ≡ coded (evaluated (number (bit u)))
bit-coded {r} {t} {u} h e = h ∙ ap bit e ∙ by u
  where
    by : (u : Bool) → bit u ≡ coded (bounded (bit u))
    by true = refl
    by false = refl

-- ---- a result that is tested

pub tested_coded : {r x z : ℤ} → SFits w64 r → r ≡ z → x ≡ coded (bounded (held r)) → x ≡ coded (evaluated (number z))
tested_coded {r} f h q = q ∙ ap (λ y. coded (bounded y)) (to_z-of_z w64 r f ∙ h)

-- ---- numbers that a call gave

-- A number that a call gave, as it is returned.
pub held-result : {r z : ℤ} → SFits w64 r → r ≡ z → held r ≡ z
held-result {r} f e = to_z-of_z w64 r f ∙ e

-- The number that a call gave, read back.
pub held_decoded : {r : ℤ} (e : Evaluated) → SFits w64 r → r ≡ coded e → Decodes e → bounded (held r) ≡ e
held_decoded e f h d = ap bounded (held-result f h) ∙ d
