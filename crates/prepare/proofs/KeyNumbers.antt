-- Values raised to natural numbers and lowered back: what they are, that they fit what they are stored in, and that one undoes the other, of none too.
use Prim.Native.Nat.{ℕ, suc, ◌+◌, ◌-◌, ◌≤◌, ◌<◌}
use native.Mathlib.Omega.{arith}
use mathlib.Core.Path.{◌≡◌, refl, sym, ◌∙◌, ap, subst}
use mathlib.Core.Bool.{Bool, true, false, cond}
use lib.Dec.{T, ltb}
use lib.IntN.{ℤ, pos, negsuc, nat_abs, sub_ℕ, ◌+ℤ◌}
use lib.Signed.{mag, non_neg}
use borrow.Author.Tests.{le-leb, lt-ltb, le-ltb}
use mir.Syntax.{w32, w64}
use mir.Val.{Fits, SFits}
use mir.ValLaws.{to_z-of_z}
use Rattle.meaning.specs.Value.{Value, absent, number}
use Rattle.nodes.specs.Bounded.{in_bound, stored_value, SmallValue}
use Rattle.arithmetic.proofs.Machine.{held}
use Rattle.prepare.specs.Key.{raised, lowered}

subℕ_less : (a b : ℕ) → a < b → sub_ℕ a b ≡ negsuc (b - suc a)
subℕ_less a b h = simp (lt-ltb a b h)

subℕ_least : (a b : ℕ) → b ≤ a → sub_ℕ a b ≡ pos (a - b)
subℕ_least a b h = simp (le-ltb a b h)

-- ---- a number from a key

pub lowered-fits : (x : ℕ) → x < 4294967296 → SFits w64 (lowered x)
lowered-fits x h = record { sfits = by (ltb x 1000000000) }
  where
    by : (t : Bool) → mag (cond t (negsuc (1000000000 - suc x)) (pos (x - 1000000000))) < 9223372036854775808
    by true = omega arith
    by false = omega arith

-- ---- a value for a key

module _ (z : ℤ) (small : nat_abs z ≤ 1000000000) where
  sum-natural : (z +ℤ pos 1000000000 ≡ pos (nat_abs (z +ℤ pos 1000000000))) × (nat_abs (z +ℤ pos 1000000000) ≤ 2000000000)
  sum-natural = by z small
    where
      by : (z : ℤ) → nat_abs z ≤ 1000000000 → (z +ℤ pos 1000000000 ≡ pos (nat_abs (z +ℤ pos 1000000000))) × (nat_abs (z +ℤ pos 1000000000) ≤ 2000000000)
      by (pos n) h = (refl, omega arith)
      by (negsuc n) h =
          let e = subℕ_least 1000000000 (suc n) h in
          subst (λ (y : ℤ). (y ≡ pos (nat_abs y)) × (nat_abs y ≤ 2000000000)) (sym e) (refl, omega arith)

  sum_fits : SFits w64 (z +ℤ pos 1000000000)
  sum_fits = let s = sum-natural in subst (SFits w64) (sym s.0) (record { sfits = omega (arith, s.1) })

  module _ (f : SFits w64 z) where
    pub held-sum-fits : SFits w64 (held z +ℤ pos 1000000000)
    held-sum-fits = rw (to_z-of_z w64 z f) sum_fits

    held-sum : held (held z +ℤ pos 1000000000) ≡ pos (nat_abs (z +ℤ pos 1000000000))
    held-sum = to_z-of_z w64 (held z +ℤ pos 1000000000) held-sum-fits ∙ ap (λ y. y +ℤ pos 1000000000) (to_z-of_z w64 z f) ∙ sum-natural.0

    pub held-sum_casts : T (non_neg (held (held z +ℤ pos 1000000000))) × Fits w32 (nat_abs (held (held z +ℤ pos 1000000000)))
    held-sum_casts =
        subst (λ (y : ℤ). T (non_neg y) × Fits w32 (nat_abs y)) (sym held-sum) (tt, record { fits = omega (arith, sum-natural.1) })

    pub held-sum-raised : in_bound z ≡ true → nat_abs (held (held z +ℤ pos 1000000000)) ≡ raised (stored_value z)
    held-sum-raised e = ap nat_abs held-sum ∙ sym (simp e)

pub raised-absent : (z : ℤ) → in_bound z ≡ false → raised absent ≡ raised (stored_value z)
raised-absent z e = sym (simp e)

lowered-raised : (z : ℤ) → nat_abs z ≤ 1000000000 → lowered (raised (number z)) ≡ z
lowered-raised (pos n) h = subℕ_least (n + 1000000000) 1000000000 (omega arith) ∙ ap pos (omega arith)
lowered-raised (negsuc n) h =
    ap (λ y. lowered (nat_abs y)) (subℕ_least 1000000000 (suc n) h)
    ∙ subℕ_less (1000000000 - suc n) 1000000000 (omega arith) ∙ ap negsuc (omega arith)

-- What is stored of a value is read back as it.
pub stored-raised : (v : Value) → SmallValue v → stored_value (lowered (raised v)) ≡ v
stored-raised absent h = refl
stored-raised (number z) h = ap stored_value (lowered-raised z h) ∙ simp (le-leb (nat_abs z) 1000000000 h)
