-- Signed numbers as the machine holds them: what passes through a local is unchanged, results of small operands fit, and tests on the bits are
-- tests of the numbers.
use Prim.Native.Nat.{ℕ, zero, suc, ◌+◌, ◌-◌, ◌*◌, ◌/◌, ◌≤◌, ◌<◌}
use native.Mathlib.Omega.{arith}
use native.Mathlib.Decide.{ℕ_discrete, dec_lt}
use native.Mathlib.Nat.{div-le_self, mul-le-mul, le_trans, le_refl}
use mathlib.Core.Path.{◌≡◌, refl, sym, ◌∙◌, ap, subst}
use mathlib.Core.Bool.{Bool, true, false, cond, not, ◌&&◌}
use lib.Dec.{T, ltb, leb, eqb}
use lib.IntN.{ℤ, pos, negsuc, nat_abs, neg_ℤ, sub_ℕ, ◌+ℤ◌, ◌-ℤ◌, ◌*ℤ◌}
use lib.Signed.{mag, mag_rem, quot_z, rem_z, lt_z, le_z, non_neg}
use borrow.Author.Tests.{ltb-true, ltb-false, le-leb, lt-leb, eq-eqb, ne_eqb}
use mir.Syntax.{w64}
use mir.Val.{SFits, Fits, to_z, of_z}
use mir.ValLaws.{to_z-of_z, sfits_le}
use Rattle.meaning.specs.Value.{absent, number, nonzero, compares, equal}
use Rattle.nodes.specs.Bounded.{in_bound, Small, no_value, evaluated}
use Rattle.arithmetic.specs.Coded.{coded}

-- ---- what passes through locals

-- A signed value that goes through a local or an argument.
abbrev pub held : ℤ → ℤ
held z = to_z w64 (of_z w64 z)

-- A function of two numbers that fit does not see that they were held.
pub held_both : {X : Type 0} (f : ℤ → ℤ → X) (a b : ℤ) → SFits w64 a → SFits w64 b → f (held a) (held b) ≡ f a b
held_both f a b fa fb = rw (to_z-of_z w64 a fa, to_z-of_z w64 b fb)

module _ (f : ℤ → ℤ → ℤ) (a b : ℤ) (fa : SFits w64 a) (fb : SFits w64 b) (h : SFits w64 (f a b)) where
  pub held_fits : SFits w64 (f (held a) (held b))
  held_fits = subst (SFits w64) (sym (held_both f a b fa fb)) h

  pub held-exact : held (f (held a) (held b)) ≡ f a b
  held-exact = ap held (held_both f a b fa fb) ∙ to_z-of_z w64 (f a b) h

-- ---- results of small operands

mag_negℤ : (n : ℕ) → mag (neg_ℤ (pos n)) ≤ n
mag_negℤ zero = omega arith
mag_negℤ (suc n) = omega arith

nat_abs_negℤ : (z : ℤ) → nat_abs (neg_ℤ z) ≡ nat_abs z
nat_abs_negℤ (pos zero) = refl
nat_abs_negℤ (pos (suc n)) = refl
nat_abs_negℤ (negsuc n) = refl

mag_subℕ : (a b : ℕ) → mag (sub_ℕ a b) ≤ a + b
mag_subℕ a b = by (ltb a b)
  where
    by : (t : Bool) → mag (cond t (negsuc (b - suc a)) (pos (a - b))) ≤ a + b
    by true = omega arith
    by false = omega arith

mag_+ℤ : (a b : ℤ) → mag (a +ℤ b) ≤ nat_abs a + nat_abs b
mag_+ℤ (pos a) (pos b) = omega arith
mag_+ℤ (pos a) (negsuc b) = mag_subℕ a (suc b)
mag_+ℤ (negsuc a) (pos b) = let h = mag_subℕ b (suc a) in omega arith
mag_+ℤ (negsuc a) (negsuc b) = omega arith

mag_*ℤ : (a b : ℤ) → mag (a *ℤ b) ≤ nat_abs a * nat_abs b
mag_*ℤ (pos a) (pos b) = le_refl (a * b)
mag_*ℤ (pos a) (negsuc b) = mag_negℤ (a * suc b)
mag_*ℤ (negsuc a) (pos b) = mag_negℤ (suc a * b)
mag_*ℤ (negsuc a) (negsuc b) = le_refl (suc a * suc b)

mag_quot_z : (a b : ℤ) → mag (quot_z a b) ≤ nat_abs a
mag_quot_z (pos a) (pos b) = div-le_self a b
mag_quot_z (pos a) (negsuc b) = le_trans (mag_negℤ (a / suc b)) (div-le_self a (suc b))
mag_quot_z (negsuc a) (pos b) = le_trans (mag_negℤ (suc a / b)) (div-le_self (suc a) b)
mag_quot_z (negsuc a) (negsuc b) = div-le_self (suc a) (suc b)

pub small-fits : (z : ℤ) → Small z → SFits w64 z
small-fits (pos n) h = record { sfits = omega arith }
small-fits (negsuc n) h = record { sfits = omega arith }

module _ (a b : ℤ) (sa : Small a) (sb : Small b) where
  pub +ℤ-fits : SFits w64 (a +ℤ b)
  +ℤ-fits = record { sfits = omega (arith, mag_+ℤ a b) }

  pub -ℤ-fits : SFits w64 (a -ℤ b)
  -ℤ-fits = record { sfits = omega (arith, mag_+ℤ a (neg_ℤ b), nat_abs_negℤ b) }

  pub *ℤ-fits : SFits w64 (a *ℤ b)
  *ℤ-fits = let h : nat_abs a * nat_abs b ≤ 1000000000 * 1000000000 = mul-le-mul sa sb in record { sfits = omega (arith, mag_*ℤ a b) }

  pub quot_z_fits : SFits w64 (quot_z a b)
  quot_z_fits = record { sfits = omega (arith, mag_quot_z a b) }

pub rem_z_fits : (a b : ℤ) → SFits w64 a → SFits w64 (rem_z a b)
rem_z_fits a b f = sfits_le (mag_rem a b) f

-- ---- tests on the bits

pub bits-zero : (z : ℤ) → SFits w64 z → of_z w64 z ≡ 0 → z ≡ pos 0
bits-zero (pos n) f e = ap pos e
bits-zero (negsuc n) f e = absurd (omega arith)

pub bits_positive : (z : ℤ) → SFits w64 z → (of_z w64 z ≡ 0 → ⊥) → 0 < of_z w64 z
bits_positive (pos n) f e = omega arith
bits_positive (negsuc n) f e = omega arith

-- The bits of a number are 0 exactly if the number is not true.
pub bits-nonzero : (z : ℤ) → (of_z w64 z ≡ 0 → ⊥) → nonzero z ≡ true
bits-nonzero (pos zero) e = absurd (e refl)
bits-nonzero (pos (suc n)) e = refl
bits-nonzero (negsuc n) e = refl

pub bits_false : (z : ℤ) → SFits w64 z → of_z w64 z ≡ 0 → nonzero z ≡ false
bits_false z f e = ap nonzero (bits-zero z f e)

-- ---- the magnitude bound

in_bound-below : (z : ℤ) → lt_z z (negsuc 999999999) ≡ true → false ≡ in_bound z
in_bound-below (pos n) e = let y : ◌≡◌ {A = ℕ} 0 1 = cc in absurd (omega arith)
in_bound-below (negsuc n) e = sym (lt-leb (suc n) 1000000000 (omega (arith, ltb-true 999999999 n e)))

in_bound-above : (z : ℤ) → lt_z z (negsuc 999999999) ≡ false → le_z z (pos 1000000000) ≡ in_bound z
in_bound-above (pos n) e = refl
in_bound-above (negsuc n) e = sym (le-leb (suc n) 1000000000 (omega (arith, ltb-false 999999999 n e)))

module _ (z : ℤ) (f : SFits w64 z) where
  pub held_below : lt_z (held z) (negsuc 999999999) ≡ true → false ≡ in_bound z
  held_below e = in_bound-below z (rw (to_z-of_z w64 z f) at e)

  pub held-above : lt_z (held z) (negsuc 999999999) ≡ false → le_z (held z) (pos 1000000000) ≡ in_bound z
  held-above e = rw (to_z-of_z w64 z f) (in_bound-above z (rw (to_z-of_z w64 z f) at e))

-- ---- equal numbers

-- Both orders hold exactly of equal numbers.
both_leb : (m n : ℕ) → Dec (m ≡ n) → eqb m n ≡ leb m n && leb n m
both_leb m n (yes e) = simp (eq-eqb m n e, le-leb m n (omega arith), le-leb n m (omega arith))
both_leb m n (no e) = ne_eqb m n e ∙ by (dec_lt m n)
  where
    by : Dec (m < n) → false ≡ leb m n && leb n m
    by (yes h) = simp (le-leb m n (omega arith), lt-leb n m h)
    by (no h) = simp (lt-leb m n (omega arith))

eqb_leb : (m n : ℕ) → eqb m n ≡ leb m n && leb n m
eqb_leb m n = both_leb m n (ℕ_discrete m n)

eqb_cong : (m n x y : ℕ) → (m ≡ n → x ≡ y) → (x ≡ y → m ≡ n) → eqb m n ≡ eqb x y
eqb_cong m n x y f g = by (ℕ_discrete m n)
  where
    by : Dec (m ≡ n) → eqb m n ≡ eqb x y
    by (yes e) = eq-eqb m n e ∙ sym (eq-eqb x y (f e))
    by (no e) = ne_eqb m n e ∙ sym (ne_eqb x y (λ p. e (g p)))

pub bits-same : (a b : ℤ) → SFits w64 a → SFits w64 b → eqb (of_z w64 a) (of_z w64 b) ≡ compares equal a b
bits-same (pos m) (pos n) fa fb = eqb_leb m n
bits-same (pos m) (negsuc n) fa fb = ne_eqb m (of_z w64 (negsuc n)) (λ e. omega arith)
bits-same (negsuc m) (pos n) fa fb = ne_eqb (of_z w64 (negsuc m)) n (λ e. omega arith)
bits-same (negsuc m) (negsuc n) fa fb = eqb_cong (of_z w64 (negsuc m)) (of_z w64 (negsuc n)) n m (λ e. omega arith) (λ e. omega arith) ∙ eqb_leb n m

pub bits-not-zero : (z : ℤ) → SFits w64 z → not (eqb (of_z w64 z) 0) ≡ nonzero z
bits-not-zero z f = by (ℕ_discrete (of_z w64 z) 0)
  where
    by : Dec (of_z w64 z ≡ 0) → not (eqb (of_z w64 z) 0) ≡ nonzero z
    by (yes e) = ap not (eq-eqb (of_z w64 z) 0 e) ∙ sym (bits_false z f e)
    by (no e) = ap not (ne_eqb (of_z w64 z) 0 e) ∙ sym (bits-nonzero z e)

-- ---- division: the quotient or remainder f, and none by 0

module _ (f : ℤ → ℤ → ℤ) (a b : ℤ) where
  pub by-nonzero : nonzero b ≡ true → in_bound (f a b) ≡ true → f a b ≡ coded (evaluated (cond (nonzero b) (number (f a b)) absent))
  by-nonzero e h = simp (e, h)

  pub by_zero : nonzero b ≡ false → coded no_value ≡ coded (evaluated (cond (nonzero b) (number (f a b)) absent))
  by_zero e = simp e

-- The nonzero of a value that was held, as a branch leaves it.
pub held-nonzero : (z : ℤ) → SFits w64 z → {r t : Bool} → r ≡ nonzero (held z) → r ≡ t → nonzero z ≡ t
held-nonzero z f e h = ap nonzero (sym (to_z-of_z w64 z f)) ∙ sym e ∙ h

-- ---- a number that is taken as an index

non_neg_natural : (z : ℤ) → lt_z z (pos 0) ≡ false → (T (non_neg z) × (z ≡ pos (nat_abs z)))
non_neg_natural (pos n) e = (tt, refl)
non_neg_natural (negsuc n) e = let y : ◌≡◌ {A = ℕ} 0 1 = cc in absurd (omega arith)

nat_abs_fits : (z : ℤ) → SFits w64 z → Fits w64 (nat_abs z)
nat_abs_fits (pos n) f = omega arith
nat_abs_fits (negsuc n) f = omega arith

below-zero : (z : ℤ) → lt_z z (pos 0) ≡ true → (k : ℕ) × (z ≡ negsuc k)
below-zero (pos n) e = let h = ltb-true n 0 e in absurd (omega arith)
below-zero (negsuc n) e = (n, refl)

module _ (z : ℤ) (f : SFits w64 z) where
  plain : {t : Bool} → lt_z (held z) (pos 0) ≡ t → lt_z z (pos 0) ≡ t
  plain e = ap (λ x. lt_z x (pos 0)) (sym (to_z-of_z w64 z f)) ∙ e

  pub number_cast : lt_z (held z) (pos 0) ≡ false → T (non_neg (held z)) × Fits w64 (nat_abs (held z))
  number_cast e = rw (to_z-of_z w64 z f) ((non_neg_natural z (plain e)).0, nat_abs_fits z f)

  pub number-natural : lt_z (held z) (pos 0) ≡ false → z ≡ pos (nat_abs (held z))
  number-natural e = (non_neg_natural z (plain e)).1 ∙ ap (λ x. pos (nat_abs x)) (sym (to_z-of_z w64 z f))

  pub number-negative : lt_z (held z) (pos 0) ≡ true → (k : ℕ) × (z ≡ negsuc k)
  number-negative e = below-zero z (plain e)
