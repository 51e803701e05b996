-- Quotient and remainder for all numbers, cut toward zero (document 01, "Meaning at time i") and rounded down (document 02, S-11): the dividend is
-- quotient times divisor plus remainder, the remainder is smaller in magnitude than the divisor and has the dividend's sign, or, rounded down, the
-- divisor's; with divisor 0 there is neither.
use Prim.Native.Nat.{ℕ, zero, suc, ◌*◌, ◌/◌, ◌%◌, ◌<◌, zero-le}
use native.Mathlib.Omega.{arith}
use native.Mathlib.Nat.{mod-lt, div-add-mod', zero-mul}
use mathlib.Core.Path.{◌≡◌, refl, sym, ◌∙◌, ap, subst, subst₂}
use mathlib.Core.Logic.{◌≢◌}
use mathlib.Core.Bool.{Bool, true, false, cond}
use mathlib.Core.List.{List, [], ◌∷◌, map}
use lib.Dec.{leb→le, le→leb, ltb→lt}
use lib.IntN.{ℤ, pos, negsuc, neg_ℤ, nat_abs, pred_ℤ, ◌+ℤ◌, ◌-ℤ◌, ◌*ℤ◌, neg_ℤ-+ℤ, +ℤ_assoc, +ℤ_comm, +ℤ_one, -ℤ_one, -ℤ-+ℤ_cancel, suc_ℤ-*ℤ, pred_ℤ-*ℤ}
use lib.Signed.{quot_z, rem_z, ◌≤ℤ◌, ◌<ℤ◌, le_z_yes}
use Rattle.basics.proofs.Tests.{cond_true}
use Rattle.meaning.specs.Value.{Value, absent, number, nonzero}
use Rattle.meaning.specs.Arithmetic.{divide, remainder, floored_divide, floored_remainder, are_opposite, floor_quot_z, floor_rem_z, apply}
use Rattle.meaning.proofs.Value.{nonzero_means}
use Rattle.meaning.proofs.Order.{≤-+ℤ_pos, +ℤ_pos_<, -ℤ-pos_≤, -ℤ-pos_<}
use Rattle.meaning.proofs.Arithmetic.{nat_abs_rem_z, rem_z_above, rem_z_below, floor_rem_z-small, floor_rem_z-above, floor_rem_z-below}

-- q and r are quotient and remainder of a by b, and the remainder has the sign of s: of the dividend, where the quotient is cut toward zero, or of the
-- divisor, where it is rounded down.
pub record Division (s a b q r : ℤ) : Type 0 where
  pub whole : q *ℤ b +ℤ r ≡ a
  pub small : nat_abs r < nat_abs b
  pub above : pos 0 ≤ℤ s → pos 0 ≤ℤ r
  pub below : s ≤ℤ pos 0 → r ≤ℤ pos 0

negℤ_*ℤ_pos : (q b : ℕ) → neg_ℤ (pos q) *ℤ pos b ≡ neg_ℤ (pos (q * b))
negℤ_*ℤ_pos zero b = rw zero-mul
negℤ_*ℤ_pos (suc q) b = refl

negℤ_*ℤ_negsuc : (q b : ℕ) → neg_ℤ (pos q) *ℤ negsuc b ≡ pos (q * suc b)
negℤ_*ℤ_negsuc zero b = rw zero-mul
negℤ_*ℤ_negsuc (suc q) b = refl

quot_z_rem_z : (a b : ℤ) → quot_z a b *ℤ b +ℤ rem_z a b ≡ a
quot_z_rem_z (pos a) (pos b) = ap pos (div-add-mod' a b)
quot_z_rem_z (pos a) (negsuc b) = ap (λ z. z +ℤ pos (a % suc b)) (negℤ_*ℤ_negsuc (a / suc b) b) ∙ ap pos (div-add-mod' a (suc b))
quot_z_rem_z (negsuc a) (pos b) =
    let r = suc a % b in
    let q = suc a / b in
    ap (λ z. z +ℤ neg_ℤ (pos r)) (negℤ_*ℤ_pos q b) ∙ sym (neg_ℤ-+ℤ (pos (q * b)) (pos r)) ∙ ap (λ n. neg_ℤ (pos n)) (div-add-mod' (suc a) b)
quot_z_rem_z (negsuc a) (negsuc b) = sym (neg_ℤ-+ℤ (pos (suc a / suc b * suc b)) (pos (suc a % suc b))) ∙ ap (λ n. neg_ℤ (pos n)) (div-add-mod' (suc a) (suc b))

nat_abs_positive : (b : ℤ) → b ≢ pos 0 → 0 < nat_abs b
nat_abs_positive (pos zero) h = absurd (h refl)
nat_abs_positive (pos (suc b)) h = omega arith
nat_abs_positive (negsuc b) h = omega arith

-- "A quotient is cut toward zero and the remainder has the dividend's sign".
pub division : (a b : ℤ) → b ≢ pos 0
    → (q : ℤ) × (r : ℤ) × (apply divide (number a) (number b) ≡ number q) × (apply remainder (number a) (number b) ≡ number r) × Division a a b q r
division a b h =
    let t = (nonzero_means b).1 h in (
      quot_z a b,
      rem_z a b,
      cond_true (nonzero b) (number (quot_z a b)) absent t,
      cond_true (nonzero b) (number (rem_z a b)) absent t,
      record { whole = quot_z_rem_z a b; small = rw nat_abs_rem_z (mod-lt (nat_abs a) (nat_abs_positive b h)); above = rem_z_above a b; below = rem_z_below a b },
    )

-- A quotient of one less leaves a remainder of one divisor more.
less_one : (q b r : ℤ) → (q -ℤ pos 1) *ℤ b +ℤ (r +ℤ b) ≡ q *ℤ b +ℤ r
less_one q b r =
    ap (λ z. z *ℤ b +ℤ (r +ℤ b)) (-ℤ_one q) ∙ ap (λ z. z +ℤ (r +ℤ b)) (pred_ℤ-*ℤ q b) ∙ ap (λ z. q *ℤ b -ℤ b +ℤ z) (+ℤ_comm r b)
    ∙ sym (+ℤ_assoc (q *ℤ b -ℤ b) b r) ∙ ap (λ z. z +ℤ r) (-ℤ-+ℤ_cancel (q *ℤ b) b)

floor_quot_z-floor_rem_z : (a b : ℤ) → floor_quot_z a b *ℤ b +ℤ floor_rem_z a b ≡ a
floor_quot_z-floor_rem_z a b = by (are_opposite (rem_z a b) b)
  where
    by : (o : Bool) → cond o (quot_z a b -ℤ pos 1) (quot_z a b) *ℤ b +ℤ cond o (rem_z a b +ℤ b) (rem_z a b) ≡ a
    by true = less_one (quot_z a b) b (rem_z a b) ∙ quot_z_rem_z a b
    by false = quot_z_rem_z a b

-- "quotients rounded down", "the remainder having the divisor's sign" (document 02, S-11).
pub floored-division : (a b : ℤ) → b ≢ pos 0
    → (q : ℤ) × (r : ℤ) × (apply floored_divide (number a) (number b) ≡ number q) × (apply floored_remainder (number a) (number b) ≡ number r) × Division b a b q r
floored-division a b h =
    let t = (nonzero_means b).1 h in (
      floor_quot_z a b,
      floor_rem_z a b,
      cond_true (nonzero b) (number (floor_quot_z a b)) absent t,
      cond_true (nonzero b) (number (floor_rem_z a b)) absent t,
      record { whole = floor_quot_z-floor_rem_z a b; small = floor_rem_z-small a b t; above = floor_rem_z-above a b t; below = floor_rem_z-below a b t },
    )

-- ---- what "rounded down" says

-- q is the greatest number whose product with b is not beyond a: not above it where b is above 0, not below it where b is below 0.
pub record RoundedDown (a b q : ℤ) : Type 0 where
  pub positive : pos 0 <ℤ b → ((q *ℤ b) ≤ℤ a) × (a <ℤ ((q +ℤ pos 1) *ℤ b))
  pub negative : b <ℤ pos 0 → (a ≤ℤ (q *ℤ b)) × (((q +ℤ pos 1) *ℤ b) <ℤ a)

-- A quotient of one more takes one divisor more.
more-one : (q b : ℤ) → (q +ℤ pos 1) *ℤ b ≡ q *ℤ b +ℤ b
more-one q b = ap (λ z. z *ℤ b) (+ℤ_one q) ∙ suc_ℤ-*ℤ q b

-- The dividend, k below the product of a quotient and a divisor below 0.
below_product : (q a : ℤ) (b k : ℕ) → (q *ℤ negsuc b) -ℤ pos k ≡ a → k < suc b → (a ≤ℤ (q *ℤ negsuc b)) × (((q +ℤ pos 1) *ℤ negsuc b) <ℤ a)
below_product q a b k e h = (subst (λ z. z ≤ℤ (q *ℤ negsuc b)) e (-ℤ-pos_≤ (q *ℤ negsuc b) k), subst₂ (λ y z. y <ℤ z) (sym (more-one q (negsuc b))) e (-ℤ-pos_< (q *ℤ negsuc b) h))

-- A remainder with the divisor's sign makes the quotient one that is rounded down.
pub rounded_down : (a b q r : ℤ) → Division b a b q r → RoundedDown a b q
rounded_down a (pos b) q (pos r) d =
    record {
      positive = λ h. (subst (λ z. (q *ℤ pos b) ≤ℤ z) d.whole (≤-+ℤ_pos (q *ℤ pos b) r), subst₂ (λ y z. y <ℤ z) d.whole (sym (more-one q (pos b))) (+ℤ_pos_< (q *ℤ pos b) d.small));
      negative = λ h. let l = ltb→lt b 0 h.lt in absurd (omega arith);
    }
rounded_down a (pos b) q (negsuc r) d = absurd (d.above (le_z_yes (le→leb 0 b zero-le))).le
rounded_down a (negsuc b) q (pos zero) d = record { positive = λ h. absurd h.lt; negative = λ h. below_product q a b 0 d.whole (omega arith) }
rounded_down a (negsuc b) q (pos (suc r)) d = let l = leb→le (suc r) 0 (d.below (le_z_yes tt)).le in absurd (omega arith)
rounded_down a (negsuc b) q (negsuc r) d = record { positive = λ h. absurd h.lt; negative = λ h. below_product q a b (suc r) d.whole d.small }

-- ---- divisor 0 and worked values

-- "such a quotient or remainder has no value" (document 02, S-5)
pub division-by-zero : (a : Value) → (apply divide a (number (pos 0)) ≡ absent) × (apply remainder a (number (pos 0)) ≡ absent)
division-by-zero absent = (refl, refl)
division-by-zero (number a) = (refl, refl)

pub floored-by-zero : (a : Value) → (apply floored_divide a (number (pos 0)) ≡ absent) × (apply floored_remainder a (number (pos 0)) ≡ absent)
floored-by-zero absent = (refl, refl)
floored-by-zero (number a) = (refl, refl)

-- "−7 / 2 is −3, −7 % 2 is −1."
division_example : (apply divide (number (neg_ℤ (pos 7))) (number (pos 2)) ≡ number (neg_ℤ (pos 3)))
    × (apply remainder (number (neg_ℤ (pos 7))) (number (pos 2)) ≡ number (neg_ℤ (pos 1)))
division_example = (refl, refl)

abbrev minus : ℕ → ℤ
minus n = neg_ℤ (pos n)

-- Dividend, divisor, quotient and remainder.
abbrev floored_rows : List (ℤ × ℤ × ℤ × ℤ)
floored_rows =
    (minus 7, pos 2, minus 4, pos 1)
    ∷ (pos 7, pos 2, pos 3, pos 1)
    ∷ (pos 7, minus 2, minus 4, minus 1)
    ∷ (minus 7, minus 2, pos 3, minus 1)
    ∷ (minus 8, pos 2, minus 4, pos 0)
    ∷ (pos 8, minus 2, minus 4, pos 0)
    ∷ (minus 8, minus 2, pos 4, pos 0)
    ∷ (minus 1, pos 2, minus 1, pos 1)
    ∷ (pos 0, minus 2, pos 0, pos 0) ∷ []

-- "−7 / 2 is −4, −7 % 2 is 1" (document 02, S-11), and other signs; an exact quotient is not lowered.
floored_examples : map {B = Value × Value} (λ r. (apply floored_divide (number r.0) (number r.1), apply floored_remainder (number r.0) (number r.1))) floored_rows ≡ map {B = Value × Value} (λ r. (number r.2, number r.3)) floored_rows
floored_examples = refl
