-- What an operator gives, where it gives a number, lies in the operator's interval, and an operator's interval is not empty. From the order of
-- the integers (Order).
use Prim.Native.Nat.{ℕ, zero, suc, ◌-◌, ◌*◌, ◌/◌, ◌%◌, ◌≤◌, ◌<◌, max, zero-le}
use native.Mathlib.Omega.{arith}
use native.Mathlib.Nat.{le_trans, div-le_self, div-add-mod', mod-le, mod-lt, mul-le-mul_left, le_of_suc-le-suc, not-suc-le-zero}
use mathlib.Core.Path.{◌≡◌, refl, sym, ◌∙◌, ap, subst, subst₂}
use mathlib.Core.Bool.{Bool, true, false, not, cond, ◌&&◌, ◌||◌, true≢false}
use lib.Dec.{T, ltb, leb→le, le→leb}
use lib.IntN.{ℤ, pos, negsuc, neg_ℤ, nat_abs, suc_ℤ, pred_ℤ, ◌+ℤ◌, ◌-ℤ◌, ◌*ℤ◌, suc_ℤ-+ℤ, +ℤ-suc_ℤ, +ℤ-pred_ℤ, +ℤ_idr, suc_ℤ-*ℤ, *ℤ_comm, neg_ℤ-suc_ℤ}
use borrow.Author.Tests.{lt-ltb, le-ltb}
use lib.Signed.{le_z, quot_z, rem_z, ◌≤ℤ◌, ≤ℤ_refl, le_z_yes}
use Rattle.meaning.specs.Value.{Value, absent, number, nonzero, bit, compares}
use Rattle.meaning.specs.Expression.{negated, chosen}
use Rattle.meaning.specs.Arithmetic.{Operator, add, subtract, multiply, divide, remainder, compare, and, or, floored_divide, floored_remainder, Interval, Within, AnyWithin, least, greatest, hull, over_ends, magnitude, around, remainder_bound, remainder_interval, are_opposite, floor_quot_z, floor_rem_z, truth_interval, apply_numbers, apply, operator_interval}
use Rattle.meaning.proofs.Order.{≤ℤ_trans, least-≤-left, least-≤-right, least-cases, greatest-≥-left, greatest-≥-right, greatest-cases, ≤_sucℤ, predℤ_≤, Rising, Falling, rising-≤, falling-≤, ≤-+ℤ_pos}

-- ---- intervals

-- A wider interval holds what a narrower one holds.
pub Within-wider : {I J : Interval} {x : ℤ} → J.low ≤ℤ I.low → I.high ≤ℤ J.high → Within I x → Within J x
Within-wider p q h = record { above = ≤ℤ_trans p h.above; below = ≤ℤ_trans h.below q }

-- An interval that is not empty holds its ends.
pub low-within : (I : Interval) → I.low ≤ℤ I.high → Within I I.low
low-within I h = record { above = ≤ℤ_refl I.low; below = h }

pub high-within : (I : Interval) → I.low ≤ℤ I.high → Within I I.high
high-within I h = record { above = h; below = ≤ℤ_refl I.high }

pub hull-left : (I J : Interval) {x : ℤ} → Within I x → Within (hull I J) x
hull-left I J h = Within-wider (least-≤-left I.low J.low) (greatest-≥-left I.high J.high) h

pub hull-right : (I J : Interval) {x : ℤ} → Within J x → Within (hull I J) x
hull-right I J h = Within-wider (least-≤-right I.low J.low) (greatest-≥-right I.high J.high) h

-- No smaller interval holds both.
pub hull_smallest : {K : Interval} (I J : Interval) → K.low ≤ℤ I.low → K.low ≤ℤ J.low → I.high ≤ℤ K.high → J.high ≤ℤ K.high
    → (K.low ≤ℤ (hull I J).low) × ((hull I J).high ≤ℤ K.high)
hull_smallest {K} I J p q p' q' = (least-cases (λ z. K.low ≤ℤ z) p q, greatest-cases (λ z. z ≤ℤ K.high) p' q')

-- The same for values, which are named, since what AnyWithin says does not show them.
pub any_left : (I J : Interval) (x : Value) → AnyWithin I x → AnyWithin (hull I J) x
any_left I J absent h = tt
any_left I J (number x) h = hull-left I J h

pub any_right : (I J : Interval) (x : Value) → AnyWithin J x → AnyWithin (hull I J) x
any_right I J absent h = tt
any_right I J (number x) h = hull-right I J h

pub hull-chosen : (c : Value) (I J : Interval) (x y : Value) → AnyWithin I x → AnyWithin J y → AnyWithin (hull I J) (chosen c x y)
hull-chosen absent I J x y h k = tt
hull-chosen (number z) I J x y h k = by (nonzero z)
  where
    by : (t : Bool) → AnyWithin (hull I J) (cond t x y)
    by true = any_left I J x h
    by false = any_right I J y k

pub bit-within : (b : Bool) → Within truth_interval (bit b)
bit-within true = record { above = le_z_yes tt; below = le_z_yes tt }
bit-within false = record { above = le_z_yes tt; below = le_z_yes tt }

pub negated-within : (v : Value) → AnyWithin truth_interval (negated v)
negated-within absent = tt
negated-within (number z) = bit-within (not (nonzero z))

-- ---- `+ - *`: the least and greatest over the ends

pub data Monotone (f : ℤ → ℤ) : Type 0 where
  rising : Rising f → Monotone f
  falling : Falling f → Monotone f

-- The interval between what f gives at both ends.
abbrev between_ends : (ℤ → ℤ) → Interval → Interval
between_ends f I = record { low = least (f I.low) (f I.high); high = greatest (f I.low) (f I.high) }

between_ends-within : {f : ℤ → ℤ} → Monotone f → (I : Interval) {x : ℤ} → Within I x → Within (between_ends f I) (f x)
between_ends-within {f} (rising r) I h =
    record {
      above = ≤ℤ_trans (least-≤-left (f I.low) (f I.high)) (rising-≤ r h.above);
      below = ≤ℤ_trans (rising-≤ r h.below) (greatest-≥-right (f I.low) (f I.high));
    }
between_ends-within {f} (falling r) I h =
    record {
      above = ≤ℤ_trans (least-≤-right (f I.low) (f I.high)) (falling-≤ r h.below);
      below = ≤ℤ_trans (falling-≤ r h.above) (greatest-≥-left (f I.low) (f I.high));
    }

pub over_ends-within : (f : ℤ → ℤ → ℤ) → ((y : ℤ) → Monotone (λ x. f x y)) → ((x : ℤ) → Monotone (f x))
    → (I J : Interval) {x y : ℤ} → Within I x → Within J y → Within (over_ends f I J) (f x y)
over_ends-within f p q I J {x} {y} h k =
    let s = between_ends-within (p y) I h in
    let l = between_ends-within (q I.low) J k in
    let r = between_ends-within (q I.high) J k in
    let K = between_ends (f I.low) J in
    let L = between_ends (f I.high) J in
    let l' = hull-left K L l in
    let r' = hull-right K L r in
    record {
      above = ≤ℤ_trans (least-cases (λ z. (over_ends f I J).low ≤ℤ z) l'.above r'.above) s.above;
      below = ≤ℤ_trans s.below (greatest-cases (λ z. z ≤ℤ (over_ends f I J).high) l'.below r'.below);
    }

-- An operation gives z at some numbers of both intervals.
pub record Attained (f : ℤ → ℤ → ℤ) (I J : Interval) (z : ℤ) : Type 0 where
  pub left : ℤ
  pub right : ℤ
  pub left_within : Within I left
  pub right_within : Within J right
  pub gives : f left right ≡ z

attained : (f : ℤ → ℤ → ℤ) (I J : Interval) {x y : ℤ} → Within I x → Within J y → Attained f I J (f x y)
attained f I J {x} {y} p q = record { left = x; right = y; left_within = p; right_within = q; gives = refl }

-- Both ends of `over_ends` are attained: no smaller interval would do.
pub over_ends-attained : (f : ℤ → ℤ → ℤ) (I J : Interval) → I.low ≤ℤ I.high → J.low ≤ℤ J.high
    → Attained f I J (over_ends f I J).low × Attained f I J (over_ends f I J).high
over_ends-attained f I J h k =
    let low-low = attained f I J (low-within I h) (low-within J k) in
    let low-high = attained f I J (low-within I h) (high-within J k) in
    let high-low = attained f I J (high-within I h) (low-within J k) in
    let high-high = attained f I J (high-within I h) (high-within J k) in (
      least-cases (Attained f I J) (least-cases (Attained f I J) low-low low-high) (least-cases (Attained f I J) high-low high-high),
      greatest-cases (Attained f I J) (greatest-cases (Attained f I J) low-low low-high) (greatest-cases (Attained f I J) high-low high-high),
    )

+ℤ-rising-left : (k : ℤ) → Rising (λ m. m +ℤ k)
+ℤ-rising-left k = record { step = λ m. subst (λ z. (m +ℤ k) ≤ℤ z) (sym (suc_ℤ-+ℤ m k)) (≤_sucℤ (m +ℤ k)) }

+ℤ-rising-right : (k : ℤ) → Rising (λ m. k +ℤ m)
+ℤ-rising-right k = record { step = λ m. subst (λ z. (k +ℤ m) ≤ℤ z) (sym (+ℤ-suc_ℤ k m)) (≤_sucℤ (k +ℤ m)) }

-ℤ-falling-right : (k : ℤ) → Falling (λ m. k -ℤ m)
-ℤ-falling-right k = record { step = λ m. subst (λ z. z ≤ℤ (k -ℤ m)) (sym (ap (λ z. k +ℤ z) (neg_ℤ-suc_ℤ m) ∙ +ℤ-pred_ℤ k (neg_ℤ m))) (predℤ_≤ (k -ℤ m)) }

+ℤ_negsuc_≤ : (x : ℤ) (n : ℕ) → (x +ℤ negsuc n) ≤ℤ x
+ℤ_negsuc_≤ x zero = subst (λ z. z ≤ℤ x) (sym (+ℤ-pred_ℤ x (pos 0) ∙ ap pred_ℤ (+ℤ_idr x))) (predℤ_≤ x)
+ℤ_negsuc_≤ x (suc n) = ≤ℤ_trans (subst (λ z. z ≤ℤ (x +ℤ negsuc n)) (sym (+ℤ-pred_ℤ x (negsuc n))) (predℤ_≤ (x +ℤ negsuc n))) (+ℤ_negsuc_≤ x n)

*ℤ_monotone_left : (k : ℤ) → Monotone (λ m. m *ℤ k)
*ℤ_monotone_left (pos n) = rising (record { step = λ m. subst (λ z. (m *ℤ pos n) ≤ℤ z) (sym (suc_ℤ-*ℤ m (pos n))) (≤-+ℤ_pos (m *ℤ pos n) n) })
*ℤ_monotone_left (negsuc n) = falling (record { step = λ m. subst (λ z. z ≤ℤ (m *ℤ negsuc n)) (sym (suc_ℤ-*ℤ m (negsuc n))) (+ℤ_negsuc_≤ (m *ℤ negsuc n) n) })

-- A function that gives the same everywhere goes the same way.
Monotone-cong : {f g : ℤ → ℤ} → ((m : ℤ) → f m ≡ g m) → Monotone f → Monotone g
Monotone-cong e (rising r) = rising (record { step = λ m. subst₂ (λ y z. y ≤ℤ z) (e m) (e (suc_ℤ m)) (r.step m) })
Monotone-cong e (falling r) = falling (record { step = λ m. subst₂ (λ y z. y ≤ℤ z) (e (suc_ℤ m)) (e m) (r.step m) })

*ℤ_monotone_right : (k : ℤ) → Monotone (λ m. k *ℤ m)
*ℤ_monotone_right k = Monotone-cong (λ m. *ℤ_comm m k) (*ℤ_monotone_left k)

-- ---- `/`: a magnitude of at most M

nat_abs_negℤ : (n : ℕ) → nat_abs (neg_ℤ (pos n)) ≡ n
nat_abs_negℤ zero = refl
nat_abs_negℤ (suc n) = refl

pub nat_abs_quot_z : (a b : ℤ) → nat_abs (quot_z a b) ≡ nat_abs a / nat_abs b
nat_abs_quot_z (pos a) (pos b) = refl
nat_abs_quot_z (pos a) (negsuc b) = nat_abs_negℤ (a / suc b)
nat_abs_quot_z (negsuc a) (pos b) = nat_abs_negℤ (suc a / b)
nat_abs_quot_z (negsuc a) (negsuc b) = refl

-- "M the larger magnitude of the dividend's ends" bounds the magnitude of every number between them.
pub magnitude-bounds : (I : Interval) (x : ℤ) → Within I x → nat_abs x ≤ magnitude I
magnitude-bounds I x h = between I.low I.high x h.above h.below
  where
    between : (l m x : ℤ) → l ≤ℤ x → x ≤ℤ m → nat_abs x ≤ max (nat_abs l) (nat_abs m)
    between l (pos m) (pos x) p q = let k = leb→le x m q.le in omega arith
    between l (negsuc m) (pos x) p q = absurd q.le
    between (pos l) m (negsuc x) p q = absurd p.le
    between (negsuc l) m (negsuc x) p q = let k = leb→le x l p.le in omega arith

pub around-within : (m : ℕ) (x : ℤ) → nat_abs x ≤ m → Within (around m) x
around-within zero (pos x) h = record { above = le_z_yes (le→leb 0 x zero-le); below = le_z_yes (le→leb x 0 h) }
around-within (suc m) (pos x) h = record { above = le_z_yes tt; below = le_z_yes (le→leb x (suc m) h) }
around-within zero (negsuc x) h = absurd (not-suc-le-zero h)
around-within (suc m) (negsuc x) h = record { above = le_z_yes (le→leb x m (le_of_suc-le-suc h)); below = le_z_yes tt }

-- A quotient is of no larger magnitude than its dividend.
quotient-within : (I : Interval) (a b : ℤ) → Within I a → Within (around (magnitude I)) (quot_z a b)
quotient-within I a b h =
    let l : nat_abs (quot_z a b) ≤ nat_abs a = rw nat_abs_quot_z (div-le_self (nat_abs a) (nat_abs b)) in
    around-within (magnitude I) (quot_z a b) (le_trans l (magnitude-bounds I a h))

-- ---- `%`: the dividend's sign, and a magnitude below the divisor's

pub nat_abs_rem_z : (a b : ℤ) → nat_abs (rem_z a b) ≡ nat_abs a % nat_abs b
nat_abs_rem_z (pos a) b = refl
nat_abs_rem_z (negsuc a) b = nat_abs_negℤ (suc a % nat_abs b)

negℤ_below : (n : ℕ) → neg_ℤ (pos n) ≤ℤ pos 0
negℤ_below zero = le_z_yes tt
negℤ_below (suc n) = le_z_yes tt

pub rem_z_above : (a b : ℤ) → pos 0 ≤ℤ a → pos 0 ≤ℤ rem_z a b
rem_z_above (pos a) b h = le_z_yes (le→leb 0 (a % nat_abs b) zero-le)
rem_z_above (negsuc a) b h = absurd h.le

pub rem_z_below : (a b : ℤ) → a ≤ℤ pos 0 → rem_z a b ≤ℤ pos 0
rem_z_below (pos a) b h = le_z_yes (le→leb (a % nat_abs b) 0 (le_trans (mod-le a (nat_abs b)) (leb→le a 0 h.le)))
rem_z_below (negsuc a) b h = negℤ_below (suc a % nat_abs b)

-- The part of −k to k that I's ends leave.
abbrev sided : Interval → ℕ → Interval
sided I k = record { low = cond (le_z (pos 0) I.low) (pos 0) (neg_ℤ (pos k)); high = cond (le_z I.high (pos 0)) (pos 0) (pos k) }

-- A number of magnitude at most k whose sign is that of a number in I lies in it.
sided-within : (I : Interval) (k : ℕ) (a z : ℤ) → Within I a → nat_abs z ≤ k → (pos 0 ≤ℤ a → pos 0 ≤ℤ z) → (a ≤ℤ pos 0 → z ≤ℤ pos 0) → Within (sided I k) z
sided-within I k a z h l p q =
    let r = around-within k z l in
    record { above = low (le_z (pos 0) I.low) refl r.above; below = high (le_z I.high (pos 0)) refl r.below }
  where
    low : (t : Bool) → le_z (pos 0) I.low ≡ t → neg_ℤ (pos k) ≤ℤ z → cond t (pos 0) (neg_ℤ (pos k)) ≤ℤ z
    low true e r = p (≤ℤ_trans (le_z_yes (subst T (sym e) tt)) h.above)
    low false e r = r

    high : (t : Bool) → le_z I.high (pos 0) ≡ t → z ≤ℤ pos k → z ≤ℤ cond t (pos 0) (pos k)
    high true e r = q (≤ℤ_trans h.below (le_z_yes (subst T (sym e) tt)))
    high false e r = r

remainder-small : (a b : ℤ) → T (nonzero b) → nat_abs (rem_z a b) < nat_abs b
remainder-small a (pos zero) t = absurd t
remainder-small a (pos (suc b)) t = rw nat_abs_rem_z (mod-lt (nat_abs a) (omega arith))
remainder-small a (negsuc b) t = rw nat_abs_rem_z (mod-lt (nat_abs a) (omega arith))

remainder-within : (I J : Interval) (a b : ℤ) → Within I a → Within J b → T (nonzero b) → Within (remainder_interval I J) (rem_z a b)
remainder-within I J a b h k t =
    let s = remainder-small a b t in
    let m : nat_abs (rem_z a b) ≤ nat_abs a = rw nat_abs_rem_z (mod-le (nat_abs a) (nat_abs b)) in
    sided-within I (remainder_bound I J) a (rem_z a b) h (omega (arith, magnitude-bounds I a h, magnitude-bounds J b k)) (rem_z_above a b) (rem_z_below a b)

-- ---- `/` and `%` of release 2: rounded down, the divisor's sign, and a magnitude below the divisor's

nat_abs_less : (z : ℤ) → nat_abs (z -ℤ pos 1) ≤ suc (nat_abs z)
nat_abs_less (pos n) = by (ltb n 1)
  where
    by : (t : Bool) → nat_abs (cond t (negsuc (1 - suc n)) (pos (n - 1))) ≤ suc n
    by true = omega arith
    by false = omega arith
nat_abs_less (negsuc n) = omega arith

-- What is opposite to another number is not 0.
opposite_some : (r b : ℤ) → are_opposite r b ≡ true → 0 < nat_abs r
opposite_some (pos zero) (pos b) e = absurd (true≢false (sym e))
opposite_some (pos zero) (negsuc b) e = absurd (true≢false (sym e))
opposite_some (pos (suc n)) b e = omega arith
opposite_some (negsuc n) b e = omega arith

-- Where there is a remainder, the divisor is at least 2, so that the quotient's magnitude is below the dividend's.
quotient-below : (a b : ℕ) → 0 < a % b → 0 < b → suc (a / b) ≤ a
quotient-below a b r h =
    let whole = div-add-mod' a b in
    let least : a / b * 1 ≤ a / b * b = mul-le-mul_left (a / b) h in
    omega arith

pub floor_quot_z-small : (a b : ℤ) → T (nonzero b) → nat_abs (floor_quot_z a b) ≤ nat_abs a
floor_quot_z-small a b t = by (are_opposite (rem_z a b) b) refl
  where
    by : (o : Bool) → are_opposite (rem_z a b) b ≡ o → nat_abs (cond o (quot_z a b -ℤ pos 1) (quot_z a b)) ≤ nat_abs a
    by true e =
        let s = remainder-small a b t in
        let some : 0 < nat_abs a % nat_abs b = omega (arith, opposite_some (rem_z a b) b e, nat_abs_rem_z a b) in
        omega (arith, nat_abs_less (quot_z a b), nat_abs_quot_z a b, quotient-below (nat_abs a) (nat_abs b) some (omega arith))
    by false e = rw nat_abs_quot_z (div-le_self (nat_abs a) (nat_abs b))

-- What is added to a smaller number of the other sign leaves a number of its own sign, and smaller.
record Moved (b z : ℤ) : Type 0 where
  small : nat_abs z < nat_abs b
  above : pos 0 ≤ℤ b → pos 0 ≤ℤ z
  below : b ≤ℤ pos 0 → z ≤ℤ pos 0

moved : (r b : ℤ) → nat_abs r < nat_abs b → Moved b (cond (are_opposite r b) (r +ℤ b) r)
moved (pos r) (pos b) h = record { small = h; above = λ k. le_z_yes (le→leb 0 r zero-le); below = λ k. let z = leb→le b 0 k.le in absurd (omega arith) }
moved (pos zero) (negsuc b) h = record { small = h; above = λ k. absurd k.le; below = λ k. le_z_yes tt }
moved (pos (suc r)) (negsuc b) h =
    subst (Moved (negsuc b)) (sym (ap (λ t. cond t (negsuc (suc b - suc (suc r))) (pos (suc r - suc b))) (lt-ltb (suc r) (suc b) h)))
    (record { small = omega arith; above = λ k. absurd k.le; below = λ k. le_z_yes tt })
moved (negsuc r) (pos zero) h = absurd (omega arith)
moved (negsuc r) (pos (suc b)) h =
    subst (Moved (pos (suc b))) (sym (ap (λ t. cond t (negsuc (suc r - suc (suc b))) (pos (suc b - suc r))) (le-ltb (suc b) (suc r) (omega arith))))
    (record { small = omega arith; above = λ k. le_z_yes (le→leb 0 (suc b - suc r) zero-le); below = λ k. let z = leb→le (suc b) 0 k.le in absurd (omega arith) })
moved (negsuc r) (negsuc b) h = record { small = h; above = λ k. absurd k.le; below = λ k. le_z_yes tt }

floor_rem_z-moved : (a b : ℤ) → T (nonzero b) → Moved b (floor_rem_z a b)
floor_rem_z-moved a b t = moved (rem_z a b) b (remainder-small a b t)

pub floor_rem_z-small : (a b : ℤ) → T (nonzero b) → nat_abs (floor_rem_z a b) < nat_abs b
floor_rem_z-small a b t = (floor_rem_z-moved a b t).small

-- "the remainder having the divisor's sign"
pub floor_rem_z-above : (a b : ℤ) → T (nonzero b) → pos 0 ≤ℤ b → pos 0 ≤ℤ floor_rem_z a b
floor_rem_z-above a b t = (floor_rem_z-moved a b t).above

pub floor_rem_z-below : (a b : ℤ) → T (nonzero b) → b ≤ℤ pos 0 → floor_rem_z a b ≤ℤ pos 0
floor_rem_z-below a b t = (floor_rem_z-moved a b t).below

floor_quot_z-within : (I : Interval) (a b : ℤ) → Within I a → T (nonzero b) → Within (around (magnitude I)) (floor_quot_z a b)
floor_quot_z-within I a b h t = around-within (magnitude I) (floor_quot_z a b) (le_trans (floor_quot_z-small a b t) (magnitude-bounds I a h))

floor_rem_z-within : (J : Interval) (a b : ℤ) → Within J b → T (nonzero b) → Within (around (magnitude J - 1)) (floor_rem_z a b)
floor_rem_z-within J a b k t = around-within (magnitude J - 1) (floor_rem_z a b) (omega (arith, floor_rem_z-small a b t, magnitude-bounds J b k))

-- ---- every operator

-- With divisor 0 there is no value.
divided_within : (I : Interval) (t : Bool) (z : ℤ) → (T t → Within I z) → AnyWithin I (cond t (number z) absent)
divided_within I true z h = h tt
divided_within I false z h = tt

numbers-within : (o : Operator) (I J : Interval) {x y : ℤ} → Within I x → Within J y → AnyWithin (operator_interval o I J) (apply_numbers o x y)
numbers-within add I J h k = over_ends-within ◌+ℤ◌ (λ y. rising (+ℤ-rising-left y)) (λ x. rising (+ℤ-rising-right x)) I J h k
numbers-within subtract I J h k = over_ends-within ◌-ℤ◌ (λ y. rising (+ℤ-rising-left (neg_ℤ y))) (λ x. falling (-ℤ-falling-right x)) I J h k
numbers-within multiply I J h k = over_ends-within ◌*ℤ◌ *ℤ_monotone_left *ℤ_monotone_right I J h k
numbers-within divide I J {x} {y} h k = divided_within (around (magnitude I)) (nonzero y) (quot_z x y) (λ t. quotient-within I x y h)
numbers-within remainder I J {x} {y} h k = divided_within (remainder_interval I J) (nonzero y) (rem_z x y) (remainder-within I J x y h k)
numbers-within (compare c) I J {x} {y} h k = bit-within (compares c x y)
numbers-within and I J {x} {y} h k = bit-within (nonzero x && nonzero y)
numbers-within or I J {x} {y} h k = bit-within (nonzero x || nonzero y)
numbers-within floored_divide I J {x} {y} h k = divided_within (around (magnitude I)) (nonzero y) (floor_quot_z x y) (floor_quot_z-within I x y h)
numbers-within floored_remainder I J {x} {y} h k = divided_within (around (magnitude J - 1)) (nonzero y) (floor_rem_z x y) (floor_rem_z-within J x y k)

pub operator-within : (o : Operator) (I J : Interval) (x y : Value) → AnyWithin I x → AnyWithin J y → AnyWithin (operator_interval o I J) (apply o x y)
operator-within o I J absent y h k = tt
operator-within o I J (number x) absent h k = tt
operator-within o I J (number x) (number y) h k = numbers-within o I J h k

-- ---- no operator's interval is empty

around-ordered : (m : ℕ) → (around m).low ≤ℤ (around m).high
around-ordered zero = le_z_yes tt
around-ordered (suc m) = le_z_yes tt

remainder-ordered : (I J : Interval) → (remainder_interval I J).low ≤ℤ (remainder_interval I J).high
remainder-ordered I J = by (le_z (pos 0) I.low) (le_z I.high (pos 0)) (remainder_bound I J)
  where
    by : (s t : Bool) (k : ℕ) → cond s (pos 0) (neg_ℤ (pos k)) ≤ℤ cond t (pos 0) (pos k)
    by true true k = le_z_yes tt
    by true false k = le_z_yes (le→leb 0 k zero-le)
    by false true k = negℤ_below k
    by false false k = around-ordered k

over_ends-ordered : (f : ℤ → ℤ → ℤ) (I J : Interval) → (over_ends f I J).low ≤ℤ (over_ends f I J).high
over_ends-ordered f I J =
    ≤ℤ_trans (≤ℤ_trans (least-≤-left _ _) (least-≤-left (f I.low J.low) (f I.low J.high)))
    (≤ℤ_trans (greatest-≥-left (f I.low J.low) (f I.low J.high)) (greatest-≥-left _ _))

pub operator-ordered : (o : Operator) (I J : Interval) → (operator_interval o I J).low ≤ℤ (operator_interval o I J).high
operator-ordered add I J = over_ends-ordered ◌+ℤ◌ I J
operator-ordered subtract I J = over_ends-ordered ◌-ℤ◌ I J
operator-ordered multiply I J = over_ends-ordered ◌*ℤ◌ I J
operator-ordered divide I J = around-ordered (magnitude I)
operator-ordered remainder I J = remainder-ordered I J
operator-ordered (compare c) I J = le_z_yes tt
operator-ordered and I J = le_z_yes tt
operator-ordered or I J = le_z_yes tt
operator-ordered floored_divide I J = around-ordered (magnitude I)
operator-ordered floored_remainder I J = around-ordered (magnitude J - 1)

pub hull-ordered : (I J : Interval) → I.low ≤ℤ I.high → (hull I J).low ≤ℤ (hull I J).high
hull-ordered I J h = ≤ℤ_trans (least-≤-left I.low J.low) (≤ℤ_trans h (greatest-≥-left I.high J.high))
