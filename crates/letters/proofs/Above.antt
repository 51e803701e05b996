-- How far a number lies above a lower one, in 64 bits: where the distance is below 1,024 the difference fits, and where it is not, a sum that fits
-- tells so.
use Prim.Native.Nat.{ℕ, suc, ◌+◌, ◌-◌, ◌≤◌, ◌<◌, min}
use native.Mathlib.Omega.{arith}
use mathlib.Core.Path.{◌≡◌, refl, sym, ◌∙◌, ap, subst}
use mathlib.Core.Bool.{Bool, true, false, cond}
use lib.Dec.{T, ltb, lt→ltb, leb→le, le→leb}
use lib.IntN.{ℤ, pos, negsuc, nat_abs, ◌+ℤ◌, ◌-ℤ◌, +ℤ_comm, +ℤ-neg_ℤ_cancel}
use lib.Signed.{mag, lt_z, le_z, non_neg, ◌≤ℤ◌, ◌<ℤ◌, le_z_yes, lt_z_yes}
use borrow.Author.Tests.{ltb-true, ltb-false, leb-false, lt-leb}
use mir.Syntax.{w32, w64}
use mir.Val.{SFits, Fits}
use mir.ValLaws.{to_z-of_z}
use Rattle.meaning.proofs.Order.{≤-+ℤ_pos, distance_+ℤ_pos, +ℤ_pos_distance, distance_≤, distance_<}
use Rattle.arithmetic.proofs.Machine.{held, held_both}

-- ---- tests of order

pub le_z_true : {a b : ℤ} → le_z a b ≡ true → a ≤ℤ b
le_z_true e = le_z_yes (subst T (sym e) tt)

pub le_z_false : (a b : ℤ) → le_z a b ≡ false → b <ℤ a
le_z_false (pos a) (pos b) e = lt_z_yes (lt→ltb b a (leb-false a b e))
le_z_false (pos a) (negsuc b) e = lt_z_yes tt
le_z_false (negsuc a) (pos b) e = let y : ◌≡◌ {A = ℕ} 0 1 = cc in absurd (omega arith)
le_z_false (negsuc a) (negsuc b) e = lt_z_yes (lt→ltb a b (leb-false b a e))

pub lt_z_false : (a b : ℤ) → lt_z a b ≡ false → b ≤ℤ a
lt_z_false (pos a) (pos b) e = le_z_yes (le→leb b a (ltb-false a b e))
lt_z_false (pos a) (negsuc b) e = le_z_yes tt
lt_z_false (negsuc a) (pos b) e = let y : ◌≡◌ {A = ℕ} 0 1 = cc in absurd (omega arith)
lt_z_false (negsuc a) (negsuc b) e = le_z_yes (le→leb a b (ltb-false b a e))

mag_nat_abs : (z : ℤ) → mag z ≤ nat_abs z
mag_nat_abs (pos n) = omega arith
mag_nat_abs (negsuc n) = omega arith

-- A number between two that fit fits.
pub between-fits : (a b c : ℤ) → SFits w64 a → SFits w64 c → a ≤ℤ b → b ≤ℤ c → SFits w64 b
between-fits a (pos b) (pos c) fa fc h k = let l = leb→le b c k.le in record { sfits = omega arith }
between-fits a (pos b) (negsuc c) fa fc h k = absurd k.le
between-fits (pos a) (negsuc b) c fa fc h k = absurd h.le
between-fits (negsuc a) (negsuc b) c fa fc h k = let l = leb→le b a h.le in record { sfits = omega arith }

-- ---- the distance

-- The greatest number to which 1,024 can be added in 64 bits, plus 1.
abbrev roomy : ℤ
roomy = pos 9223372036854774784

sum_room : (z : ℤ) → SFits w64 z → lt_z z roomy ≡ true → SFits w64 (z +ℤ pos 1024)
sum_room (pos n) f e = let l = ltb-true n 9223372036854774784 e in record { sfits = omega arith }
sum_room (negsuc n) f e = by (ltb 1024 (suc n))
  where
    by : (t : Bool) → SFits w64 (cond t (negsuc (suc n - suc 1024)) (pos (1024 - suc n)))
    by true = record { sfits = omega arith }
    by false = record { sfits = omega arith }

-- A number so great that 1,024 cannot be added lies less than 1,024 below every number that fits.
no_room : (low high : ℤ) → SFits w64 high → lt_z low roomy ≡ false → le_z (low +ℤ pos 1024) high ≡ false
no_room (pos a) (pos b) f e = let l = ltb-false a 9223372036854774784 e in lt-leb (a + 1024) b (omega arith)
no_room (pos a) (negsuc b) f e = refl
no_room (negsuc a) high f e = let y : ◌≡◌ {A = ℕ} 0 1 = cc in absurd (omega arith)

-- The difference of a number and a lower one is the distance.
pub difference_distance : {low high : ℤ} → low ≤ℤ high → high -ℤ low ≡ pos (nat_abs (high -ℤ low))
difference_distance {low} {high} h =
    let d = nat_abs (high -ℤ low) in
    ap (λ z. z -ℤ low) (sym (+ℤ_pos_distance h)) ∙ ap (λ z. z -ℤ low) (+ℤ_comm low (pos d)) ∙ +ℤ-neg_ℤ_cancel (pos d) low

distance_far : (low high : ℤ) → le_z (low +ℤ pos 1024) high ≡ true → 1024 ≤ nat_abs (high -ℤ low)
distance_far low high e = let d = distance_≤ (≤-+ℤ_pos low 1024) (le_z_true e) in omega (arith, distance_+ℤ_pos low 1024)

distance_near : (low high : ℤ) → low ≤ℤ high → le_z (low +ℤ pos 1024) high ≡ false → nat_abs (high -ℤ low) < 1024
distance_near low high h e = let d = distance_< h (le_z_false (low +ℤ pos 1024) high e) in omega (arith, distance_+ℤ_pos low 1024)

-- ---- the same of numbers that were held

module _ (low high : ℤ) (fl : SFits w64 low) (fh : SFits w64 high) where
  plain_low : {t : Bool} → lt_z (held low) roomy ≡ t → lt_z low roomy ≡ t
  plain_low e = ap (λ z. lt_z z roomy) (sym (to_z-of_z w64 low fl)) ∙ e

  pub sum_fits : lt_z (held low) roomy ≡ true → SFits w64 (held low +ℤ pos 1024)
  sum_fits e = subst (λ z. SFits w64 (z +ℤ pos 1024)) (sym (to_z-of_z w64 low fl)) (sum_room low fl (plain_low e))

  plain_test : {t : Bool} → lt_z (held low) roomy ≡ true → le_z (held (held low +ℤ pos 1024)) (held high) ≡ t → le_z (low +ℤ pos 1024) high ≡ t
  plain_test r e =
      sym (ap (λ z. le_z z (held high)) (to_z-of_z w64 (held low +ℤ pos 1024) (sum_fits r)) ∙ held_both (λ a b. le_z (a +ℤ pos 1024) b) low high fl fh) ∙ e

  pub far : lt_z (held low) roomy ≡ true → le_z (held (held low +ℤ pos 1024)) (held high) ≡ true → 1024 ≡ min (nat_abs (high -ℤ low)) 1024
  far r e = omega (arith, distance_far low high (plain_test r e))

  module _ (h : low ≤ℤ high) where
    pub near-left : lt_z (held low) roomy ≡ true → le_z (held (held low +ℤ pos 1024)) (held high) ≡ false → nat_abs (high -ℤ low) < 1024
    near-left r e = distance_near low high h (plain_test r e)

    pub near-right : lt_z (held low) roomy ≡ false → nat_abs (high -ℤ low) < 1024
    near-right r = distance_near low high h (no_room low high fh (plain_low r))

    module _ (n : nat_abs (high -ℤ low) < 1024) where
      exact : held high -ℤ held low ≡ high -ℤ low
      exact = held_both (λ a b. b -ℤ a) low high fl fh

      near_fits : SFits w64 (high -ℤ low)
      near_fits = record { sfits = omega (arith, mag_nat_abs (high -ℤ low)) }

      pub difference_fits : SFits w64 (held high -ℤ held low)
      difference_fits = subst (SFits w64) (sym exact) near_fits

      difference_held : held (held high -ℤ held low) ≡ pos (nat_abs (high -ℤ low))
      difference_held = ap held exact ∙ to_z-of_z w64 (high -ℤ low) near_fits ∙ difference_distance h

      pub difference_cast : T (non_neg (held (held high -ℤ held low))) × Fits w32 (nat_abs (held (held high -ℤ held low)))
      difference_cast = subst (λ z. T (non_neg z) × Fits w32 (nat_abs z)) (sym difference_held) (tt, record { fits = omega arith })

      pub difference_cut : nat_abs (held (held high -ℤ held low)) ≡ min (nat_abs (high -ℤ low)) 1024
      difference_cut = ap nat_abs difference_held ∙ omega arith
