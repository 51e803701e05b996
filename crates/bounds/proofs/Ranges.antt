-- Intervals in 64 bits: what the functions on them answer, by their tests.
use Prim.Native.Nat.{ℕ, zero, suc, ◌≤◌, ◌<◌}
use native.Mathlib.Omega.{arith}
use native.Mathlib.Decide.{ℕ_discrete, dec_le}
use mathlib.Core.Path.{◌≡◌, refl, sym, ◌∙◌, ap, ap₂, subst}
use mathlib.Core.Bool.{Bool, true, false, cond, ◌&&◌}
use Rattle.std.specs.Prelude.{Some}
use lib.IntN.{ℤ, pos, negsuc, nat_abs, neg_ℤ, ◌+ℤ◌, ◌-ℤ◌, ◌*ℤ◌, +ℤ_idl}
use lib.Signed.{le_z, ◌≤ℤ◌}
use borrow.Author.Tests.{le-leb, lt-leb, leb-false, lt-ltb, le-ltb}
use mir.Syntax.{w64}
use mir.Val.{SFits}
use mir.ValLaws.{to_z-of_z}
use Rattle.meaning.specs.Value.{number}
use Rattle.std.specs.Int.{int_min, int_max}
use Rattle.meaning.specs.Arithmetic.{Interval, least, greatest, over_ends, magnitude, truth_interval, apply_numbers, operator_interval, remainder_bound, remainder_interval}
use Rattle.meaning.proofs.Arithmetic.{magnitude-bounds}
use Rattle.meaning.proofs.Order.{≤ℤ_trans, least-≤-left, least-≤-right, greatest-≥-left, greatest-≥-right}
use Rattle.sheet.specs.Refusal.{magnitude_bound}
use Rattle.nodes.specs.Bounded.{in_bound, no_value, some_value, bounded, evaluated, operator_at, applied_by_kind}
use Rattle.nodes.specs.Bounds.{no_range, range_within, interval_of, usable, combined, operator_range}
use Rattle.nodes.specs.declared.Evaluated.{Evaluated}
use Rattle.nodes.specs.declared.Range.{Range}
use Rattle.nodes.proofs.Parts.{and_true_left, and_true_right}
use Rattle.arithmetic.proofs.Machine.{held, held_both, small-fits}
use Rattle.arithmetic.proofs.Operators.{in_bound-Small}
use Rattle.bounds.specs.Span.{span_of_four, span_values}

abbrev pub between : ℤ → ℤ → Interval
between l h = record { low = l; high = h }

-- ---- an interval by its ends

module _ (l h : ℤ) where
  -- The ends that a call was handed are those meant.
  pub within_held : {x y : ℤ} → SFits w64 l → SFits w64 h → l ≡ x → h ≡ y → range_within (between (held l) (held h)) ≡ range_within (between x y)
  within_held fl fh p q = held_both (λ a b. range_within (between a b)) l h fl fh ∙ ap₂ (λ a b. range_within (between a b)) p q

-- ---- usable intervals

module _ (a : Range) where
  pub usable-parts : usable a ≡ true → (in_bound a.low ≡ true) × (in_bound a.high ≡ true)
  usable-parts e = (and_true_left (in_bound a.low) (in_bound a.high) e, and_true_right (in_bound a.low) (in_bound a.high) e)

pub in_bound-fits : (z : ℤ) → in_bound z ≡ true → SFits w64 z
in_bound-fits z e = small-fits z (in_bound-Small z e)

module _ (f : Interval → Interval → Interval) (a b : Range) where
  pub joined_yes : usable a ≡ true → usable b ≡ true → range_within (f (interval_of a) (interval_of b)) ≡ combined f (Some a) (Some b)
  joined_yes p q = sym (simp (p, q))

-- ---- least and greatest

pub min-least : (a b : ℤ) → int_min a b ≡ least a b
min-least (pos a) (pos b) = by (dec_le a b)
  where
    by : Dec (a ≤ b) → int_min (pos a) (pos b) ≡ least (pos a) (pos b)
    by (yes h) = simp (le-leb a b h, le-ltb b a h)
    by (no h) = simp (lt-leb a b (omega arith), lt-ltb b a (omega arith))
min-least (pos a) (negsuc b) = refl
min-least (negsuc a) (pos b) = refl
min-least (negsuc a) (negsuc b) = by (dec_le b a)
  where
    by : Dec (b ≤ a) → int_min (negsuc a) (negsuc b) ≡ least (negsuc a) (negsuc b)
    by (yes h) = simp (le-leb b a h, le-ltb a b h)
    by (no h) = simp (lt-leb b a (omega arith), lt-ltb a b (omega arith))

pub max-greatest : (a b : ℤ) → int_max a b ≡ greatest a b
max-greatest (pos a) (pos b) = by (dec_le a b)
  where
    by : Dec (a ≤ b) → int_max (pos a) (pos b) ≡ greatest (pos a) (pos b)
    by (yes h) = simp (le-leb a b h, le-ltb b a h)
    by (no h) = simp (lt-leb a b (omega arith), lt-ltb b a (omega arith))
max-greatest (pos a) (negsuc b) = refl
max-greatest (negsuc a) (pos b) = refl
max-greatest (negsuc a) (negsuc b) = by (dec_le b a)
  where
    by : Dec (b ≤ a) → int_max (negsuc a) (negsuc b) ≡ greatest (negsuc a) (negsuc b)
    by (yes h) = simp (le-leb b a h, le-ltb a b h)
    by (no h) = simp (lt-leb b a (omega arith), lt-ltb a b (omega arith))

-- ---- the span of four values

beyond : (I : Interval) (v : ℤ) → I.low ≤ℤ v → v ≤ℤ I.high → in_bound v ≡ false → no_range ≡ range_within I
beyond I v l h e = by (in_bound I.low) (in_bound I.high) refl refl
  where
    by : (p q : Bool) → in_bound I.low ≡ p → in_bound I.high ≡ q → no_range ≡ cond (p && q) (Some (record { low = I.low; high = I.high })) no_range
    by true true p q =
        let m = magnitude-bounds I v (record { above = l; below = h }) in
        let x = in_bound-Small I.low p in
        let y = in_bound-Small I.high q in
        let z = leb-false (nat_abs v) magnitude_bound e in
        absurd (omega arith)
    by true false p q = refl
    by false q p r = refl

module _ (p q r s : ℤ) where
  low-p : (span_of_four p q r s).low ≤ℤ p
  low-p = ≤ℤ_trans (least-≤-left (least p q) (least r s)) (least-≤-left p q)

  low-q : (span_of_four p q r s).low ≤ℤ q
  low-q = ≤ℤ_trans (least-≤-left (least p q) (least r s)) (least-≤-right p q)

  low_r : (span_of_four p q r s).low ≤ℤ r
  low_r = ≤ℤ_trans (least-≤-right (least p q) (least r s)) (least-≤-left r s)

  low_s : (span_of_four p q r s).low ≤ℤ s
  low_s = ≤ℤ_trans (least-≤-right (least p q) (least r s)) (least-≤-right r s)

  high-p : p ≤ℤ (span_of_four p q r s).high
  high-p = ≤ℤ_trans (greatest-≥-left p q) (greatest-≥-left (greatest p q) (greatest r s))

  high-q : q ≤ℤ (span_of_four p q r s).high
  high-q = ≤ℤ_trans (greatest-≥-right p q) (greatest-≥-left (greatest p q) (greatest r s))

  high_r : r ≤ℤ (span_of_four p q r s).high
  high_r = ≤ℤ_trans (greatest-≥-left r s) (greatest-≥-right (greatest p q) (greatest r s))

  high_s : s ≤ℤ (span_of_four p q r s).high
  high_s = ≤ℤ_trans (greatest-≥-right r s) (greatest-≥-right (greatest p q) (greatest r s))

  -- The span of four numbers is within the bound exactly if all four are.
  pub span-bounded : span_values (bounded p) (bounded q) (bounded r) (bounded s) ≡ range_within (span_of_four p q r s)
  span-bounded = by (in_bound p) (in_bound q) (in_bound r) (in_bound s) refl refl refl refl
    where
      by : (a b c d : Bool) → in_bound p ≡ a → in_bound q ≡ b → in_bound r ≡ c → in_bound s ≡ d → span_values (cond a (some_value p) no_value) (cond b (some_value q) no_value) (cond c (some_value r) no_value) (cond d (some_value s) no_value) ≡ range_within (span_of_four p q r s)
      by true true true true ea eb ec ed = refl
      by true true true false ea eb ec ed = beyond (span_of_four p q r s) s low_s high_s ed
      by true true false d ea eb ec ed = beyond (span_of_four p q r s) r low_r high_r ec
      by true false c d ea eb ec ed = beyond (span_of_four p q r s) q low-q high-q eb
      by false b c d ea eb ec ed = beyond (span_of_four p q r s) p low-p high-p ea

-- ---- "for `+ - *` the least and greatest over the ends"

-- What holds of n, and of every later number, holds from n on.
from : (P : ℕ → Type 0) (n : ℕ) → P n → ((k : ℕ) → suc n ≤ k → P k) → (k : ℕ) → n ≤ k → P k
from P n p f k h = by (ℕ_discrete k n)
  where
    by : Dec (k ≡ n) → P k
    by (yes e) = subst P (sym e) p
    by (no e) = f k (omega arith)

span_values_cong : {p p' q q' r r' s s' : Evaluated} → p ≡ p' → q ≡ q' → r ≡ r' → s ≡ s' → span_values p q r s ≡ span_values p' q' r' s'
span_values_cong a b c d = λ i. span_values (a i) (b i) (c i) (d i)

module _ (a b : Range) (ua : usable a ≡ true) (ub : usable b ≡ true) where
  -- The operator of kind k gives the number that f gives.
  module _ (k : ℕ) (l : 7 ≤ k) (h : k < 22) (f : ℤ → ℤ → ℤ) (gives : (x y : ℤ) → apply_numbers (operator_at k) x y ≡ number (f x y)) where
    end : (x y : ℤ) → in_bound x ≡ true → in_bound y ≡ true → {p : Evaluated} → p ≡ applied_by_kind k (held x) (held y) → p ≡ bounded (f x y)
    end x y ix iy e =
        e ∙ held_both (applied_by_kind k) x y (in_bound-fits x ix) (in_bound-fits y iy)
        ∙ simp (le-leb 7 k l, lt-ltb k 22 h, ix, iy) (ap evaluated (gives x y))

    ends-span : {p q r s : Evaluated} → p ≡ applied_by_kind k (held a.low) (held b.low) → q ≡ applied_by_kind k (held a.low) (held b.high)
        → r ≡ applied_by_kind k (held a.high) (held b.low) → s ≡ applied_by_kind k (held a.high) (held b.high) → span_values p q r s ≡ range_within (over_ends f (interval_of a) (interval_of b))
    ends-span ep eq er es =
        let x = usable-parts a ua in
        let y = usable-parts b ub in
        span_values_cong (end a.low b.low x.0 y.0 ep) (end a.low b.high x.0 y.1 eq) (end a.high b.low x.1 y.0 er) (end a.high b.high x.1 y.1 es)
        ∙ span-bounded (f a.low b.low) (f a.low b.high) (f a.high b.low) (f a.high b.high)

  -- The four results span the interval of what the operator gives.
  abbrev Spans : ℕ → Type 0
  Spans k =
      k < 10 → (p q r s : Evaluated) → p ≡ applied_by_kind k (held a.low) (held b.low) → q ≡ applied_by_kind k (held a.low) (held b.high)
      → r ≡ applied_by_kind k (held a.high) (held b.low) → s ≡ applied_by_kind k (held a.high) (held b.high)
      → span_values p q r s ≡ range_within (operator_interval (operator_at k) (interval_of a) (interval_of b))

  pub over-ends : (k : ℕ) → 7 ≤ k → Spans k
  over-ends =
      from Spans 7 (λ h p q r s ep eq er es. ends-span 7 (omega arith) (omega arith) ◌+ℤ◌ (λ x y. refl) ep eq er es)
      (from Spans 8 (λ h p q r s ep eq er es. ends-span 8 (omega arith) (omega arith) ◌-ℤ◌ (λ x y. refl) ep eq er es)
      (from Spans 9 (λ h p q r s ep eq er es. ends-span 9 (omega arith) (omega arith) ◌*ℤ◌ (λ x y. refl) ep eq er es) (λ k l h. absurd (omega arith))))

-- ---- "for `/` [..] from −M to M"

-- The negative of a number within the bound fits, and is exact.
module _ (z : ℤ) (b : in_bound z ≡ true) where
  negℤ_fits : SFits w64 (neg_ℤ z)
  negℤ_fits = by z (in_bound-Small z b)
    where
      by : (z : ℤ) → nat_abs z ≤ 1000000000 → SFits w64 (neg_ℤ z)
      by (pos zero) h = record { sfits = omega arith }
      by (pos (suc n)) h = record { sfits = omega arith }
      by (negsuc n) h = record { sfits = omega arith }

  minus_plain : pos 0 -ℤ held z ≡ neg_ℤ z
  minus_plain = ap (λ x. pos 0 -ℤ x) (to_z-of_z w64 z (in_bound-fits z b)) ∙ +ℤ_idl (neg_ℤ z)

  pub minus-exact : held (pos 0 -ℤ held z) ≡ neg_ℤ z
  minus-exact = ap held minus_plain ∙ to_z-of_z w64 (neg_ℤ z) negℤ_fits

module _ (a : Range) (u : usable a ≡ true) where
  pub most-in_bound : {m : ℤ} → m ≡ pos (magnitude (interval_of a)) → in_bound m ≡ true
  most-in_bound {m} e =
      let p = usable-parts a u in
      let x = in_bound-Small a.low p.0 in
      let y = in_bound-Small a.high p.1 in
      ap in_bound e ∙ le-leb (magnitude (interval_of a)) magnitude_bound (omega arith)

-- ---- the bound of a remainder, from the magnitudes that were handed on

module _ (a b : Range) (u : usable a ≡ true) (v : usable b ≡ true) where
  abbrev k : ℕ
  k = remainder_bound (interval_of a) (interval_of b)

  pub bound-in_bound : {r : ℤ} → r ≡ pos k → in_bound r ≡ true
  bound-in_bound {r} e =
      let s = in_bound-Small (pos (magnitude (interval_of a))) (most-in_bound a u refl) in
      ap in_bound e ∙ le-leb k magnitude_bound (omega arith)

  -- The ends, as each branch of their tests leaves them.
  module _ {r : ℤ} (e : r ≡ pos k) {t : Bool} where
    pub low-zero : t ≡ le_z (pos 0) (held a.low) → t ≡ true → pos 0 ≡ (remainder_interval (interval_of a) (interval_of b)).low
    low-zero q h = sym (ap (λ s. cond s (pos 0) (neg_ℤ (pos k))) (ap (le_z (pos 0)) (sym (to_z-of_z w64 a.low (in_bound-fits a.low (usable-parts a u).0))) ∙ sym q ∙ h))

    pub low-bound : t ≡ le_z (pos 0) (held a.low) → t ≡ false → held (pos 0 -ℤ held r) ≡ (remainder_interval (interval_of a) (interval_of b)).low
    low-bound q h =
        minus-exact r (bound-in_bound e) ∙ ap neg_ℤ e
        ∙ sym (ap (λ s. cond s (pos 0) (neg_ℤ (pos k))) (ap (le_z (pos 0)) (sym (to_z-of_z w64 a.low (in_bound-fits a.low (usable-parts a u).0))) ∙ sym q ∙ h))

    pub high_zero : t ≡ le_z (held a.high) (pos 0) → t ≡ true → pos 0 ≡ (remainder_interval (interval_of a) (interval_of b)).high
    high_zero q h = sym (ap (λ s. cond s (pos 0) (pos k)) (ap (λ z. le_z z (pos 0)) (sym (to_z-of_z w64 a.high (in_bound-fits a.high (usable-parts a u).1))) ∙ sym q ∙ h))

    pub high-bound : t ≡ le_z (held a.high) (pos 0) → t ≡ false → held r ≡ (remainder_interval (interval_of a) (interval_of b)).high
    high-bound q h =
        to_z-of_z w64 r (in_bound-fits r (bound-in_bound e)) ∙ e
        ∙ sym (ap (λ s. cond s (pos 0) (pos k)) (ap (λ z. le_z z (pos 0)) (sym (to_z-of_z w64 a.high (in_bound-fits a.high (usable-parts a u).1))) ∙ sym q ∙ h))

-- ---- the operators by their kinds

truth-interval : (I J : Interval) (k : ℕ) → 12 ≤ k → k ≤ 19 → truth_interval ≡ operator_interval (operator_at k) I J
truth-interval I J =
    let P : ℕ → Type 0 = λ k. k ≤ 19 → truth_interval ≡ operator_interval (operator_at k) I J in
    from P 12 (λ h. refl) (from P 13 (λ h. refl) (from P 14 (λ h. refl) (from P 15 (λ h. refl) (from P 16 (λ h. refl) (from P 17 (λ h. refl) (from P 18 (λ h. refl)
    (from P 19 (λ h. refl) (λ k l h. absurd (omega arith)))))))))

-- The operator of kind k gives an interval, where both ranges are usable.
pub kind-within : (k : ℕ) (a b : Range) → 7 ≤ k → k ≤ 21 → usable a ≡ true → usable b ≡ true → range_within (operator_interval (operator_at k) (interval_of a) (interval_of b)) ≡ operator_range k (Some a) (Some b)
kind-within k a b l h p q = joined_yes (operator_interval (operator_at k)) a b p q ∙ sym (simp (le-leb 7 k l, lt-ltb k 22 (omega arith)))

pub kind-truth : (k : ℕ) (a b : Range) → usable a ≡ true → usable b ≡ true → 12 ≤ k → k ≤ 19 → range_within truth_interval ≡ operator_range k (Some a) (Some b)
kind-truth k a b p q s t = ap range_within (truth-interval (interval_of a) (interval_of b) k s t) ∙ kind-within k a b (omega arith) (omega arith) p q
