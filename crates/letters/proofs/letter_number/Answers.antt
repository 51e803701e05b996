-- `letters::letter_number` meets its contract, from the first stream to the last. The loop's invariant is `Counted`: the values before i are in
-- their ranges, and the number so far counts the letters of the streams before i. Its products and sums fit 32 bits by the law for any width (Widths).
use Prim.Native.Nat.{◌+◌, ◌*◌, ◌≤◌, ◌<◌, min}
use native.Mathlib.Omega.{arith}
use native.Mathlib.Numerals.{add-one}
use mathlib.Core.Path.{◌≡◌, refl, sym, ◌∙◌, ap, ap₂, subst}
use mathlib.Core.Bool.{true}
use lib.IntN.{pos, nat_abs, ◌-ℤ◌}
use lib.ListN.{length, get_or}
use lib.Signed.{le_z}
use Rattle.meaning.specs.Letter.{size}
use Rattle.arithmetic.proofs.Machine.{held_both}
use Rattle.letters.specs.Described.{ranged}
use Rattle.letters.proofs.Counts.{below_no, below_yes, count_from}
use Rattle.letters.proofs.Numbers.{size_exact, Counted, counted_start, counted-again, next_small, value_low, value-high, digit-exact, no_letters, letters-above, other_length, no_value, some-letters, all-counted}
use Rattle.letters.proofs.Widths.{count_fits}
use Rattle.letters.proofs.letter_number.Goals as goal
use Rattle.letters.proofs.letter_number.Goals.{then-count-eq0-via-then-count-eq0, then-count-eq0-via-else-count-eq0+then-count-gt1024, then-count-eq0-via-else-count-eq0+else-count-gt1024+then-letter-n, then-value-low-via-then-value-low, then-value-low-via-else-value-low+then-high-value}

-- In a turn whose value is in its range: the two tests, and what `values` answers.
record Turn (c : goal.After-distance-digit) : Type 0 where
  below : c.loop-i.i < min (length c.args.lows.now) (length c.args.highs.now)
  long : length c.args.letter.now ≡ min (length c.args.lows.now) (length c.args.highs.now)
  positive : 0 < count_from c.args.lows.now c.args.highs.now 0
  few : count_from c.args.lows.now c.args.highs.now 0 ≤ 1024
  above_low : le_z (get_or c.args.lows.now c.loop-i.i (pos 0)) (get_or c.args.letter.now c.loop-i.i (pos 0)) ≡ true
  below-high : le_z (get_or c.args.letter.now c.loop-i.i (pos 0)) (get_or c.args.highs.now c.loop-i.i (pos 0)) ≡ true
  size_is : c.values-size.result ≡ size (ranged (get_or c.args.lows.now c.loop-i.i (pos 0)) (get_or c.args.highs.now c.loop-i.i (pos 0))).range

pub returns-then-count-eq0 : goal.returns-then-count-eq0
returns-then-count-eq0 c =
    let a = c.args in
    elim c.then-count-eq0.branch [
      | then-count-eq0-via-then-count-eq0 w ↦ no_letters a.lows.now a.highs.now a.letter.now c.letter_count-count.ensures w.if-count-eq0.true
      | then-count-eq0-via-else-count-eq0+then-count-gt1024 w ↦ letters-above a.lows.now a.highs.now a.letter.now c.letter_count-count.ensures w.if-count-gt1024.true
      | then-count-eq0-via-else-count-eq0+else-count-gt1024+then-letter-n w ↦ other_length a.lows.now a.highs.now a.letter.now c.letter_count-count.ensures c.min-n.ensures refl w.if-letter-n.true
    ]

pub loop-i-init : goal.loop-i-init
loop-i-init c = let s = c in counted_start s.args.lows.now s.args.highs.now s.args.letter.now

pub returns-then-value-low : goal.returns-then-value-low
returns-then-value-low c =
    let a = c.args in
    let i = c.loop-i.i in
    let below : i < min (length a.lows.now) (length a.highs.now) = omega (arith, c.loop-i-test.true, c.if-letter-n.false, c.min-n.ensures) in
    let low = get_or a.lows.now i (pos 0) in
    let high = get_or a.highs.now i (pos 0) in
    let value = get_or a.letter.now i (pos 0) in
    no_value a.lows.now a.highs.now a.letter.now c.letter_count-count.ensures
    (elim c.then-value-low.branch [
      | then-value-low-via-then-value-low w ↦ value_low a.lows.now a.highs.now a.letter.now i below (c.if-letter-n.false ∙ c.min-n.ensures) c.loop-i.invariant
          (below_no value low (record { sfits = c.value-1.given }) (record { sfits = c.low-1.given }) w.if-value-low.true)
      | then-value-low-via-else-value-low+then-high-value w ↦ value-high a.lows.now a.highs.now a.letter.now i below (c.if-letter-n.false ∙ c.min-n.ensures) c.loop-i.invariant
          (below_yes value low (record { sfits = c.value-1.given }) (record { sfits = c.low-1.given }) w.if-value-low.false)
          (below_no high value (record { sfits = c.high-1.given }) (record { sfits = c.value-1.given }) w.if-high-value.true)
    ])

pub overflow_mul-number : goal.overflow_mul-number
overflow_mul-number c =
    let turn : Turn c = (let s = c in
    let i = c.loop-i.i in
    let b : i < min (length s.args.lows.now) (length s.args.highs.now) = omega (arith, c.loop-i-test.true, c.min-n.ensures) in
    let p = some-letters s.args.lows.now s.args.highs.now s.args.letter.now c.letter_count-count.ensures c.if-count-eq0.false c.if-count-gt1024.false in
    record {
      below = b;
      long = c.if-letter-n.false ∙ c.min-n.ensures;
      positive = p.0;
      few = p.1;
      above_low = below_yes (get_or c.args.letter.now c.loop-i.i (pos 0)) (get_or c.args.lows.now c.loop-i.i (pos 0)) (record { sfits = c.value-1.given }) (record { sfits = c.low-1.given }) c.if-value-low.false;
      below-high = below_yes (get_or c.args.highs.now c.loop-i.i (pos 0)) (get_or c.args.letter.now c.loop-i.i (pos 0)) (record { sfits = c.high-1.given }) (record { sfits = c.value-1.given }) c.if-high-value.false;
      size_is = (size_exact s.args.lows.now s.args.highs.now p.0 p.1 i b (record { sfits = c.low-1.given }) (record { sfits = c.high-1.given }) c.values-size.ensures).0;
    }) in
    let next-below : c.loop-i.number * c.values-size.result + c.distance-digit.result < 1024 = (let s = c in
    let t = turn in
    let loop = c.loop-i in
    let low = get_or s.args.lows.now loop.i (pos 0) in
    let value = get_or s.args.letter.now loop.i (pos 0) in
    let digit = c.distance-digit.ensures ∙ held_both (λ a b. min (nat_abs (b -ℤ a)) 1024) low value (record { sfits = c.low-1.given }) (record { sfits = c.value-1.given }) in
    omega (arith, next_small s.args.lows.now s.args.highs.now s.args.letter.now loop.i t.below t.long loop.invariant t.positive t.few t.above_low t.below-high, ap (λ x. loop.number * x) t.size_is, digit-exact s.args.lows.now s.args.highs.now s.args.letter.now loop.i t.below t.long loop.invariant t.positive t.few t.above_low t.below-high digit)) in
    record { fits = count_fits 32 (omega arith) (omega (arith, next-below)) }

pub overflow_add-number : goal.overflow_add-number
overflow_add-number c =
    let turn : Turn c = (let s = c in
    let i = c.loop-i.i in
    let b : i < min (length s.args.lows.now) (length s.args.highs.now) = omega (arith, c.loop-i-test.true, c.min-n.ensures) in
    let p = some-letters s.args.lows.now s.args.highs.now s.args.letter.now c.letter_count-count.ensures c.if-count-eq0.false c.if-count-gt1024.false in
    record {
      below = b;
      long = c.if-letter-n.false ∙ c.min-n.ensures;
      positive = p.0;
      few = p.1;
      above_low = below_yes (get_or c.args.letter.now c.loop-i.i (pos 0)) (get_or c.args.lows.now c.loop-i.i (pos 0)) (record { sfits = c.value-1.given }) (record { sfits = c.low-1.given }) c.if-value-low.false;
      below-high = below_yes (get_or c.args.highs.now c.loop-i.i (pos 0)) (get_or c.args.letter.now c.loop-i.i (pos 0)) (record { sfits = c.high-1.given }) (record { sfits = c.value-1.given }) c.if-high-value.false;
      size_is = (size_exact s.args.lows.now s.args.highs.now p.0 p.1 i b (record { sfits = c.low-1.given }) (record { sfits = c.high-1.given }) c.values-size.ensures).0;
    }) in
    let next-below : c.loop-i.number * c.values-size.result + c.distance-digit.result < 1024 = (let s = c in
    let t = turn in
    let loop = c.loop-i in
    let low = get_or s.args.lows.now loop.i (pos 0) in
    let value = get_or s.args.letter.now loop.i (pos 0) in
    let digit = c.distance-digit.ensures ∙ held_both (λ a b. min (nat_abs (b -ℤ a)) 1024) low value (record { sfits = c.low-1.given }) (record { sfits = c.value-1.given }) in
    omega (arith, next_small s.args.lows.now s.args.highs.now s.args.letter.now loop.i t.below t.long loop.invariant t.positive t.few t.above_low t.below-high, ap (λ x. loop.number * x) t.size_is, digit-exact s.args.lows.now s.args.highs.now s.args.letter.now loop.i t.below t.long loop.invariant t.positive t.few t.above_low t.below-high digit)) in
    record { fits = count_fits 32 (omega arith) (omega (arith, next-below)) }

pub loop-i-preserved : goal.loop-i-preserved
loop-i-preserved c =
    let turn : Turn c = (let s = c in
    let i = c.loop-i.i in
    let b : i < min (length s.args.lows.now) (length s.args.highs.now) = omega (arith, c.loop-i-test.true, c.min-n.ensures) in
    let p = some-letters s.args.lows.now s.args.highs.now s.args.letter.now c.letter_count-count.ensures c.if-count-eq0.false c.if-count-gt1024.false in
    record {
      below = b;
      long = c.if-letter-n.false ∙ c.min-n.ensures;
      positive = p.0;
      few = p.1;
      above_low = below_yes (get_or c.args.letter.now c.loop-i.i (pos 0)) (get_or c.args.lows.now c.loop-i.i (pos 0)) (record { sfits = c.value-1.given }) (record { sfits = c.low-1.given }) c.if-value-low.false;
      below-high = below_yes (get_or c.args.highs.now c.loop-i.i (pos 0)) (get_or c.args.letter.now c.loop-i.i (pos 0)) (record { sfits = c.high-1.given }) (record { sfits = c.value-1.given }) c.if-high-value.false;
      size_is = (size_exact s.args.lows.now s.args.highs.now p.0 p.1 i b (record { sfits = c.low-1.given }) (record { sfits = c.high-1.given }) c.values-size.ensures).0;
    }) in
    let s = c in
    let t = turn in
    subst (λ k. Counted s.args.lows.now s.args.highs.now s.args.letter.now k (c.loop-i.number * c.values-size.result + c.distance-digit.result)) (sym (add-one c.loop-i.i))
    (counted-again s.args.lows.now s.args.highs.now s.args.letter.now c.loop-i.i t.below t.long c.loop-i.invariant t.positive t.few t.above_low t.below-high
    (ap₂ (λ x y. c.loop-i.number * x + y) t.size_is (digit-exact s.args.lows.now s.args.highs.now s.args.letter.now c.loop-i.i t.below t.long c.loop-i.invariant t.positive t.few t.above_low t.below-high (c.distance-digit.ensures ∙ held_both (λ a b. min (nat_abs (b -ℤ a)) 1024) (get_or s.args.lows.now c.loop-i.i (pos 0)) (get_or s.args.letter.now c.loop-i.i (pos 0)) (record { sfits = c.low-1.given }) (record { sfits = c.value-1.given })))))

pub returns : goal.returns
returns c =
    let s = c in
    let inv = c.loop-i.invariant in
    all-counted s.args.lows.now s.args.highs.now s.args.letter.now c.letter_count-count.ensures c.if-count-gt1024.false {i = c.loop-i.i} (omega (arith, inv.within, c.loop-i-test.false, c.min-n.ensures))
    (c.if-letter-n.false ∙ c.min-n.ensures) inv
