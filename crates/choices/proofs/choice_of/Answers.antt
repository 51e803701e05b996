-- `choices::choice_of` meets its contract. The loop's invariant: the digits of the streams from i on are taken.
use Prim.Native.Nat.{suc, ◌-◌, ◌*◌, ◌%◌, ◌≤◌, ◌<◌}
use native.Mathlib.Omega.{arith}
use mathlib.Core.Path.{◌≡◌, subst}
use Rattle.meaning.specs.Letter.{size}
use Rattle.streams.specs.Description.{stream_in}
use Rattle.choices.proofs.Digits.{DigitsTaken, size_exact, digits-small, digits-none, digits-read, digits-set, digit-small, count_small, digits-all}
use Rattle.choices.proofs.choice_of.Goals as goal
use Rattle.choices.proofs.choice_of.Goals.{then-is_read, else-is_read}

pub loop-i-init : goal.loop-i-init
loop-i-init c = digits-none c.args.streams c.requires c.args.letter

pub values_in-size-requires : goal.values_in-size-requires
values_in-size-requires c =
    let stream-there : (c.loop-i.i - 1 < c.args.streams.count) × (c.loop-i.i - 1 < 8) = (omega (arith, c.loop-i.invariant.inside, c.loop-i-test.true), omega (arith, c.loop-i.invariant.inside, c.loop-i-test.true, c.requires.few_streams)) in
    (stream-there).1

pub bounds-streams-i : goal.bounds-streams-i
bounds-streams-i c =
    let stream-there : (c.loop-i.i - 1 < c.args.streams.count) × (c.loop-i.i - 1 < 8) = (omega (arith, c.loop-i.invariant.inside, c.loop-i-test.true), omega (arith, c.loop-i.invariant.inside, c.loop-i-test.true, c.requires.few_streams)) in
    (stream-there).1

pub nonzero_rem-number : goal.nonzero_rem-number
nonzero_rem-number c =
    let stream-there : (c.loop-i.i - 1 < c.args.streams.count) × (c.loop-i.i - 1 < 8) = (omega (arith, c.loop-i.invariant.inside, c.loop-i-test.true), omega (arith, c.loop-i.invariant.inside, c.loop-i-test.true, c.requires.few_streams)) in
    let exact : (c.values_in-size.result ≡ size (stream_in c.args.streams (c.loop-i.i - 1)).range) × (0 < c.values_in-size.result) = size_exact c.args.streams c.requires (c.loop-i.i - 1) (stream-there).0 c.values_in-size.ensures in
    (exact).1

pub overflow_mul-number : goal.overflow_mul-number
overflow_mul-number c =
    let stream-there : (c.loop-i.i - 1 < c.args.streams.count) × (c.loop-i.i - 1 < 8) = (omega (arith, c.loop-i.invariant.inside, c.loop-i-test.true), omega (arith, c.loop-i.invariant.inside, c.loop-i-test.true, c.requires.few_streams)) in
    let taken : DigitsTaken c.args.streams c.args.letter (suc (c.loop-i.i - 1)) c.loop-i.rest c.loop-i.number c.loop-i.count = (let e : c.loop-i.i ≡ suc (c.loop-i.i - 1) = omega (arith, c.loop-i-test.true) in
    subst (λ i. DigitsTaken c.args.streams c.args.letter i c.loop-i.rest c.loop-i.number c.loop-i.count) e c.loop-i.invariant) in
    let exact : (c.values_in-size.result ≡ size (stream_in c.args.streams (c.loop-i.i - 1)).range) × (0 < c.values_in-size.result) = size_exact c.args.streams c.requires (c.loop-i.i - 1) (stream-there).0 c.values_in-size.ensures in
    let small : (c.loop-i.rest % c.values_in-size.result * c.loop-i.count ≤ 1048576) × (c.loop-i.count * c.values_in-size.result ≤ 1048576) = (let start = c in
    let step = c in
    let size = c.values_in-size.result in (
      digit-small start.args.streams start.requires start.args.letter (step.loop-i.i - 1) step.loop-i.rest step.loop-i.number step.loop-i.count size (stream-there).0 (taken) (exact).0,
      count_small start.args.streams start.requires start.args.letter (step.loop-i.i - 1) step.loop-i.rest step.loop-i.number step.loop-i.count size (stream-there).0 (taken) (exact).0,
    )) in
    omega (arith, (small).0)

pub overflow_add-number : goal.overflow_add-number
overflow_add-number c =
    let stream-there : (c.loop-i.i - 1 < c.args.streams.count) × (c.loop-i.i - 1 < 8) = (omega (arith, c.loop-i.invariant.inside, c.loop-i-test.true), omega (arith, c.loop-i.invariant.inside, c.loop-i-test.true, c.requires.few_streams)) in
    let taken : DigitsTaken c.args.streams c.args.letter (suc (c.loop-i.i - 1)) c.loop-i.rest c.loop-i.number c.loop-i.count = (let e : c.loop-i.i ≡ suc (c.loop-i.i - 1) = omega (arith, c.loop-i-test.true) in
    subst (λ i. DigitsTaken c.args.streams c.args.letter i c.loop-i.rest c.loop-i.number c.loop-i.count) e c.loop-i.invariant) in
    let exact : (c.values_in-size.result ≡ size (stream_in c.args.streams (c.loop-i.i - 1)).range) × (0 < c.values_in-size.result) = size_exact c.args.streams c.requires (c.loop-i.i - 1) (stream-there).0 c.values_in-size.ensures in
    let small : (c.loop-i.rest % c.values_in-size.result * c.loop-i.count ≤ 1048576) × (c.loop-i.count * c.values_in-size.result ≤ 1048576) = (let start = c in
    let step = c in
    let size = c.values_in-size.result in (
      digit-small start.args.streams start.requires start.args.letter (step.loop-i.i - 1) step.loop-i.rest step.loop-i.number step.loop-i.count size (stream-there).0 (taken) (exact).0,
      count_small start.args.streams start.requires start.args.letter (step.loop-i.i - 1) step.loop-i.rest step.loop-i.number step.loop-i.count size (stream-there).0 (taken) (exact).0,
    )) in
    omega (arith, (small).0, digits-small c.args.streams c.requires c.loop-i.invariant)

pub overflow_mul-count : goal.overflow_mul-count
overflow_mul-count c =
    let stream-there : (c.loop-i.i - 1 < c.args.streams.count) × (c.loop-i.i - 1 < 8) = (omega (arith, c.loop-i.invariant.inside, c.loop-i-test.true), omega (arith, c.loop-i.invariant.inside, c.loop-i-test.true, c.requires.few_streams)) in
    let taken : DigitsTaken c.args.streams c.args.letter (suc (c.loop-i.i - 1)) c.loop-i.rest c.loop-i.number c.loop-i.count = (let e : c.loop-i.i ≡ suc (c.loop-i.i - 1) = omega (arith, c.loop-i-test.true) in
    subst (λ i. DigitsTaken c.args.streams c.args.letter i c.loop-i.rest c.loop-i.number c.loop-i.count) e c.loop-i.invariant) in
    let exact : (c.values_in-size.result ≡ size (stream_in c.args.streams (c.loop-i.i - 1)).range) × (0 < c.values_in-size.result) = size_exact c.args.streams c.requires (c.loop-i.i - 1) (stream-there).0 c.values_in-size.ensures in
    let small : (c.loop-i.rest % c.values_in-size.result * c.loop-i.count ≤ 1048576) × (c.loop-i.count * c.values_in-size.result ≤ 1048576) = (let start = c in
    let step = c in
    let size = c.values_in-size.result in (
      digit-small start.args.streams start.requires start.args.letter (step.loop-i.i - 1) step.loop-i.rest step.loop-i.number step.loop-i.count size (stream-there).0 (taken) (exact).0,
      count_small start.args.streams start.requires start.args.letter (step.loop-i.i - 1) step.loop-i.rest step.loop-i.number step.loop-i.count size (stream-there).0 (taken) (exact).0,
    )) in
    omega (arith, (small).1)

pub nonzero_div-rest : goal.nonzero_div-rest
nonzero_div-rest c =
    let stream-there : (c.loop-i.i - 1 < c.args.streams.count) × (c.loop-i.i - 1 < 8) = (omega (arith, c.loop-i.invariant.inside, c.loop-i-test.true), omega (arith, c.loop-i.invariant.inside, c.loop-i-test.true, c.requires.few_streams)) in
    let exact : (c.values_in-size.result ≡ size (stream_in c.args.streams (c.loop-i.i - 1)).range) × (0 < c.values_in-size.result) = size_exact c.args.streams c.requires (c.loop-i.i - 1) (stream-there).0 c.values_in-size.ensures in
    (exact).1

pub loop-i-preserved : goal.loop-i-preserved
loop-i-preserved c =
    let stream-there : (c.loop-i.i - 1 < c.args.streams.count) × (c.loop-i.i - 1 < 8) = (omega (arith, c.loop-i.invariant.inside, c.loop-i-test.true), omega (arith, c.loop-i.invariant.inside, c.loop-i-test.true, c.requires.few_streams)) in
    let taken : DigitsTaken c.args.streams c.args.letter (suc (c.loop-i.i - 1)) c.loop-i.rest c.loop-i.number c.loop-i.count = (let e : c.loop-i.i ≡ suc (c.loop-i.i - 1) = omega (arith, c.loop-i-test.true) in
    subst (λ i. DigitsTaken c.args.streams c.args.letter i c.loop-i.rest c.loop-i.number c.loop-i.count) e c.loop-i.invariant) in
    let exact : (c.values_in-size.result ≡ size (stream_in c.args.streams (c.loop-i.i - 1)).range) × (0 < c.values_in-size.result) = size_exact c.args.streams c.requires (c.loop-i.i - 1) (stream-there).0 c.values_in-size.ensures in
    let start = c in
    let step = c in
    let size = c.values_in-size.result in
    let there = (stream-there).0 in
    let behind = taken in
    let same = (exact).0 in
    elim c.if-is_read.branch [
      | then-is_read w ↦ rw w.number-is (rw w.count-is (digits-read start.args.streams start.requires start.args.letter (step.loop-i.i - 1) step.loop-i.rest step.loop-i.number step.loop-i.count size there behind same w.if-is_read.true))
      | else-is_read w ↦ rw w.number-is (rw w.count-is (digits-set start.args.streams start.requires start.args.letter (step.loop-i.i - 1) step.loop-i.rest step.loop-i.number step.loop-i.count size there behind same w.if-is_read.false))
    ]

pub returns : goal.returns
returns c = digits-all c.args.streams c.requires (omega (arith, c.loop-i-test.false)) c.loop-i.invariant
