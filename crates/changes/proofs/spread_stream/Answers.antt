-- `changes::spread_stream` meets its contract: the values from `value` on are written (`SpreadsStream`).
use mathlib.Core.Path.{◌≡◌, subst}
use Prim.Native.Nat.{ℕ, suc, ◌+◌, ◌*◌, ◌≤◌, ◌-◌}
use native.Mathlib.Omega.{arith}
use lib.ListN.{length}
use Rattle.changes.specs.Passes.{SpreadsPart, SpreadsStream}
use Rattle.changes.proofs.Axes.{change-most}
use Rattle.changes.proofs.Spread.{stream-start, stream-next, part_apart, part-inside}
use Rattle.changes.proofs.spread_stream.Goals as goal

pub loop-value-init : goal.loop-value-init
loop-value-init c = let a = c.args in (omega arith, stream-start a.is_set a.size a.stride a.own a.row.now)

pub overflow_mul-value : goal.overflow_mul-value
overflow_mul-value c =
    let part : (c.loop-value.value - 1) * c.args.stride + c.args.stride ≤ length c.loop-value.row = (let start = c in
    part-inside start.args.size start.args.stride c.loop-value.value c.loop-value-test.true c.loop-value.invariant.0 (omega (arith, start.requires.0, c.loop-value.invariant.1.same_length))) in
    omega (arith, part)

pub change-requires : goal.change-requires
change-requires c = tt

pub spread_part-requires : goal.spread_part-requires
spread_part-requires c =
    let part : (c.loop-value.value - 1) * c.args.stride + c.args.stride ≤ length c.loop-value.row = (let start = c in
    part-inside start.args.size start.args.stride c.loop-value.value c.loop-value-test.true c.loop-value.invariant.0 (omega (arith, start.requires.0, c.loop-value.invariant.1.same_length))) in
    let start = c in
    let a = start.args in
    let turn = c.loop-value in (
      part_apart a.stride (turn.value - 1),
      part,
      omega (arith, c.change.ensures, change-most a.is_set a.own (turn.value - 1)),
      λ o h. omega (arith, turn.invariant.1.front c.loop-value-test.true o h, start.requires.1 o h),
    )

pub loop-value-preserved : goal.loop-value-preserved
loop-value-preserved c =
    let a = c.args in
    let turn = c.loop-value in
    let one : turn.value ≡ suc (turn.value - 1) = omega arith in (
      omega arith,
      stream-next a.is_set a.size a.stride a.own (subst (λ (n : ℕ). SpreadsStream a.is_set a.size a.stride a.own n a.row.now turn.row) one turn.invariant.1)
          (subst (λ (m : ℕ). SpreadsPart ((turn.value - 1) * a.stride) m a.stride turn.row c.spread_part.new.row) c.change.ensures c.spread_part.ensures),
    )

pub returns : goal.returns
returns c =
    let a = c.args in
    let end : c.loop-value.value ≡ 0 = omega arith in
    subst (λ (n : ℕ). SpreadsStream a.is_set a.size a.stride a.own n a.row.now c.loop-value.row) end c.loop-value.invariant.1
