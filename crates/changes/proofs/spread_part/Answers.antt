-- `changes::spread_part` meets its contract: the numbers before `offset` are written (`SpreadsPart`).
use mathlib.Core.Path.{◌≡◌, subst}
use Prim.Native.Nat.{ℕ, ◌+◌, ◌<◌}
use native.Mathlib.Omega.{arith}
use lib.ListN.{length}
use Rattle.basics.specs.Lists.{at}
use Rattle.changes.specs.Passes.{SpreadsPart}
use Rattle.changes.proofs.Spread.{part-start, part-source, part-next}
use Rattle.changes.proofs.spread_part.Goals as goal

pub loop-offset-init : goal.loop-offset-init
loop-offset-init c = (omega arith, part-start c.args.from c.args.more c.args.row.now)

pub offset_bounds-row-offset : goal.offset_bounds-row-offset
offset_bounds-row-offset c =
    let place : c.args.from + c.loop-offset.offset < length c.loop-offset.row = omega (arith, c.requires.1, c.loop-offset.invariant.1.same_length) in
    omega (arith, place)

pub bounds-row-offset : goal.bounds-row-offset
bounds-row-offset c =
    let place : c.args.from + c.loop-offset.offset < length c.loop-offset.row = omega (arith, c.requires.1, c.loop-offset.invariant.1.same_length) in
    omega (arith, place)

pub overflow_add-row : goal.overflow_add-row
overflow_add-row c =
    let source : at c.loop-offset.row c.loop-offset.offset < 65535 = (let start = c in
    let turn = c.loop-offset in
    omega (arith, part-source start.args.from start.args.more start.requires.0 c.loop-offset-test.true turn.invariant.1, start.requires.3 turn.offset c.loop-offset-test.true)) in
    omega (arith, source, c.requires.2)

pub overflow_add-row-in-loop-offset : goal.overflow_add-row-in-loop-offset
overflow_add-row-in-loop-offset c =
    let place : c.args.from + c.loop-offset.offset < length c.loop-offset.row = omega (arith, c.requires.1, c.loop-offset.invariant.1.same_length) in
    omega (arith, place)

pub offset_bounds-row-from : goal.offset_bounds-row-from
offset_bounds-row-from c =
    let place : c.args.from + c.loop-offset.offset < length c.loop-offset.row = omega (arith, c.requires.1, c.loop-offset.invariant.1.same_length) in
    omega (arith, place)

pub bounds-row-from : goal.bounds-row-from
bounds-row-from c =
    let place : c.args.from + c.loop-offset.offset < length c.loop-offset.row = omega (arith, c.requires.1, c.loop-offset.invariant.1.same_length) in
    place

pub loop-offset-preserved : goal.loop-offset-preserved
loop-offset-preserved c =
    let place : c.args.from + c.loop-offset.offset < length c.loop-offset.row = omega (arith, c.requires.1, c.loop-offset.invariant.1.same_length) in
    let start = c in
    (omega arith, part-next start.args.from start.args.more start.requires.0 c.loop-offset-test.true (place) c.loop-offset.invariant.1)

pub returns : goal.returns
returns c =
    let a = c.args in
    let end : c.loop-offset.offset ≡ a.stride = omega arith in
    subst (λ (n : ℕ). SpreadsPart a.from a.more n a.row.now c.loop-offset.row) end c.loop-offset.invariant.1
