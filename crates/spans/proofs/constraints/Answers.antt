-- `spans::constraints` meets its contract. The measure is the number of bytes left.
use native.Mathlib.Omega.{arith}
use Rattle.spans.proofs.Loop.{loop_starts, loop_ends, loop_further, loop_goes_on}
use Rattle.spans.proofs.constraints.Goals as goal

pub loop-from-init : goal.loop-from-init
loop-from-init c = let s = c in loop_starts s.args.text.now s.args.from s.args.spans.now s.requires

pub returns-then-start-end : goal.returns-then-start-end
returns-then-start-end c = loop_ends c.loop-from.invariant c.next_token-start.ensures c.if-start-end.true

pub constraint-line-requires : goal.constraint-line-requires
constraint-line-requires c = c.loop-from.invariant.place

pub loop-from-smaller : goal.loop-from-smaller
loop-from-smaller c =
    let h = c.loop-from.invariant in
    let further = loop_further h c.next_token-start.ensures c.if-start-end.false c.constraint-line.ensures in
    omega (arith, c.constraint-line.ensures.within)

pub loop-from-preserved : goal.loop-from-preserved
loop-from-preserved c = loop_goes_on c.loop-from.invariant c.next_token-start.ensures c.if-start-end.false c.constraint-line.ensures
