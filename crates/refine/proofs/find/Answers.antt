-- `refine::find` meets its contract: the rows of the chain with the signature of `row` are on what is left of it.
use Prim.Native.Nat.{◌-◌}
use native.Mathlib.Omega.{arith}
use Rattle.basics.proofs.Answers.{says_yes, says_no}
use Rattle.refine.specs.Splitting.{here}
use Rattle.refine.proofs.Chains.{searching_start, searching_next, searching_end}
use Rattle.refine.proofs.find.Goals as goal

pub loop-j-init : goal.loop-j-init
loop-j-init c = searching_start c.requires.head_most

pub same_row-requires : goal.same_row-requires
same_row-requires c =
    let start = c in
    (omega (arith, start.requires.inside, c.loop-j.invariant.most, c.loop-j-test.true), start.requires.inside, start.requires.entries_fit, start.requires.envelopes_fit, start.requires.enveloped)

pub returns-then-same_row : goal.returns-then-same_row
returns-then-same_row c =
    let loop = c.loop-j in
    (omega (arith, loop.invariant.most, c.loop-j-test.true), loop.invariant.part (loop.j - 1) (here (omega (arith, c.loop-j-test.true))), says_yes c.if-same_row.true c.same_row.ensures)

pub overflow_cast-j : goal.overflow_cast-j
overflow_cast-j c = omega (arith, c.type_inv.links (c.loop-j.j - 1))

pub loop-j-smaller : goal.loop-j-smaller
loop-j-smaller c = omega (arith, c.requires.falling (c.loop-j.j - 1), c.loop-j-test.true)

pub loop-j-preserved : goal.loop-j-preserved
loop-j-preserved c =
    let loop = c.loop-j in
    searching_next c.requires.falling loop.j (loop.j - 1) (omega (arith, c.loop-j-test.true)) loop.invariant (says_no c.if-same_row.false c.same_row.ensures)

pub returns : goal.returns
returns c = searching_end c.loop-j-test.false c.loop-j.invariant
