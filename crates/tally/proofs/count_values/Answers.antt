-- `tally::count_values` meets its contract: before each turn the bytes so far are read; a turn reads one line, or its bytes to the end of the chunk (Parts).
use native.Mathlib.Omega.{arith}
use mathlib.Core.Path.{refl, ◌∙◌, ap}
use lib.ListN.{length}
use Rattle.tally.proofs.Parts.{nothing_read, read-part, values_on, values-counted, values-refused}
use Rattle.held_lines.proofs.Raised.{raised-length}
use Rattle.tally.proofs.count_values.Goals as goal

pub loop-at-init : goal.loop-at-init
loop-at-init c = (λ ns ls. nothing_read _ _ _ _ (omega (arith, c.requires)), refl)

pub overflow_add-at : goal.overflow_add-at
overflow_add-at c = omega (arith, c.if-at-chunk.true)

pub returns-then-end-ne0 : goal.returns-then-end-ne0
returns-then-end-ne0 c =
    let t = c.loop-at in
    let u = c.run_values-run in
    λ ns ls.
    let p = t.invariant.0 ns ls in
    read-part _ _ c.part_to.ensures (omega (arith, p.onward, u.ensures.0.onward))
    (values-refused _ _ p u.ensures.0 u.ensures.1 c.if-at-chunk.true c.line_end-end.ensures c.if-end-ne0.true)

pub loop-at-smaller-then-at-chunk : goal.loop-at-smaller-then-at-chunk
loop-at-smaller-then-at-chunk c = let l = c.run_values-run.ensures.0 in omega (arith, l.onward, c.if-at-chunk.true)

pub loop-at-preserved-then-at-chunk : goal.loop-at-preserved-then-at-chunk
loop-at-preserved-then-at-chunk c =
    let t = c.loop-at in
    let u = c.run_values-run in
    let raised-to = c.raise.ensures in (
      λ ns ls.
          values-counted _ _ (t.invariant.0 ns ls) u.ensures.0 u.ensures.1 c.if-at-chunk.true c.line_end-end.ensures
          c.if-end-ne0.false raised-to c.line_start-line.ensures c.one_more-total.ensures,
      ap length raised-to ∙ raised-length t.counts c.line_end-end.result.letter ∙ t.invariant.1,
    )

pub loop-at-smaller : goal.loop-at-smaller
loop-at-smaller c = let l = c.run_values-run.ensures.0 in omega (arith, l.inside, c.if-at-chunk.false, c.loop-at-test.true)

pub loop-at-preserved : goal.loop-at-preserved
loop-at-preserved c =
    let t = c.loop-at in
    let u = c.run_values-run in
    (λ ns ls. values_on _ _ (t.invariant.0 ns ls) u.ensures.0 u.ensures.1 c.loop-at-test.true c.if-at-chunk.false, t.invariant.1)

pub returns : goal.returns
returns c = λ ns ls. read-part _ _ c.part_to-2.ensures (omega (arith, c.loop-at-test.false, c.requires)) (c.loop-at.invariant.0 ns ls)
