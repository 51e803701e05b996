-- `tally::count_chunk` meets its contract: before each turn the bytes so far are read (Parts).
use native.Mathlib.Omega.{arith}
use mathlib.Core.Path.{refl, ◌∙◌}
use Rattle.tally.proofs.Parts.{nothing_read, read_more, read_all}
use Rattle.tally.proofs.count_chunk.Goals as goal

pub loop-at-init : goal.loop-at-init
loop-at-init c = (nothing_read _ _ _ _ (omega arith), refl)

pub count_part-part-requires : goal.count_part-part-requires
count_part-part-requires c = c.loop-at-test.true

pub loop-at-smaller : goal.loop-at-smaller
loop-at-smaller c = omega (arith, c.count_part-part.ensures.onward, c.count_part-part.ensures.inside)

pub loop-at-preserved : goal.loop-at-preserved
loop-at-preserved c =
    let t = c.loop-at in
    (read_more _ _ t.invariant.0 c.count_part-part.ensures, c.count_part-part.auto.counts ∙ t.invariant.1)

pub returns : goal.returns
returns c = read_all _ _ c.loop-at.invariant.0 c.loop-at-test.false
