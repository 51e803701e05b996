-- `counting::fill_figures` meets its contract: before each turn the counts are those for `t` letters, and the figures up to `t` stand in the lists (Figures).
use native.Mathlib.Omega.{arith}
use lib.ListN.{get_or, set, length-set}
use Rattle.counting.specs.Counting.{any_state, has_final_byte}
use Rattle.counting.proofs.Figures.{filling-more}
use Rattle.counting.proofs.fill_figures.Goals as goal

pub loop-t-preserved : goal.loop-t-preserved
loop-t-preserved c =
    let a = c.args in
    let loop = c.loop-t in
    let call = c.add_letter in
    let begun = c.requires.0 in (
      filling-more a.letters a.entries.now (λ finals. any_state) a.counts.now (set a.figures.now 0 (get_or a.counts.now 0 0)) (omega (arith, loop.auto.counts, begun.some_row)) call.auto.counts
          (omega (arith, loop.auto.figures, c.requires.1, c.loop-t-test.true, length-set a.figures.now 0 (get_or a.counts.now 0 0))) loop.invariant.0 call.ensures.0,
      filling-more a.letters a.entries.now has_final_byte a.final_counts.now (set a.final_figures.now 0 (get_or a.final_counts.now 0 0)) (omega (arith, loop.auto.final_counts, begun.some_row, begun.same_rows)) call.auto.final_counts
          (omega (arith, loop.auto.final_figures, c.requires.2, c.loop-t-test.true, length-set a.final_figures.now 0 (get_or a.final_counts.now 0 0))) loop.invariant.1 (λ i l. call.ensures.1 i (omega (arith, loop.auto.counts, loop.auto.final_counts, begun.same_rows))),
    )
