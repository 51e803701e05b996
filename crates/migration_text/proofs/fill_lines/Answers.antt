-- `migration_text::fill_lines` meets its contract: before each line those of the states so far stand there (Text).
use Prim.Native.Nat.{◌<◌}
use native.Mathlib.Omega.{arith}
use lib.ListN.{get_or}
use Rattle.migration_text.proofs.Text.{writing_start, writing_long, writing_inside, line-inside, writing_next, writing_end}
use Rattle.migration_text.proofs.fill_lines.Goals as goal

pub loop-old-init : goal.loop-old-init
loop-old-init c = writing_start

pub overflow_cast-states : goal.overflow_cast-states
overflow_cast-states c =
    let state-small : get_or c.args.states.now c.loop-old.old 0 < 65536 = omega (arith, c.type_inv.states c.loop-old.old) in
    omega (arith, state-small)

pub slice_bounds-pair_line-count : goal.slice_bounds-pair_line-count
slice_bounds-pair_line-count c = writing_inside c.requires.0 c.requires.1 c.requires.2 c.loop-old.invariant

pub slice_bounds-pair_line-start : goal.slice_bounds-pair_line-start
slice_bounds-pair_line-start c = writing_inside c.requires.0 c.requires.1 c.requires.2 c.loop-old.invariant

pub pair_line-at-requires : goal.pair_line-at-requires
pair_line-at-requires c = tt

pub overflow_add-at : goal.overflow_add-at
overflow_add-at c =
    let state-small : get_or c.args.states.now c.loop-old.old 0 < 65536 = omega (arith, c.type_inv.states c.loop-old.old) in
    omega (arith, line-inside c.requires.0 c.requires.1 c.requires.2 c.loop-old.invariant c.loop-old-test.true (state-small) c.pair_line-at.ensures, writing_long c.requires.0 c.requires.1 c.requires.2 c.loop-old.invariant)

pub overflow_add-old : goal.overflow_add-old
overflow_add-old c = omega (arith, c.loop-old-test.true)

pub loop-old-smaller : goal.loop-old-smaller
loop-old-smaller c = omega (arith, c.loop-old-test.true)

pub loop-old-preserved : goal.loop-old-preserved
loop-old-preserved c =
    let state-small : get_or c.args.states.now c.loop-old.old 0 < 65536 = omega (arith, c.type_inv.states c.loop-old.old) in
    writing_next c.requires.0 c.requires.1 c.requires.2 c.loop-old.invariant c.loop-old-test.true (state-small) c.pair_line-at.ensures

pub returns : goal.returns
returns c = (writing_end c.requires.0 c.requires.1 c.requires.2 c.loop-old.invariant c.loop-old-test.false, omega (arith, writing_inside c.requires.0 c.requires.1 c.requires.2 c.loop-old.invariant, writing_long c.requires.0 c.requires.1 c.requires.2 c.loop-old.invariant, c.requires.1))
