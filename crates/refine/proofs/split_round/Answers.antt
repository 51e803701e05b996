-- `refine::split_round` meets its contract. What a turn does to the classes and chains is in `Splitting`.
use mathlib.Core.Bool.{◌||◌, not}
use native.Mathlib.Omega.{arith}
use lib.Dec.{eqb}
use lib.ListN.{get_or}
use Rattle.refine.proofs.Splitting.{splitting_start, splitting_splittable, moved_next, splitting_next, splitting_round}
use Rattle.refine.proofs.split_round.Goals as goal

pub loop-row-init : goal.loop-row-init
loop-row-init c = splitting_start c.requires

pub bounds-next-row : goal.bounds-next-row
bounds-next-row c = omega (arith, c.loop-row.invariant.next_fits, c.loop-row-test.true)

pub next_class-c-requires : goal.next_class-c-requires
next_class-c-requires c = splitting_splittable c.loop-row.invariant c.loop-row-test.true c.requires

pub loop-row-preserved : goal.loop-row-preserved
loop-row-preserved c =
    let call = c.next_class-c in
    let loop = c.loop-row in
    let lt = c.loop-row-test.true in
    splitting_next loop.invariant lt c.requires call.result call.new.heads call.new.links (loop.changed || not (eqb call.result (get_or c.args.class.now loop.row 0))) call.ensures (moved_next loop.invariant lt call.result)

pub returns : goal.returns
returns c = (splitting_round (omega (arith, c.loop-row.invariant.within)) c.loop-row.invariant, c.loop-row.invariant.falling)
