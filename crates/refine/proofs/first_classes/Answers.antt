-- `refine::first_classes` meets its contract. What a turn does to the two classes is in `FirstClasses`.
use mathlib.Core.Path.{◌≡◌}
use native.Mathlib.Omega.{arith}
use lib.ListN.{length}
use Rattle.refine.proofs.FirstClasses.{Naming, naming_none, naming_closed, naming_open, naming_dead, naming_named}
use Rattle.refine.proofs.first_classes.Goals.{then-mark-ne1, else-mark-ne1+then-finals-row-eq1, else-mark-ne1+else-finals-row-eq1}
use Rattle.refine.proofs.first_classes.Goals as goal

pub loop-row-init : goal.loop-row-init
loop-row-init c = naming_none c.args.live.now c.args.finals.now c.args.class.now c.requires.2

pub loop-row-preserved : goal.loop-row-preserved
loop-row-preserved c =
    let inv = c.loop-row.invariant in
    let lt = c.loop-row-test.true in
    elim c.if-mark-ne1.branch [
      | then-mark-ne1 w ↦ rw (w.class-is, w.pending-is, w.done-is) (naming_dead inv lt w.if-mark-ne1.true)
      | else-mark-ne1+then-finals-row-eq1 w ↦ rw (w.class-is, w.pending-is, w.done-is) (naming_closed inv lt w.first_of-done.result w.if-mark-ne1.false w.if-finals-row-eq1.true w.first_of-done.ensures)
      | else-mark-ne1+else-finals-row-eq1 w ↦ rw (w.class-is, w.pending-is, w.done-is) (naming_open inv lt w.first_of-pending.result w.if-mark-ne1.false w.if-finals-row-eq1.false w.first_of-pending.ensures)
    ]

pub returns : goal.returns
returns c =
    let end : c.loop-row.row ≡ length c.args.live.now = omega (arith, c.loop-row.invariant.within) in
    let inv : Naming c.args.live.now c.args.finals.now c.loop-row.class (length c.args.live.now) c.loop-row.done c.loop-row.pending = rw (← end) c.loop-row.invariant in
    naming_named inv
