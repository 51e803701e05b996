-- `marks::sweeps` meets its contract. Each sweep that turns something leaves fewer rows to turn; the last one shows that all rows are
-- settled.
use mathlib.Core.Path.{◌≡◌, refl, ◌∙◌}
use native.Mathlib.Omega.{arith}
use lib.ListN.{length}
use Rattle.marks.proofs.Sweeping.{turns-none, turns_then, swept_fewer, swept_closed}
use Rattle.marks.proofs.sweeps.Goals as goal

pub sweeps-init : goal.sweeps-init
sweeps-init c = (refl, turns-none c.args.letters c.args.entries.now c.args.to c.args.marks.now)

pub sweeps-smaller : goal.sweeps-smaller
sweeps-smaller c = omega (arith, swept_fewer c.sweeps-test.true c.sweep_down.ensures, swept_fewer c.if-sweep_up.true c.sweep_up.ensures)

pub returns-after-sweeps : goal.returns-after-sweeps
returns-after-sweeps c = swept_closed c.args.to c.args.marks.now c.sweeps.invariant.0 c.sweeps.invariant.1 c.sweeps-test.false c.sweep_down.ensures

pub returns-else-sweep_up : goal.returns-else-sweep_up
returns-else-sweep_up c =
    let args = c.args in
    let down = c.sweep_down in
    swept_closed args.to args.marks.now (down.ensures.same ∙ c.sweeps.invariant.0)
    (turns_then args.letters args.entries.now args.to args.marks.now c.sweeps.marks down.new.marks c.sweeps.invariant.0 c.sweeps.invariant.1 down.ensures.turns)
    c.if-sweep_up.false c.sweep_up.ensures

pub sweeps-preserved : goal.sweeps-preserved
sweeps-preserved c =
    let args = c.args in
    let first = args.marks.now in
    let down = c.sweep_down in
    let kept : length down.new.marks ≡ length first = down.ensures.same ∙ c.sweeps.invariant.0 in (
      c.sweep_up.ensures.same ∙ kept,
      turns_then args.letters args.entries.now args.to first down.new.marks c.sweep_up.new.marks kept
          (turns_then args.letters args.entries.now args.to first c.sweeps.marks down.new.marks c.sweeps.invariant.0 c.sweeps.invariant.1 down.ensures.turns) c.sweep_up.ensures.turns,
    )
