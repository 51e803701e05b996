-- `course::find_costs` meets its contract: the costs of the rows from the place `left` of the queue on are right (`KnownFrom`).
use mathlib.Core.Path.{◌≡◌}
use Prim.Native.Nat.{◌≤◌}
use lib.ListN.{length}
use Rattle.basics.specs.Lists.{at}
use Rattle.changes.specs.Axes.{axes_in}
use Rattle.course.specs.Costs.{layered_in}
use Rattle.course.proofs.Costs.{KnownFrom}
use Rattle.course.proofs.find_costs.Given as goal

abbrev pub invariant-loop-left : goal.invariant-loop-left
invariant-loop-left l = (l.left ≤ l.initial.left) × (length l.costs ≡ length l.initial.costs) × KnownFrom (axes_in l.shape) (layered_in l.letters l.entries l.finals l.layers l.goal) (at l.queue) l.initial.left l.left l.costs
