-- `course::follow` meets its contract: before each turn the letters so far are written (`Following`).
use mathlib.Core.Path.{◌≡◌}
use Prim.Native.Nat.{◌≤◌}
use lib.ListN.{length}
use Rattle.changes.specs.Axes.{axes_in}
use Rattle.course.specs.Costs.{layered_in}
use Rattle.course.proofs.Following.{Following}
use Rattle.course.proofs.follow.Given as goal

abbrev pub invariant-loop-taken : goal.invariant-loop-taken
invariant-loop-taken l = (l.taken ≤ l.end) × (length l.changes ≡ l.letters) × Following (axes_in l.shape) (layered_in l.letters l.entries l.finals l.layers l.goal) l.costs l.start l.initial.list l.list l.changes l.row l.taken
