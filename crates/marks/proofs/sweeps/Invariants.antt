-- `marks::sweeps` meets its contract. Each sweep that turns something leaves fewer rows to turn; the last one shows that all rows are
-- settled.
use mathlib.Core.Path.{◌≡◌}
use lib.ListN.{length}
use Rattle.marks.specs.Sweeps.{rows_left, Turns}
use Rattle.marks.proofs.sweeps.Given as goal

abbrev pub invariant-sweeps : goal.invariant-sweeps
invariant-sweeps l = (length l.marks ≡ length l.initial.marks) × Turns l.to l.letters l.entries l.initial.marks l.marks

abbrev pub decreases-sweeps : goal.decreases-sweeps
decreases-sweeps l = rows_left l.to l.marks
