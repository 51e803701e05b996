-- `marks::has_marked` meets its contract: none of the entries before `entry` names a marked row.
use Rattle.std.proofs.Common.{ℕ, ◌<◌, ◌+◌, get_or}
use Rattle.marks.specs.Marks.{Marked}
use Rattle.marks.proofs.has_marked.Given as goal

abbrev pub invariant-loop-entry : goal.invariant-loop-entry
invariant-loop-entry l = (b : ℕ) → b < l.entry-index → ¬ Marked l.marks (get_or l.entries (l.start + b) 0)
