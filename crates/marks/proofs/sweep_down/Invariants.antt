-- `marks::sweep_down` meets its contract: the rows from `row` on are seen.
use Prim.Native.Nat.{◌≤◌, ◌<◌}
use lib.ListN.{length}
use Rattle.marks.specs.Sweeps.{Swept}
use Rattle.marks.proofs.sweep_down.Given as goal

abbrev pub invariant-loop-row : goal.invariant-loop-row
invariant-loop-row l = Swept l.to l.letters l.entries (λ s. (l.row ≤ s) × (s < length l.initial.marks)) l.initial.marks l.marks l.changed
