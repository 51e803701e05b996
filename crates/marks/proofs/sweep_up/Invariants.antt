-- `marks::sweep_up` meets its contract: the rows before `row` are seen.
use Prim.Native.Nat.{◌<◌}
use Rattle.marks.specs.Sweeps.{Swept}
use Rattle.marks.proofs.sweep_up.Given as goal

abbrev pub invariant-loop-row : goal.invariant-loop-row
invariant-loop-row l = Swept l.to l.letters l.entries (λ s. s < l.row) l.initial.marks l.marks l.changed
