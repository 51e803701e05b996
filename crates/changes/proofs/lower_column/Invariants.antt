-- `changes::lower_column` meets its contract: the places of the values before `value` are lowered (`LowersColumn`).
use Prim.Native.Nat.{◌≤◌}
use Rattle.changes.specs.Passes.{LowersColumn}
use Rattle.changes.proofs.lower_column.Given as goal

abbrev pub invariant-loop-value : goal.invariant-loop-value
invariant-loop-value l = (l.value ≤ l.size) × LowersColumn l.is_set l.from l.stride l.least l.value l.initial.row l.row
