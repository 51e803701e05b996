-- `changes::column_least` meets its contract: `least` is the least of the numbers before `value`.
use mathlib.Core.Path.{◌≡◌}
use Prim.Native.Nat.{◌+◌, ◌*◌, ◌≤◌}
use Rattle.basics.specs.Lists.{at}
use Rattle.changes.specs.Passes.{least_below}
use Rattle.changes.proofs.column_least.Given as goal

abbrev pub invariant-loop-value : goal.invariant-loop-value
invariant-loop-value l = (l.value ≤ l.size) × (l.least ≡ least_below l.value (λ d. at l.row (l.from + d * l.stride)))
