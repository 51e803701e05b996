-- `reader::restate` meets its contract: the kinds before the loop's place are restated, the others are as they were.
use Prim.Native.Nat.{◌≤◌}
use mathlib.Core.Path.{◌≡◌}
use Rattle.reader.proofs.Floored.{floored_up_to}
use Rattle.reader.proofs.restate.Given as goal

abbrev pub invariant-loop-kind : goal.invariant-loop-kind
invariant-loop-kind l = (l.kind-index ≤ 1024) × (l.kinds ≡ floored_up_to l.kind-index l.initial.kinds)
