-- `changes::lower_costs` meets its contract: the streams from `stream` on have had their passes (`PassesFrom`).
use mathlib.Core.Path.{◌≡◌}
use Prim.Native.Nat.{◌≤◌}
use lib.ListN.{length}
use Rattle.changes.proofs.Loops.{PassesFrom}
use Rattle.changes.proofs.lower_costs.Given as goal

abbrev pub invariant-loop-stream : goal.invariant-loop-stream
invariant-loop-stream l = (l.stream ≤ l.initial.stream) × (length l.row ≡ length l.initial.row) × PassesFrom l.shape l.initial.stream l.stream l.stride l.initial.row l.row
