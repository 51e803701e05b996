-- `changes::count_changes` meets its contract: the changes along the streams from `stream` on are written (`CountedFrom`).
use mathlib.Core.Path.{◌≡◌}
use Prim.Native.Nat.{◌≤◌}
use lib.ListN.{length}
use Rattle.changes.proofs.Loops.{CountedFrom}
use Rattle.changes.proofs.count_changes.Given as goal

abbrev pub invariant-loop-stream : goal.invariant-loop-stream
invariant-loop-stream l = (l.stream ≤ l.initial.stream) × (length l.row ≡ length l.initial.row) × CountedFrom l.shape l.initial.stream l.stream l.stride l.letter l.row
