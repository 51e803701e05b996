-- `histogram_vectors::count_chunks` is safe and ends: each chunk lies within the record, and is not empty.
use Prim.Native.Nat.{◌-◌, ◌≤◌}
use mathlib.Core.Path.{◌≡◌}
use lib.ListN.{length}
use Rattle.histogram_vectors.proofs.count_chunks.Given as goal

abbrev pub invariant-loop-at : goal.invariant-loop-at
invariant-loop-at l = (l.at ≤ length l.record) × (length l.counts ≡ length l.initial.counts)

abbrev pub decreases-loop-at : goal.decreases-loop-at
decreases-loop-at l = length l.record - l.at
