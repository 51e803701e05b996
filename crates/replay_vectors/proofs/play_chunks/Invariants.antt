-- Each chunk lies within the record, and is not empty.
use Rattle.std.proofs.Common.{◌-◌, ◌≤◌, length}
use Rattle.replay_vectors.proofs.play_chunks.Given as goal

abbrev pub invariant-loop-at : goal.invariant-loop-at
invariant-loop-at g l = l.at ≤ length l.«record»

abbrev pub decreases-loop-at : goal.decreases-loop-at
decreases-loop-at g l = length l.«record» - l.at
