-- `changes::lower_stream` meets its contract: the blocks before `start` are lowered (`LowersBlocks`).
use mathlib.Core.Path.{◌≡◌}
use Prim.Native.Nat.{ℕ, ◌*◌, ◌≤◌, ◌-◌}
use lib.ListN.{length}
use Rattle.changes.specs.Passes.{LowersBlocks}
use Rattle.changes.proofs.lower_stream.Given as goal

abbrev pub invariant-loop-start : goal.invariant-loop-start
invariant-loop-start l = (l.start ≤ length l.initial.row) × ((q : ℕ) × (l.start ≡ q * (l.size * l.stride)) × LowersBlocks l.is_set l.size l.stride q l.initial.row l.row)

abbrev pub decreases-loop-start : goal.decreases-loop-start
decreases-loop-start l = length l.initial.row - l.start
