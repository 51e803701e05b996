-- `spans::constraints` meets its contract. The measure is the number of bytes left.
use Prim.Native.Nat.{◌-◌}
use lib.ListN.{length}
use Rattle.spans.proofs.Loop.{InLoop}
use Rattle.spans.proofs.constraints.Given as goal

abbrev pub invariant-loop-from : goal.invariant-loop-from
invariant-loop-from l = InLoop l.text l.from l.initial.spans l.spans l.at l.count

abbrev pub decreases-loop-from : goal.decreases-loop-from
decreases-loop-from l = length l.text - l.at
