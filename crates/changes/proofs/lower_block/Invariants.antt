-- `changes::lower_block` meets its contract: the columns before `offset` are lowered (`LowersBlock`).
use Prim.Native.Nat.{◌≤◌}
use Rattle.changes.specs.Passes.{LowersBlock}
use Rattle.changes.proofs.lower_block.Given as goal

abbrev pub invariant-loop-offset : goal.invariant-loop-offset
invariant-loop-offset l = (l.offset ≤ l.stride) × LowersBlock l.is_set l.start l.size l.stride l.offset l.initial.row l.row
