-- `changes::spread_part` meets its contract: the numbers before `offset` are written (`SpreadsPart`).
use Prim.Native.Nat.{◌≤◌}
use Rattle.changes.specs.Passes.{SpreadsPart}
use Rattle.changes.proofs.spread_part.Given as goal

abbrev pub invariant-loop-offset : goal.invariant-loop-offset
invariant-loop-offset l = (l.offset ≤ l.stride) × SpreadsPart l.from l.more l.offset l.initial.row l.row
