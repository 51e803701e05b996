-- `changes::spread_stream` meets its contract: the values from `value` on are written (`SpreadsStream`).
use Prim.Native.Nat.{◌≤◌}
use Rattle.changes.specs.Passes.{SpreadsStream}
use Rattle.changes.proofs.spread_stream.Given as goal

abbrev pub invariant-loop-value : goal.invariant-loop-value
invariant-loop-value l = (l.value ≤ l.size) × SpreadsStream l.is_set l.size l.stride l.own l.value l.initial.row l.row
