-- `minimise::move_row` meets its contract: the first `a` entries are moved.
use Rattle.std.proofs.Common.{◌+◌}
use Rattle.minimise.specs.Compacting.{IsMoved}
use Rattle.minimise.proofs.move_row.Given as goal

abbrev pub invariant-loop-a : goal.invariant-loop-a
invariant-loop-a l = IsMoved l.class l.number l.initial.entries l.entries l.from l.to l.a (l.from + l.a)
