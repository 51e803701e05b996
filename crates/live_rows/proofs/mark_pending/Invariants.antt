-- `live_rows::mark_pending` meets its contract: the numbers before `row` are set.
use Rattle.live_rows.specs.Sets.{IsSet, LiveWithout}
use Rattle.live_rows.proofs.mark_pending.Given as goal

abbrev pub invariant-loop-row : goal.invariant-loop-row
invariant-loop-row l = IsSet l.pending l.row (LiveWithout l.live l.flags)
