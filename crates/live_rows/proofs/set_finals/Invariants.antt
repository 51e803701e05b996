-- `live_rows::set_finals` meets its contract: the bytes before `row` are set.
use Rattle.live_rows.specs.Sets.{IsSet, LiveWithout, SameBeyond}
use Rattle.live_rows.proofs.set_finals.Given as goal

abbrev pub invariant-loop-row : goal.invariant-loop-row
invariant-loop-row l = IsSet l.finals l.row (LiveWithout l.live l.endless) × SameBeyond l.initial.finals l.finals l.row
