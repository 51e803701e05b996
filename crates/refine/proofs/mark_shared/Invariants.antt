-- `refine::mark_shared` meets its contract: what holds of the rows before `row` stays, since marks are only set.
use Rattle.refine.specs.Splitting.{Sharing}
use Rattle.refine.proofs.mark_shared.Given as goal

abbrev pub invariant-loop-row : goal.invariant-loop-row
invariant-loop-row l = Sharing l.class l.shared l.row
