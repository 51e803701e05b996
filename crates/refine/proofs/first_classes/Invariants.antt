-- `refine::first_classes` meets its contract. What a turn does to the two classes is in `FirstClasses`.
use Rattle.refine.proofs.FirstClasses.{Naming}
use Rattle.refine.proofs.first_classes.Given as goal

abbrev pub invariant-loop-row : goal.invariant-loop-row
invariant-loop-row l = Naming l.live l.finals l.class l.row l.done l.pending
