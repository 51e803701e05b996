-- `minimise::move_rows` meets its contract: the rows of the states before `state` are moved.
use Rattle.minimise.proofs.Compacting.{IsCompacting}
use Rattle.minimise.proofs.move_rows.Given as goal

abbrev pub invariant-loop-state : goal.invariant-loop-state
invariant-loop-state l = IsCompacting l.letters l.class l.number l.first l.initial.entries l.initial.finals l.entries l.finals l.state
