-- `minimise::number_classes` meets its contract: the classes that begin before `row` are numbered.
use Rattle.minimise.specs.Compacting.{IsNumbered}
use Rattle.minimise.proofs.number_classes.Given as goal

abbrev pub invariant-loop-row : goal.invariant-loop-row
invariant-loop-row l = IsNumbered l.class l.number l.first l.row l.count
