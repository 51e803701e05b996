-- `every_mark` meets its contract: before each turn the relations still to be looked at, after the marks so far, give the whole number.
use Rattle.explore.proofs.SearchLaws.{Counted}
use Rattle.explore.proofs.every_mark.Given as goal

abbrev pub invariant-loop-relation : goal.invariant-loop-relation
invariant-loop-relation l = Counted l.relations l.marks l.relation-index
