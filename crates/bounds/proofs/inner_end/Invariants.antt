-- `bounds::inner_end` meets its contract: before each turn the nodes from the loop's place on are prefixes.
use Rattle.bounds.specs.Prefix.{Prefixes}
use Rattle.bounds.proofs.inner_end.Given as goal

abbrev pub invariant-loop-at : goal.invariant-loop-at
invariant-loop-at l = Prefixes l.kinds l.at l.end
