-- `evaluate::negations` meets its contract: before each turn a `not` before the part that was asked for has the value of the part that the loop has
-- come to, negated once or twice.
use Rattle.evaluate.specs.Negation.{Negates}
use Rattle.evaluate.proofs.negations.Given as goal

abbrev pub invariant-loop-i : goal.invariant-loop-i
invariant-loop-i l = Negates l.kinds l.end l.i l.again
