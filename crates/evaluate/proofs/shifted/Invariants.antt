-- `evaluate::shifted` meets its contract: before each turn the part and the place that the loop has come to have the value that was asked for, and
-- the loop ends where neither a `next` nor a `fby` can be followed.
use Rattle.evaluate.specs.Shift.{SameElsewhere}
use Rattle.evaluate.proofs.shifted.Given as goal

abbrev pub invariant-loop-i : goal.invariant-loop-i
invariant-loop-i l = SameElsewhere l.kinds l.count l.end l.place l.i l.at
