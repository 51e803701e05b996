-- `refusals::constraint_lines_refused` meets its contract: what the lines before the loop's place gave is counted, and none of them is too deep.
use Prim.Native.Nat.{◌-◌}
use lib.ListN.{length}
use Rattle.refusals.proofs.Lines.{Counted}
use Rattle.refusals.proofs.constraint_lines_refused.Given as goal

abbrev pub invariant-loop-at : goal.invariant-loop-at
invariant-loop-at l = Counted l.text l.count l.tokens l.at

abbrev pub decreases-loop-at : goal.decreases-loop-at
decreases-loop-at l = length l.text - l.at
