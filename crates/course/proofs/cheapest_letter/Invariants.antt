-- `course::cheapest_letter` meets its contract: `least` is the least total of the letters before `letter`, and `best` the first of them that has it
-- (`IsFirstLeast`).
use Prim.Native.Nat.{◌≤◌}
use Rattle.basics.specs.Lists.{at}
use Rattle.course.specs.Costs.{layered_in}
use Rattle.course.proofs.Cheapest.{IsFirstLeast}
use Rattle.course.proofs.cheapest_letter.Given as goal

abbrev pub invariant-loop-letter : goal.invariant-loop-letter
invariant-loop-letter l = (l.letter ≤ l.letters) × IsFirstLeast (layered_in l.letters l.entries l.finals l.layers l.goal) l.costs (at l.changes) l.row l.letter l.best l.least
