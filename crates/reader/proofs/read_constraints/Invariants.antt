-- `reader::read_constraints` meets its contract: the tables and counts are those after the lines before the loop's place.
use Prim.Native.Nat.{◌-◌}
use mathlib.Core.Bool.{false}
use lib.ListN.{length}
use Rattle.nodes.specs.Evaluate.{stored}
use Rattle.reader.specs.Constraints.{state, counts}
use Rattle.reader.proofs.Constraints.{SoFar}
use Rattle.reader.proofs.read_constraints.Given as goal

abbrev pub invariant-loop-at : goal.invariant-loop-at
invariant-loop-at l = SoFar l.names l.text (state (stored l.initial.kinds l.initial.values l.initial.starts) l.initial.relations l.initial.lefts l.initial.rights (counts 0 0 0 0 false)) (state (stored l.kinds l.values l.starts) l.relations l.lefts l.rights (counts l.count l.nodes l.firsts l.untils l.beyond)) l.at

abbrev pub decreases-loop-at : goal.decreases-loop-at
decreases-loop-at l = length l.text - l.at
