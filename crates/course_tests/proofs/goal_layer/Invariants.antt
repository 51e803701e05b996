-- `course_tests::goal_layer` meets its contract: `goal` is the least layer of a final row before `row`, or NOT_MET; rows behind the
-- final bytes are not final.
use Rattle.basics.specs.Lists.{at}
use Rattle.automaton.specs.Stored.{final_at}
use Rattle.course_tests.specs.Goal.{IsGoalBelow}
use Rattle.course_tests.proofs.goal_layer.Given as goal

abbrev pub invariant-loop-row : goal.invariant-loop-row
invariant-loop-row l = IsGoalBelow (final_at l.finals) (at l.layers) l.row l.goal
