-- `course::settle_course` meets its contract: the goal layer and the rooms refuse, or the best course is written.
use native.Mathlib.Omega.{arith}
use Rattle.course.proofs.Goal.{goal-few}
use Rattle.course.proofs.Outcome.{outcome-refused, outcome-goal-refused, goal-passes, not_short, outcome-found}
use Rattle.course.proofs.settle_course.Goals as goal

pub returns-then-refusal-ne0 : goal.returns-then-refusal-ne0
returns-then-refusal-ne0 c streams shape fit =
    let start = c in
    outcome-refused c.refused.ensures start.requires.finals_len.4 (outcome-goal-refused fit start.requires.finals_len.0 start.requires.searched c.goal_refusal-refusal.ensures c.if-refusal-ne0.true)

pub write_course-requires : goal.write_course-requires
write_course-requires c =
    let start = c in
    let sizes = start.requires.finals_len in
    let passes = goal-passes c.goal_refusal-refusal.ensures c.if-refusal-ne0.false in
    let enough = not_short passes.1 in
    record {
      whole_table = start.requires.whole_table;
      finals_len = (sizes.0, sizes.1, omega (arith, enough.1, start.requires.whole_table.whole_rows), passes.0, enough.0, sizes.2, sizes.3);
      searched = start.requires.searched;
    }

pub overflow_cast-result : goal.overflow_cast-result
overflow_cast-result c =
    let start = c in
    let passes = goal-passes c.goal_refusal-refusal.ensures c.if-refusal-ne0.false in
    omega (arith, goal-few start.requires.searched.ended.is_queue start.requires.whole_table.few_rows passes.0 start.requires.searched.goal_below)

pub returns : goal.returns
returns c streams shape fit =
    let start = c in
    let passes = goal-passes c.goal_refusal-refusal.ensures c.if-refusal-ne0.false in
    outcome-found fit start.requires.finals_len.0 start.requires.searched shape start.requires.finals_len.4 passes.1 c.write_course.ensures
