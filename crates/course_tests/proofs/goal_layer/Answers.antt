-- `course_tests::goal_layer` meets its contract: `goal` is the least layer of a final row before `row`, or NOT_MET; rows behind the
-- final bytes are not final.
use mathlib.Core.Path.{◌≡◌, refl, subst}
use mathlib.Core.Logic.{inl}
use Prim.Native.Nat.{ℕ, min}
use native.Mathlib.Omega.{arith}
use lib.ListN.{length}
use Rattle.basics.specs.Lists.{at}
use Rattle.automaton.specs.Stored.{final_at}
use Rattle.course_tests.specs.Goal.{IsGoalBelow}
use Rattle.course_tests.proofs.Goal.{goal-kept, goal-least, goal-beyond}
use Rattle.course_tests.proofs.goal_layer.Goals as goal
use Rattle.course_tests.proofs.goal_layer.Goals.{then-finals-row-eq1, else-finals-row-eq1}

pub loop-row-init : goal.loop-row-init
loop-row-init c = record { least = λ i h. absurd (omega arith); attained = inl refl }

pub loop-row-preserved : goal.loop-row-preserved
loop-row-preserved c = elim c.if-finals-row-eq1.branch [
  | then-finals-row-eq1 w ↦ rw w.goal-is (goal-least c.loop-row.invariant w.if-finals-row-eq1.true w.min-goal.ensures)
  | else-finals-row-eq1 w ↦ rw w.goal-is (goal-kept c.loop-row.invariant (λ e. absurd (w.if-finals-row-eq1.false e)))
]

pub returns : goal.returns
returns c =
    let a = c.args in
    let end : c.loop-row.row ≡ min (length a.layers.now) (length a.finals.now) = omega (arith, c.min-row-end.ensures, c.loop-row-test.false) in
    goal-beyond a.finals.now
    (subst (λ (m : ℕ). IsGoalBelow (final_at a.finals.now) (at a.layers.now) m c.loop-row.goal) end c.loop-row.invariant)
