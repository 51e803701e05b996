-- `course_tests::total_cost` meets its contract: the test is that of the definition.
use mathlib.Core.Path.{sym, ap, ap₂, ◌∙◌}
use mathlib.Core.Bool.{cond}
use Prim.Native.Nat.{◌+◌}
use borrow.Author.Tests.{eq-eqb, ne_eqb}
use Rattle.course_tests.specs.Cost.{no_course}
use Rattle.course_tests.proofs.total_cost.Goals as goal

pub returns-then-cost-eq-NO_COURSE : goal.returns-then-cost-eq-NO_COURSE
returns-then-cost-eq-NO_COURSE c = let a = c.args in sym (ap (λ b. cond b 131072 (a.changes + a.cost)) (eq-eqb a.cost no_course c.if-cost-eq-NO_COURSE.true))

pub returns : goal.returns
returns c = let a = c.args in ap₂ ◌+◌ c.from.ensures c.from-2.ensures ∙ sym (ap (λ b. cond b 131072 (a.changes + a.cost)) (ne_eqb a.cost no_course c.if-cost-eq-NO_COURSE.false))
