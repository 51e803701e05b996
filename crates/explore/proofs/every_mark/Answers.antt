-- `every_mark` meets its contract: before each turn the relations still to be looked at, after the marks so far, give the whole number.
use native.Mathlib.Omega.{arith}
use Rattle.explore.proofs.SearchLaws.{counted_start, marks-small, counted-until, counted-sign, counted-fits, counted-end}
use Rattle.explore.proofs.every_mark.Goals as goal
use Rattle.explore.proofs.every_mark.Goals.{then-relation-eq-UNTIL_RELATION, else-relation-eq-UNTIL_RELATION}

pub loop-relation-init : goal.loop-relation-init
loop-relation-init c = counted_start _

pub overflow_mul-marks : goal.overflow_mul-marks
overflow_mul-marks c = omega (arith, marks-small c.args.relations.now c.loop-relation.marks c.loop-relation.relation-index c.loop-relation-test.true c.loop-relation.invariant c.requires)

pub overflow_add-marks : goal.overflow_add-marks
overflow_add-marks c = omega (arith, marks-small c.args.relations.now c.loop-relation.marks c.loop-relation.relation-index c.loop-relation-test.true c.loop-relation.invariant c.requires)

pub loop-relation-preserved : goal.loop-relation-preserved
loop-relation-preserved c =
    let at-loop = c in
    let more = c.loop-relation-test.true in
    elim c.if-relation-eq-UNTIL_RELATION.branch [
      | then-relation-eq-UNTIL_RELATION w ↦ rw w.marks-is (counted-until _ _ _ more at-loop.loop-relation.invariant w.if-relation-eq-UNTIL_RELATION.true)
      | else-relation-eq-UNTIL_RELATION w ↦ rw w.marks-is (counted-sign _ _ _ more at-loop.loop-relation.invariant w.if-relation-eq-UNTIL_RELATION.false)
    ]

pub overflow_cast-result : goal.overflow_cast-result
overflow_cast-result c = record { fits = counted-fits _ _ _ c.requires c.loop-relation.invariant }

pub returns : goal.returns
returns c = counted-end _ _ _ c.loop-relation-test.false c.loop-relation.invariant
