-- `judge::judge` meets its contract. The loop's invariant: the constraints passed are judged and the marks of their untils are told, so the
-- answer is what is told, joined with the answer for the rest.
use mathlib.Core.Path.{sym, ◌∙◌}
use Rattle.extend.proofs.JudgeLaws.{told-start, weight_small, told-until, until-unlawful, told-sign, sign-unlawful, told-fits, told-end}
use Rattle.extend.proofs.judge.judge.Goals as goal
use Rattle.extend.proofs.judge.judge.Goals.{then-relation-eq-UNTIL_RELATION+else-not-is_permitted, else-relation-eq-UNTIL_RELATION+else-not-sides_hold}

pub loop-j-init : goal.loop-j-init
loop-j-init c = rw c.begin-marking.ensures (told-start _ _ _ _ _)

pub returns-then-not-is_permitted : goal.returns-then-not-is_permitted
returns-then-not-is_permitted c =
    let at-loop = c in
    let done = c.is_done-done in
    until-unlawful _ _ _ _ _ _ _ c.loop-j-test.true at-loop.loop-j.invariant c.if-relation-eq-UNTIL_RELATION.true done.result done.ensures (sym c.is_permitted.ensures ∙ c.if-not-is_permitted.true)

pub mark_on-marking-requires : goal.mark_on-marking-requires
mark_on-marking-requires c = (c.loop-j.invariant.below, weight_small _ _ _ _ _ _ _ c.loop-j-test.true c.loop-j.invariant c.requires.2)

pub returns-then-not-sides_hold : goal.returns-then-not-sides_hold
returns-then-not-sides_hold c =
    let at-loop = c in
    sign-unlawful _ _ _ _ _ _ _ c.loop-j-test.true at-loop.loop-j.invariant c.if-relation-eq-UNTIL_RELATION.false (sym c.sides_hold.ensures ∙ c.if-not-sides_hold.true)

pub loop-j-preserved : goal.loop-j-preserved
loop-j-preserved c =
    let at-loop = c in
    let more = c.loop-j-test.true in
    elim c.if-relation-eq-UNTIL_RELATION.branch [
      | then-relation-eq-UNTIL_RELATION+else-not-is_permitted w ↦
          rw (w.marking-is ∙ w.mark_on-marking.ensures)
          (told-until _ _ _ _ _ _ _ more at-loop.loop-j.invariant w.if-relation-eq-UNTIL_RELATION.true w.is_done-done.result w.is_done-done.ensures (sym w.is_permitted.ensures ∙ w.if-not-is_permitted.false))
      | else-relation-eq-UNTIL_RELATION+else-not-sides_hold w ↦
          rw w.marking-is (told-sign _ _ _ _ _ _ _ more at-loop.loop-j.invariant w.if-relation-eq-UNTIL_RELATION.false (sym w.sides_hold.ensures ∙ w.if-not-sides_hold.false))
    ]

pub overflow_cast-result : goal.overflow_cast-result
overflow_cast-result c = record { fits = told-fits _ _ _ _ _ _ _ c.loop-j-test.false c.loop-j.invariant c.requires.2 }

pub returns : goal.returns
returns c = told-end _ _ _ _ _ _ _ c.loop-j-test.false c.loop-j.invariant
