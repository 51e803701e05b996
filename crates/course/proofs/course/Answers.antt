-- `course::course` meets its contract: the list is zero before the course is sought, and the work room afterwards.
use mathlib.Core.Path.{sym, ap, ◌∙◌, subst}
use Prim.Native.Nat.{ℕ}
use lib.ListN.{length, replicate}
use borrow.Author.Rules.{rules}
use Rattle.basics.proofs.Clearing.{zeroed}
use Rattle.course.specs.Outcome.{BestCourse}
use Rattle.course.proofs.course.Goals as goal

pub judged_course-answer-requires : goal.judged_course-answer-requires
judged_course-answer-requires c = zeroed (c.fill.ensures.after (search rules)) (sym c.fill.auto.self)

pub returns : goal.returns
returns c =
    let start = c in
    let a = start.args in
    let answer = c.judged_course-answer in
    let list = c.fill.auto.self in
    record {
      outcome = subst (λ (room : ℕ). BestCourse a.letters a.entries.now a.finals.now a.streams a.state room (length a.work.now) answer.result.refusal answer.result.count answer.new.list) list answer.ensures;
      cleared = c.fill-2.ensures.after (search rules) ∙ ap (λ m. replicate m 0) answer.auto.work;
    }
