-- `course_text::PrintedCourse::line_at` meets its contract, by the cases of a refusal's number and of the place (pages, Refused; Output).
use Prim.Native.Nat.{◌-◌}
use mathlib.Core.Path.{◌≡◌, refl, sym, ◌∙◌, ap}
use lib.ListN.{get_or}
use borrow.Author.Rules.{rules}
use borrow.Author.Tests.{ltb-true, ltb-false}
use Rattle.course_text.specs.Output.{values_text}
use Rattle.print.proofs.Append.{appends_same}
use Rattle.pages.proofs.Lines.{appended-line, empty-line}
use Rattle.pages.proofs.Refused.{refusal-first, nothing-after, first-given}
use Rattle.course_text.proofs.Output.{values-after, nothing-behind}
use Rattle.course_text.proofs.PrintedCoursePlacedText.line_at.Goals as goal

pub returns-then-place-ne0 : goal.returns-then-place-ne0
returns-then-place-ne0 c = empty-line (nothing-after _ _ c.if-self-ne0.true c.if-place-ne0.true)

pub returns-then-self-ne0 : goal.returns-then-self-ne0
returns-then-self-ne0 c = appended-line refl (appends_same c.refusal_line.ensures (refusal-first _ _ c.if-self-ne0.true c.if-place-ne0.false))

pub returns-then-place-eq0 : goal.returns-then-place-eq0
returns-then-place-eq0 c = appended-line refl (appends_same c.names_line.ensures (first-given _ _ c.if-self-ne0.false c.if-place-eq0.true))

pub returns-in_default : goal.returns-in_default
returns-in_default c = empty-line (nothing-behind _ c.if-self-ne0.false c.if-place-eq0.false (ltb-false _ _ (sym c.in_default.ensures.lookup.0)))

pub returns : goal.returns
returns c =
    let p = c.args.self.now in
    let letter : c.in-Some.field-0.now ≡ get_or p.course.now (c.args.place - 1) 0 = search rules in
    appended-line refl
    (appends_same c.values_line.ensures
    (ap (values_text p.lows.now p.highs.now) letter ∙ values-after _ c.if-self-ne0.false c.if-place-eq0.false (ltb-true _ _ (sym c.in-Some.ensures.lookup.0))))
