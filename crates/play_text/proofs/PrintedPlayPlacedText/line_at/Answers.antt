-- `play_text::PrintedPlay::line_at` meets its contract, by the cases of a refusal's number and of the place (pages, Refused; Output).
use mathlib.Core.Path.{refl}
use Rattle.print.proofs.Append.{appends_same}
use Rattle.pages.proofs.Lines.{appended-line, empty-line}
use Rattle.pages.proofs.Refused.{refusal-first, nothing-after, first-given}
use Rattle.play_text.specs.Output.{printout_of_play}
use Rattle.play_text.proofs.Output.{held_after}
use Rattle.play_text.proofs.PrintedPlayPlacedText.line_at.Goals as goal

pub returns-then-place-ne0 : goal.returns-then-place-ne0
returns-then-place-ne0 c = empty-line (nothing-after _ _ c.if-table-ne0.true c.if-place-ne0.true)

pub returns-then-table-ne0 : goal.returns-then-table-ne0
returns-then-table-ne0 c = appended-line refl (appends_same c.refusal_line.ensures (refusal-first _ _ c.if-table-ne0.true c.if-place-ne0.false))

pub returns-then-place-eq0 : goal.returns-then-place-eq0
returns-then-place-eq0 c = appended-line refl (appends_same c.heading.ensures (first-given _ _ c.if-table-ne0.false c.if-place-eq0.true))

pub returns : goal.returns
returns c =
    let p = c.args.self.now in
    appended-line refl (appends_same c.held_line.ensures (held_after (printout_of_play p) c.if-table-ne0.false c.if-place-eq0.false))
