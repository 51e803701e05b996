-- `pages::Table::line_at` meets its contract, by the cases of a refusal's number and of the place (Refused).
use mathlib.Core.Path.{refl}
use Rattle.print.proofs.Append.{appends_same}
use Rattle.pages.proofs.Lines.{appended-line, empty-line}
use Rattle.pages.proofs.Refused.{refusal-first, nothing-after, first-given, later-given}
use Rattle.pages.proofs.TablePlacedText.line_at.Goals as goal

pub returns-then-place-ne0 : goal.returns-then-place-ne0
returns-then-place-ne0 c = empty-line (nothing-after _ _ c.if-self-ne0.true c.if-place-ne0.true)

pub returns-then-self-ne0 : goal.returns-then-self-ne0
returns-then-self-ne0 c = appended-line refl (appends_same c.refusal_line.ensures (refusal-first _ _ c.if-self-ne0.true c.if-place-ne0.false))

pub returns-then-place-eq0 : goal.returns-then-place-eq0
returns-then-place-eq0 c = appended-line refl (appends_same c.heading.ensures (first-given _ _ c.if-self-ne0.false c.if-place-eq0.true))

pub returns : goal.returns
returns c = appended-line refl (appends_same c.entry_text.ensures (later-given _ _ c.if-self-ne0.false c.if-place-eq0.false))
