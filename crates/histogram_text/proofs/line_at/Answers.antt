-- `histogram_text::line_at` meets its contract, by the cases of a refusal's number and of the place (pages, Refused; Output).
use native.Mathlib.Omega.{arith}
use Rattle.print.proofs.Append.{appends_same}
use Rattle.pages.proofs.Lines.{appended-line, empty-line}
use Rattle.pages.proofs.Refused.{refusal-first, nothing-after, first-given}
use Rattle.histogram_text.specs.Output.{HistogramPrintout}
use Rattle.histogram_text.proofs.Output.{value-place, total-place}
use Rattle.histogram_text.proofs.line_at.Goals as goal

pub returns-then-place-ne0 : goal.returns-then-place-ne0
returns-then-place-ne0 c = empty-line (nothing-after _ _ c.if-refusal-ne0.true c.if-place-ne0.true)

pub returns-then-refusal-ne0 : goal.returns-then-refusal-ne0
returns-then-refusal-ne0 c = appended-line c.requires (appends_same c.refusal_line.ensures (refusal-first _ _ c.if-refusal-ne0.true c.if-place-ne0.false))

pub returns-then-place-eq0 : goal.returns-then-place-eq0
returns-then-place-eq0 c = appended-line c.requires (appends_same c.text.ensures (first-given _ _ c.if-refusal-ne0.false c.if-place-eq0.true))

pub returns-then-stream_count-stream : goal.returns-then-stream_count-stream
returns-then-stream_count-stream c =
    let a = c.args in
    let p : HistogramPrintout = record { refusal = a.refusal; total = a.total; names = a.names.now; lengths = a.lengths.now; lows = a.lows.now; highs = a.highs.now; counts = a.counts.now } in
    appended-line c.requires (appends_same c.named_line.ensures (total-place p c.if-refusal-ne0.false c.if-place-eq0.false c.stream_count.ensures c.if-stream_count-stream.true))

pub value_line-requires : goal.value_line-requires
value_line-requires c = omega (arith, c.stream_count.ensures, c.if-stream_count-stream.false)

pub returns : goal.returns
returns c =
    let a = c.args in
    appended-line c.requires (appends_same (c.value_line.ensures a.refusal a.total) (value-place _ c.if-refusal-ne0.false c.if-place-eq0.false c.stream_count.ensures c.if-stream_count-stream.false))
