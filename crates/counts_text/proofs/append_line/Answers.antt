-- `counts_text::append_line` meets its contract: the line is written to the part from the place on (pages, Placed).
use native.Mathlib.Omega.{arith}
use mathlib.Core.List.{[], ◌∷◌}
use lib.ListN.{length}
use borrow.Rule.Slice.PartMut.{mid_len}
use Rattle.print.specs.Text.{decimal, tokens_line}
use Rattle.print.proofs.Append.{appends_same, reached}
use Rattle.pages.proofs.Placed.{placed-line, no_place}
use Rattle.counts_text.proofs.Lines.{shown-value}
use Rattle.counts_text.proofs.append_line.Goals as goal

pub returns-then-out-at : goal.returns-then-out-at
returns-then-out-at c = no_place c.args.out.now c.if-out-at.true c.requires

pub overflow_add-result : goal.overflow_add-result
overflow_add-result c =
    let a = c.args in
    omega (arith, reached c.numbers_line.ensures, c.numbers_line.auto.out, mid_len a.at (length a.out.now) a.out.now (omega arith), c.if-out-at.false)

pub returns : goal.returns
returns c =
    let a = c.args in
    let x = shown-value a.letters c.shown.ensures in
    let y = shown-value a.figure c.shown-2.ensures in
    let z = shown-value a.final_figure c.shown-3.ensures in
    placed-line a.out.now a.at c.if-out-at.false (appends_same c.numbers_line.ensures (λ i. tokens_line (decimal (x i) ∷ (decimal (y i) ∷ (decimal (z i) ∷ [])))))
