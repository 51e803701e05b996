-- `statistics_text::append_known` meets its contract: nothing of a number that is not known, or the line, written to the part from the place on (pages, Placed).
use native.Mathlib.Omega.{arith}
use lib.ListN.{length}
use borrow.Rule.Slice.PartMut.{mid_len}
use Rattle.print.proofs.Append.{appends_nothing, appends_same, reached}
use Rattle.pages.proofs.Placed.{placed-line, no_place}
use Rattle.statistics_text.proofs.Lines.{unknown_line, known-line}
use Rattle.statistics_text.proofs.append_known.Goals as goal

pub returns-then-not-known : goal.returns-then-not-known
returns-then-not-known c = appends_same (appends_nothing c.requires) (unknown_line c.args.word.now c.args.number c.if-not-known.true)

pub returns-then-out-at : goal.returns-then-out-at
returns-then-out-at c = no_place c.args.out.now c.if-out-at.true c.requires

pub named_line-requires : goal.named_line-requires
named_line-requires c = tt

pub overflow_add-result : goal.overflow_add-result
overflow_add-result c =
    let a = c.args in
    omega (arith, reached c.named_line.ensures, c.named_line.auto.out, mid_len a.at (length a.out.now) a.out.now (omega arith), c.if-out-at.false)

pub returns : goal.returns
returns c =
    let a = c.args in
    placed-line a.out.now a.at c.if-out-at.false (appends_same c.named_line.ensures (known-line a.word.now a.number c.if-not-known.false))
