-- `tally::last_line` meets its contract: one byte 10 more ends the line (Ends).
use mathlib.Core.Path.{sym, ◌∙◌}
use borrow.Author.Tests.{not-true, not-false}
use Rattle.tally.specs.Machine.{counted_sheet, counting}
use Rattle.tally.proofs.Ends.{no_last_line, last-line-ends}
use Rattle.tally.proofs.last_line.Goals as goal

pub returns-then-not-tally : goal.returns-then-not-tally
returns-then-not-tally c =
    let a = c.args in
    sym (no_last_line (counted_sheet a.names.now a.lengths.now a.lows.now a.highs.now) (counting a.tally a.counts.now) (not-true _ c.if-not-tally.true))

pub returns : goal.returns
returns c =
    let a = c.args in
    c.count_chunk.ensures
    ∙ sym (last-line-ends (counted_sheet a.names.now a.lengths.now a.lows.now a.highs.now) (counting a.tally a.counts.now) (not-false _ c.if-not-tally.false))
