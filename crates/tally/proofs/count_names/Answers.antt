-- `tally::count_names` meets its contract: the line goes on behind the chunk, or its end tells whether it has the names (Parts).
use mathlib.Core.Path.{sym, ◌∙◌}
use Rattle.tally.specs.Machine.{counted_sheet}
use Rattle.tally.proofs.Parts.{names_on, names_same, names-differ}
use Rattle.tally.proofs.count_names.Goals as goal

pub returns-then-chunk-at : goal.returns-then-chunk-at
returns-then-chunk-at c =
    let s = c in
    let u = c.run_names-run in
    λ begun lows highs counts. names_on (counted_sheet s.args.names.now s.args.lengths.now lows highs) s.args.chunk.now u.ensures.0 begun s.args.line counts u.ensures.1 s.requires c.if-chunk-at.true c.part_to.ensures

pub returns-then-names_end : goal.returns-then-names_end
returns-then-names_end c =
    let s = c in
    let u = c.run_names-run in
    λ begun lows highs counts.
    names_same (counted_sheet s.args.names.now s.args.lengths.now lows highs) s.args.chunk.now u.ensures.0 begun s.args.line counts u.ensures.1 c.if-chunk-at.false
    (sym c.names_end.ensures ∙ c.if-names_end.true) c.line_start.ensures c.part_to-then-names_end.ensures

pub returns : goal.returns
returns c =
    let s = c in
    let u = c.run_names-run in
    λ begun lows highs counts.
    names-differ (counted_sheet s.args.names.now s.args.lengths.now lows highs) s.args.chunk.now u.ensures.0 begun s.args.line counts u.ensures.1 c.if-chunk-at.false
    (sym c.names_end.ensures ∙ c.if-names_end.false) c.part_to-2.ensures
