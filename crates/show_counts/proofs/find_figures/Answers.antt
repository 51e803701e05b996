-- `show_counts::find_figures` meets its contract: the refusal of the sheet or of the line, or what counting the used rows gives (Printing, Sizes).
use mathlib.Core.Path.{sym}
use Rattle.opening.proofs.Sizes.{opened-sizes, rows_fit}
use Rattle.show_counts.proofs.Printing.{early_found, counted-found, counted_lack}
use Rattle.show_counts.proofs.find_figures.Goals as goal

pub returns-then-refusal-ne0 : goal.returns-then-refusal-ne0
returns-then-refusal-ne0 c = early_found _ c.args.number _ _ c.open_table-table.ensures c.early_refusal-refusal.ensures c.if-refusal-ne0.true

pub slice_bounds-count_used-end : goal.slice_bounds-count_used-end
slice_bounds-count_used-end c = sym (opened-sizes c.open_table-table.ensures).0

pub slice_bounds-count_used-end-2 : goal.slice_bounds-count_used-end-2
slice_bounds-count_used-end-2 c = sym (opened-sizes c.open_table-table.ensures).1

pub count_used-requires : goal.count_used-requires
count_used-requires c = rows_fit c.open_table-table.ensures

pub returns-then-count_used : goal.returns-then-count_used
returns-then-count_used c =
    let start = c in
    counted-found _ start.args.number _ _ c.open_table-table.ensures c.early_refusal-refusal.ensures c.if-refusal-ne0.false c.unwrap_or-most.ensures start.requires.0 start.requires.1 c.if-count_used.true c.count_used.ensures

pub returns : goal.returns
returns c =
    let start = c in
    counted_lack _ start.args.number _ _ c.open_table-table.ensures c.early_refusal-refusal.ensures c.if-refusal-ne0.false c.unwrap_or-most.ensures start.requires.0 start.requires.1 c.if-count_used.false c.count_used.ensures
