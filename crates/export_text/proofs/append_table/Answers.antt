-- `export_text::append_table` meets its contract: the rows, the final bytes and the end (Parts).
use lib.ListN.{length}
use Rattle.print.proofs.Append.{appends_then, appends_same, reached}
use Rattle.export_text.proofs.Parts.{table-parts}
use Rattle.export_text.proofs.append_table.Goals as goal

pub append_rows-rows_end-requires : goal.append_rows-rows_end-requires
append_rows-rows_end-requires c = reached c.append_bytes-rows_at.ensures

pub append_elements-finals_end-requires : goal.append_elements-finals_end-requires
append_elements-finals_end-requires c = reached c.append_bytes-finals_at.ensures

pub returns : goal.returns
returns c =
    let a = c.args in
    appends_same (appends_then (appends_then (appends_then (appends_then c.append_bytes-rows_at.ensures c.append_rows-rows_end.ensures) c.append_bytes-finals_at.ensures) c.append_elements-finals_end.ensures) c.append_bytes.ensures) (table-parts a.letters (length a.finals.now) a.entries.now a.finals.now)
