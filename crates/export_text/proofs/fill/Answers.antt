-- `export_text::fill` meets its contract: the lines before the arrays, those of the streams and those of the table (Parts).
use Rattle.print.proofs.Append.{appends_then, appends_same}
use Rattle.export_text.proofs.Parts.{export_parts}
use Rattle.export_text.proofs.fill.Goals as goal

pub returns : goal.returns
returns c =
    let a = c.args in
    appends_same (appends_then (appends_then c.put_counts-streams_at.ensures c.append_described-table_at.ensures) c.append_table.ensures) (export_parts a.streams a.letters a.checksum a.entries.now a.finals.now c.min-count.ensures)
