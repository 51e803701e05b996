-- `export_text::append_row` meets its contract: three spaces, the elements and byte 10.
use Rattle.print.proofs.Append.{appends_then, reached}
use Rattle.export_text.proofs.append_row.Goals as goal

pub append_entry_elements-end-requires : goal.append_entry_elements-end-requires
append_entry_elements-end-requires c = reached c.append_bytes-row_at.ensures

pub returns : goal.returns
returns c = appends_then (appends_then c.append_bytes-row_at.ensures c.append_entry_elements-end.ensures) c.append_bytes.ensures
