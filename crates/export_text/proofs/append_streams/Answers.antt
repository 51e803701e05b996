-- `export_text::append_streams` meets its contract: the arrays of the names, the lowest and highest values and the kinds (Parts).
use Rattle.print.specs.Lines.{stored_names}
use Rattle.print.proofs.Append.{appends_then, appends_same, reached}
use Rattle.export_text.proofs.Parts.{streams-parts}
use Rattle.export_text.proofs.append_streams.Goals as goal

pub append_name_elements-names_end-requires : goal.append_name_elements-names_end-requires
append_name_elements-names_end-requires c = reached c.append_bytes-names_at.ensures

pub append_elements-lows_end-requires : goal.append_elements-lows_end-requires
append_elements-lows_end-requires c = reached c.append_bytes-lows_at.ensures

pub append_elements-highs_end-requires : goal.append_elements-highs_end-requires
append_elements-highs_end-requires c = reached c.append_bytes-highs_at.ensures

pub append_elements-kinds_end-requires : goal.append_elements-kinds_end-requires
append_elements-kinds_end-requires c = reached c.append_bytes-kinds_at.ensures

pub returns : goal.returns
returns c =
    let a = c.args in
    appends_same (appends_then (appends_then (appends_then (appends_then (appends_then (appends_then (appends_then (appends_then c.append_bytes-names_at.ensures c.append_name_elements-names_end.ensures) c.append_bytes-lows_at.ensures) c.append_elements-lows_end.ensures) c.append_bytes-highs_at.ensures) c.append_elements-highs_end.ensures) c.append_bytes-kinds_at.ensures) c.append_elements-kinds_end.ensures) c.append_bytes.ensures) (streams-parts (stored_names a.names.now a.lengths.now a.count) a.lows.now a.highs.now a.kinds.now)
