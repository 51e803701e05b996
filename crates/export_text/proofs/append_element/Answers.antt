-- `export_text::append_element` meets its contract: a space, the digits and a comma.
use Rattle.print.specs.Text.{digits}
use Rattle.print.proofs.Append.{appends_then, appends_same}
use Rattle.export_text.proofs.Parts.{element-parts}
use Rattle.export_text.proofs.append_element.Goals as goal

pub returns : goal.returns
returns c =
    appends_same (appends_then (appends_then c.append_bytes-value_at.ensures c.append_natural-end.ensures) c.append_bytes.ensures)
    (element-parts (digits c.args.value))
