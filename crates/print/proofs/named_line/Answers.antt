-- `print::named_line` meets its contract: the name and a space, the numbers, the count and the line's end.
use Rattle.print.proofs.Append.{appends_then, appends_same, reached}
use Rattle.print.proofs.Lines.{named-parts}
use Rattle.print.proofs.named_line.Goals as goal

pub append_values-count_at-requires : goal.append_values-count_at-requires
append_values-count_at-requires c = reached c.append_bytes-values_at.ensures

pub returns : goal.returns
returns c =
    let a = c.args in
    appends_same
    (appends_then (appends_then (appends_then (appends_then c.append_bytes-name_end.ensures c.append_bytes-values_at.ensures) c.append_values-count_at.ensures) c.append_natural-end.ensures)
    c.append_bytes.ensures)
    (named-parts a.name.now a.values.now a.count)
