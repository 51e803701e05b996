-- `print::pair_line` meets its contract: a number and a space, the other number and the line's end.
use Rattle.print.proofs.Append.{appends_then, appends_same}
use Rattle.print.proofs.Lines.{pair_parts}
use Rattle.print.proofs.pair_line.Goals as goal

pub returns : goal.returns
returns c =
    let a = c.args in
    appends_same (appends_then (appends_then c.append_count-to.ensures c.append_natural-end.ensures) c.append_bytes.ensures) (pair_parts a.first a.second)
