-- `print::numbers_line` meets its contract: the numbers but the last, each with a space, the last one and the line's end.
use mathlib.Core.Path.{sym, ◌∙◌, ap}
use mathlib.Core.List.{map}
use Rattle.print.specs.Text.{decimal, tokens_line}
use Rattle.print.proofs.Append.{appends_then, appends_same}
use Rattle.print.proofs.Lines.{numbers-parts}
use Rattle.print.proofs.numbers_line.Goals as goal

pub returns : goal.returns
returns c =
    appends_same (appends_then (appends_then c.append_values-to.ensures c.append-end.ensures) c.append_bytes-2.ensures)
    (numbers-parts c.in-Some.others.now c.in-Some.last.now ∙ ap (λ vs. tokens_line (map decimal vs)) (sym c.in-Some.ensures.cases.0))
