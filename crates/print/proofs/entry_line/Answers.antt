-- `print::entry_line` meets its contract: the state, the final byte, the values, the next state and the line's end.
use mathlib.Core.Path.{◌∙◌, ap₂}
use Rattle.print.specs.Text.{entry_line}
use Rattle.print.proofs.Append.{appends_then, appends_same, reached}
use Rattle.print.proofs.Lines.{entry-parts}
use Rattle.print.proofs.entry_line.Goals as goal

pub append_values-next_at-requires : goal.append_values-next_at-requires
append_values-next_at-requires c = reached c.append_count-values_at.ensures

pub returns : goal.returns
returns c =
    let a = c.args in
    appends_same
    (appends_then (appends_then (appends_then (appends_then c.append_count-final_at.ensures c.append_count-values_at.ensures) c.append_values-next_at.ensures) c.append_natural-end.ensures)
    c.append_bytes.ensures)
    (entry-parts a.state c.from.result a.values.now c.from-2.result ∙ ap₂ (λ f n. entry_line a.state f a.values.now n) c.from.ensures c.from-2.ensures)
