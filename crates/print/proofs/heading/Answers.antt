-- `print::heading` meets its contract: the first two words, the names and the last word.
use mathlib.Core.Path.{◌∙◌, ap}
use Rattle.print.specs.Text.{heading_line}
use Rattle.print.specs.Lines.{stored_names}
use Rattle.print.proofs.Append.{appends_then, appends_same, reached}
use Rattle.print.proofs.Lines.{heading_parts}
use Rattle.print.proofs.heading.Goals as goal

pub append_names-to-requires : goal.append_names-to-requires
append_names-to-requires c = reached c.append_bytes-from.ensures

pub returns : goal.returns
returns c =
    let names = stored_names c.args.names.now c.args.lengths.now in
    appends_same (appends_then (appends_then c.append_bytes-from.ensures c.append_names-to.ensures) c.append_bytes.ensures)
    (heading_parts (names c.min.result) ∙ ap (λ k. heading_line (names k)) c.min.ensures)
