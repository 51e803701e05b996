-- `print::refusal_line` meets its contract: the word, the number and the line's end.
use mathlib.Core.Path.{◌∙◌, ap}
use Rattle.print.specs.Text.{refusal_line}
use Rattle.print.proofs.Append.{appends_then, appends_same}
use Rattle.print.proofs.Lines.{refusal-parts}
use Rattle.print.proofs.refusal_line.Goals as goal

pub returns : goal.returns
returns c = appends_same (appends_then (appends_then c.append_bytes-to.ensures c.append_natural-end.ensures) c.append_bytes.ensures) (refusal-parts c.from.result ∙ ap refusal_line c.from.ensures)
