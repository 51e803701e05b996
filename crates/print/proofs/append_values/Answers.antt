-- `print::append_values` meets its contract: numbers with nothing before and a space behind each.
use Rattle.print.proofs.Append.{appends_same}
use Rattle.print.proofs.Each.{each_spaced}
use Rattle.print.proofs.append_values.Goals as goal

pub returns : goal.returns
returns c = appends_same c.append_each.ensures (each_spaced c.args.values.now)
