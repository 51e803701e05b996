-- `print::append_count` meets its contract: the digits and then the space.
use Rattle.print.proofs.Append.{appends_then}
use Rattle.print.proofs.append_count.Goals as goal

pub returns : goal.returns
returns c = appends_then c.append_natural-to.ensures c.append_bytes.ensures
