-- `print::append_name` meets its contract: the name, and then the space.
use Rattle.print.proofs.Append.{appends_then}
use Rattle.print.proofs.append_name.Goals as goal

pub returns : goal.returns
returns c = appends_then c.append_stored-to.ensures c.append_bytes.ensures
