-- `normal::normal_form` meets its contract: the list holds the entries that `fill` reads from the tables of `store_entries`.
use lib.ListN.{length}
use Rattle.normal.proofs.Outcome.{normal_outcome}
use Rattle.normal.proofs.normal_form.Goals as goal

pub returns : goal.returns
returns c = normal_outcome c.args.text.now (length c.args.list.now) c.store_entries.ensures c.fill.ensures
