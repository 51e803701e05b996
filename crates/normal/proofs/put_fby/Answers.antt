-- `normal::put_fby` meets its contract: four rows one after the other (Writing).
use Rattle.normal.proofs.Writing.{fby-stored}
use Rattle.normal.proofs.put_fby.Goals as goal

pub returns : goal.returns
returns c =
    let s = c in
    fby-stored s.args.table.now s.args.row s.args.stream s.args.left s.args.right s.args.added
    c.put_equation.ensures c.put_equation-2.ensures c.put_row.ensures c.put_row-2.ensures
