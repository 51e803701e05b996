-- `normal::put_next` meets its contract: two rows one after the other (Writing).
use Rattle.normal.proofs.Writing.{next-stored}
use Rattle.normal.proofs.put_next.Goals as goal

pub returns : goal.returns
returns c =
    let s = c in
    next-stored s.args.table.now s.args.row s.args.stream s.args.end c.put_equation.ensures c.put_row.ensures
