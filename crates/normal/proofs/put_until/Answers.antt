-- `normal::put_until` meets its contract: the line's own row, and two rows one after the other (Writing).
use Rattle.normal.proofs.Writing.{until-stored}
use Rattle.normal.proofs.put_until.Goals as goal

pub returns : goal.returns
returns c =
    let s = c in
    until-stored s.args.table.now s.args.own s.args.row s.args.stream s.args.left s.args.right s.args.added
    c.put_row.ensures c.put_equation.ensures c.put_equation-2.ensures
