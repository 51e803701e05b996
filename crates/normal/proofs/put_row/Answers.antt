-- `normal::put_row` meets its contract: seven stores one after the other.
use Prim.Native.Nat.{◌*◌}
use Rattle.normal.proofs.Writing.{seven_stores}
use Rattle.normal.proofs.put_row.Goals as goal

pub returns : goal.returns
returns c =
    let a = c.args in
    seven_stores a.table.now (a.row * 7) a.kind a.relation a.left a.left_added a.right a.right_added a.source
