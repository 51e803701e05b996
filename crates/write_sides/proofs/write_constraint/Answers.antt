-- `write_sides::write_constraint` meets its contract: the right side is written behind the left one.
use Prim.Native.Nat.{◌/◌}
use native.Mathlib.Omega.{arith}
use lib.ListN.{length}
use Rattle.nodes.specs.Evaluate.{stored, view}
use Rattle.write_sides.proofs.Sides.{constraint-written}
use Rattle.write_sides.proofs.write_constraint.Goals as goal

pub returns : goal.returns
returns c =
    let s = c in
    constraint-written (stored s.args.kinds.now s.args.values.now s.args.starts.now) (view s.args.window.now s.args.asked.streams s.args.firsts.now s.args.asked.whole) (length s.args.window.now / s.args.asked.streams) s.args.asked.place s.args.roots
    (record { kinds = omega arith; values = omega arith; starts = omega arith }) s.requires c.write_residue-left.ensures c.write_residue-right.ensures
