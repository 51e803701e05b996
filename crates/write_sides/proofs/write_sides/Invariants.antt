-- `write_sides::write_sides` meets its contract. The loop's invariant: the sides of the constraints passed are written before the place `at`, which is as
-- far as their nodes go. The measure is what is left of the constraints.
use Prim.Native.Nat.{◌/◌}
use lib.ListN.{length}
use Rattle.nodes.specs.Evaluate.{stored, view}
use Rattle.write_sides.proofs.Sides.{UpTo}
use Rattle.write_sides.proofs.write_sides.Given as goal

abbrev pub invariant-loop-j : goal.invariant-loop-j
invariant-loop-j l = UpTo (stored l.kinds l.values l.starts) (view l.window l.asked.streams l.firsts l.asked.whole) (length l.window / l.asked.streams) l.asked.place l.lefts l.rights l.count
    (stored l.new_kinds l.new_values l.new_starts) l.new_lefts l.new_rights l.at l.j
