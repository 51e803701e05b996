-- `reader::find_firsts` meets its contract: the table is that of the nodes before the loop's place.
use Prim.Native.Nat.{◌≤◌}
use mathlib.Core.Path.{◌≡◌}
use lib.ListN.{length, drop}
use Rattle.reader.specs.FirstNodes.{with_firsts}
use Rattle.reader.proofs.find_firsts.Given as goal

abbrev pub invariant-loop-i : goal.invariant-loop-i
invariant-loop-i l = (l.i ≤ length l.kinds) × (with_firsts 0 l.kinds l.values l.initial.first_nodes ≡ with_firsts l.i (drop l.i l.kinds) (drop l.i l.values) l.first_nodes)
