-- `reader::some_unknown` meets its contract: the nodes before the loop's place are no unknown names, so that the rest decides.
use Prim.Native.Nat.{◌≤◌}
use mathlib.Core.Path.{◌≡◌}
use lib.ListN.{length, drop}
use Rattle.reader.specs.Unknown.{some_unknown}
use Rattle.reader.proofs.some_unknown.Given as goal

abbrev pub invariant-loop-i : goal.invariant-loop-i
invariant-loop-i l = (l.i ≤ length l.kinds) × (some_unknown l.kinds l.values l.streams ≡ some_unknown (drop l.i l.kinds) (drop l.i l.values) l.streams)
