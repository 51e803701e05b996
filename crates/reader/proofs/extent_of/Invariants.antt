-- `reader::extent_of` meets its contract: the extent is that of the sides before the loop's place.
use Prim.Native.Nat.{◌≤◌}
use mathlib.Core.Path.{◌≡◌}
use lib.ListN.{length, drop}
use Rattle.nodes.specs.Evaluate.{stored}
use Rattle.reader.specs.Extent.{no_extent, extent_from}
use Rattle.reader.proofs.extent_of.Given as goal

abbrev pub invariant-loop-i : goal.invariant-loop-i
invariant-loop-i l = (l.i ≤ length l.lefts)
    × (extent_from (stored l.kinds l.values l.starts) l.lows l.highs no_extent l.lefts l.rights ≡ extent_from (stored l.kinds l.values l.starts) l.lows l.highs l.extent (drop l.i l.lefts) (drop l.i l.rights))
