-- `normal::write_ends` meets its contract. The invariant: the ends of the ranges of the rows passed stand in the table.
use Prim.Native.Nat.{◌≤◌}
use mathlib.Core.Path.{◌≡◌}
use lib.Seq.{sets}
use Rattle.nodes.specs.Evaluate.{stored}
use Rattle.normal.specs.Stored.{range_before}
use Rattle.normal.specs.Table.{ends_up_to}
use Rattle.normal.proofs.write_ends.Given as goal

abbrev pub invariant-loop-i : goal.invariant-loop-i
invariant-loop-i l = (l.i ≤ l.rows) × (l.ends ≡ sets l.initial.ends 0 (ends_up_to (range_before (stored l.kinds l.values l.starts) l.lows l.highs) l.numbers l.i))
