-- `scan::run_end` meets its contract: all bytes from `at` to before the loop's place are inside.
use Prim.Native.Nat.{◌≤◌}
use lib.Dec.{T}
use lib.ListN.{length}
use Rattle.text.specs.Bytes.{is_inside}
use Rattle.text.specs.Token.{all_bytes}
use Rattle.scan.specs.Place.{between}
use Rattle.scan.proofs.run_end.Given as goal

abbrev pub invariant-loop-i : goal.invariant-loop-i
invariant-loop-i l = (l.at ≤ l.i) × (l.i ≤ length l.text) × T (all_bytes is_inside (between l.text l.at l.i))
