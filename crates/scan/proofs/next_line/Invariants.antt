-- `scan::next_line` meets its contract: no byte before the loop's place ends a line.
use Prim.Native.Nat.{◌≤◌, ◌<◌}
use lib.Dec.{T}
use lib.ListN.{length}
use Rattle.text.specs.Token.{all_bytes}
use Rattle.text.proofs.Bytes.{is_of_line}
use Rattle.scan.specs.Place.{between}
use Rattle.scan.proofs.next_line.Given as goal

abbrev pub invariant-loop-i : goal.invariant-loop-i
invariant-loop-i l = (l.at ≤ l.i) × (l.at < length l.text → l.i ≤ length l.text) × T (all_bytes is_of_line (between l.text l.at l.i))
