-- `scan::token_count` meets its contract: the tokens counted and those from the loop's place on are all.
use Prim.Native.Nat.{◌+◌, ◌≤◌, ◌-◌}
use mathlib.Core.Path.{◌≡◌}
use lib.ListN.{length, drop}
use Rattle.text.specs.Bytes.{tokens}
use Rattle.scan.proofs.token_count.Given as goal

abbrev pub invariant-loop-count : goal.invariant-loop-count
invariant-loop-count l = (l.count ≤ l.at) × (l.at ≤ length l.text) × (l.count + length (tokens (drop l.at l.text)) ≡ length (tokens l.text))

abbrev pub decreases-loop-count : goal.decreases-loop-count
decreases-loop-count l = length l.text - l.at
