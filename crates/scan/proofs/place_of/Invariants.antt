-- `scan::place_of` meets its contract: the tokens before the loop's place are other tokens.
use Prim.Native.Nat.{◌+◌, ◌≤◌, ◌-◌}
use mathlib.Core.Path.{◌≡◌}
use lib.ListN.{length, drop}
use Rattle.text.specs.Bytes.{tokens}
use Rattle.sheet.specs.Vocabulary.{name_place}
use Rattle.scan.proofs.place_of.Given as goal

abbrev pub invariant-loop-at : goal.invariant-loop-at
invariant-loop-at l = (l.count ≤ l.at) × (l.at ≤ length l.names) × (l.count + name_place (tokens (drop l.at l.names)) l.name ≡ name_place (tokens l.names) l.name)

abbrev pub decreases-loop-at : goal.decreases-loop-at
decreases-loop-at l = length l.names - l.at
