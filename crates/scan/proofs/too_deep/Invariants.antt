-- `scan::too_deep` meets its contract: up to the loop's place the line is not too deep, so that the rest decides.
use Prim.Native.Nat.{◌+◌, ◌≤◌}
use mathlib.Core.Path.{◌≡◌}
use lib.ListN.{length, drop}
use Rattle.sheet.specs.Reading.{too_deep_from}
use Rattle.scan.proofs.too_deep.Given as goal

abbrev pub invariant-loop-byte : goal.invariant-loop-byte
invariant-loop-byte l = (l.byte-index ≤ length l.line) × (l.opened ≤ l.byte-index) × (l.closed ≤ l.byte-index) × (l.opened ≤ 32 + l.closed) × (too_deep_from 0 0 l.line ≡ too_deep_from l.opened l.closed (drop l.byte-index l.line))
