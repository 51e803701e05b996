-- `scan::partner` meets its contract: up to the loop's place no more brackets are closed than opened.
use Prim.Native.Nat.{◌≤◌, ◌<◌, ◌-◌}
use mathlib.Core.Path.{◌≡◌}
use lib.ListN.{length, drop}
use Rattle.sheet.specs.Refusal.{occurrences}
use Rattle.scan.specs.Place.{between}
use Rattle.scan.proofs.Partners.{NeverMore}
use Rattle.scan.proofs.partner.Given as goal

abbrev pub invariant-loop-i : goal.invariant-loop-i
invariant-loop-i l = (l.at ≤ l.i) × (l.at < length l.text → l.i ≤ length l.text) × (l.opened ≤ l.i - l.at) × (l.closed ≤ l.i - l.at)
    × (l.opened ≡ occurrences 40 (between l.text l.at l.i)) × (l.closed ≡ occurrences 41 (between l.text l.at l.i)) × NeverMore (drop l.at l.text) (l.i - l.at)
