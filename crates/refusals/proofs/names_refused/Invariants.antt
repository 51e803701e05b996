-- `refusals::names_refused` meets its contract: no name before the loop's place is reserved or stands again, so that the rest decides.
use Prim.Native.Nat.{◌≤◌, ◌-◌}
use mathlib.Core.Path.{◌≡◌}
use lib.ListN.{length, drop}
use Rattle.text.specs.Bytes.{tokens}
use Rattle.refusals.specs.Names.{names_refused}
use Rattle.refusals.proofs.names_refused.Given as goal

abbrev pub invariant-loop-at : goal.invariant-loop-at
invariant-loop-at l = (l.at ≤ length l.line) × (names_refused (tokens l.line) ≡ names_refused (tokens (drop l.at l.line)))

abbrev pub decreases-loop-at : goal.decreases-loop-at
decreases-loop-at l = length l.line - l.at
