-- `scan::skip_between` meets its contract: the tokens from the loop's place on stay those from `at` on.
use Prim.Native.Nat.{◌≤◌}
use mathlib.Core.Path.{◌≡◌}
use lib.ListN.{drop}
use Rattle.text.specs.Bytes.{tokens}
use Rattle.scan.proofs.skip_between.Given as goal

abbrev pub invariant-loop-i : goal.invariant-loop-i
invariant-loop-i l = (l.at ≤ l.i) × (tokens (drop l.at l.text) ≡ tokens (drop l.i l.text))
