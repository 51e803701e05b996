-- `picked` meets its contract: before each turn the values before the place are picked.
use Prim.Native.Nat.{ℕ, ◌<◌}
use mathlib.Core.Path.{◌≡◌}
use lib.IntN.{pos}
use lib.ListN.{length, get_or}
use Rattle.joined_streams.proofs.picked.Given as goal

abbrev pub invariant-loop-i : goal.invariant-loop-i
invariant-loop-i l = (length l.found ≡ 8) × ((k : ℕ) → k < l.i → get_or l.found k (pos 0) ≡ get_or l.values (get_or l.places k 0) (pos 0))
