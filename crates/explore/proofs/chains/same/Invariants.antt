-- `chains::same` meets its contract: before each turn, if `different` is 0 the keys agree at the places passed, and if the keys are equal `different` is 0.
use Prim.Native.Nat.{ℕ, ◌<◌}
use mathlib.Core.Path.{◌≡◌}
use lib.ListN.{get_or}
use Rattle.explore.proofs.chains.same.Given as goal

abbrev pub invariant-loop-i : goal.invariant-loop-i
invariant-loop-i l = (l.different ≡ 0 → (k : ℕ) → k < l.i → get_or l.a k 0 ≡ get_or l.b k 0) × (l.a ≡ l.b → l.different ≡ 0)
