-- `marks::sweep_down` meets its contract: the rows from `row` on are seen.
use Prim.Native.Nat.{ℕ, ◌-◌, ◌≤◌, ◌<◌}
use mathlib.Core.Path.{◌≡◌}
use mathlib.Core.Logic.{◌⊎◌, inl, inr}
use native.Mathlib.Omega.{arith}
use native.Mathlib.Decide.{ℕ_discrete}
use Rattle.marks.proofs.Sweeping.{swept_none, swept_then, swept_seen}
use Rattle.marks.proofs.sweep_down.Goals as goal

-- the rows seen then: this one, and those before
one_more : (row n s : ℕ) → (row - 1 ≤ s) × (s < n) → ((row ≤ s) × (s < n)) ⊎ (s ≡ row - 1)
one_more row n s h = elim (ℕ_discrete s (row - 1)) [ yes q ↦ inr q | no q ↦ inl (omega (arith, h.0), h.1) ]

pub loop-row-init : goal.loop-row-init
loop-row-init c = swept_none c.args.to c.args.marks.now λ s h. omega (arith, h.0, h.1)

pub loop-row-preserved : goal.loop-row-preserved
loop-row-preserved c = swept_then (one_more c.loop-row.row _) c.loop-row.invariant c.turn_row-changed.ensures

pub returns : goal.returns
returns c = swept_seen (λ s h. (omega arith, h)) c.loop-row.invariant
