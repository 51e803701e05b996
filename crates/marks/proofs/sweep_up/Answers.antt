-- `marks::sweep_up` meets its contract: the rows before `row` are seen.
use Prim.Native.Nat.{ℕ, ◌+◌, ◌<◌}
use mathlib.Core.Path.{◌≡◌}
use mathlib.Core.Logic.{◌⊎◌, inl, inr}
use native.Mathlib.Omega.{arith}
use native.Mathlib.Decide.{ℕ_discrete}
use Rattle.marks.proofs.Sweeping.{swept_none, swept_then}
use Rattle.marks.proofs.sweep_up.Goals as goal

-- the rows seen then: this one, and those before
one_more : (row s : ℕ) → s < row + 1 → (s < row) ⊎ (s ≡ row)
one_more row s h = elim (ℕ_discrete s row) [ yes q ↦ inr q | no q ↦ inl (omega arith) ]

pub loop-row-init : goal.loop-row-init
loop-row-init c = swept_none c.args.to c.args.marks.now λ s h. omega arith

pub loop-row-preserved : goal.loop-row-preserved
loop-row-preserved c = swept_then (one_more c.loop-row.row) c.loop-row.invariant c.turn_row-changed.ensures
