-- `changes::column_least` meets its contract: `least` is the least of the numbers before `value`.
use mathlib.Core.Path.{◌≡◌, ap, ◌∙◌}
use Prim.Native.Nat.{ℕ, ◌+◌, ◌*◌, ◌<◌}
use native.Mathlib.Omega.{arith}
use lib.ListN.{length}
use Rattle.basics.specs.Lists.{at}
use Rattle.changes.specs.Passes.{least_below}
use Rattle.changes.proofs.Passes.{least_below-lower, least_below-kept}
use Rattle.changes.proofs.column_least.Goals as goal
use Rattle.changes.proofs.column_least.Goals.{then-cost-least, else-cost-least}

pub offset_bounds-row-from : goal.offset_bounds-row-from
offset_bounds-row-from c = omega (arith, c.requires.1 0 c.requires.0)

pub bounds-row-from : goal.bounds-row-from
bounds-row-from c = omega (arith, c.requires.1 0 c.requires.0)

pub loop-value-init : goal.loop-value-init
unfolding least_below
loop-value-init c = let a = c.args in
    let e : a.from ≡ a.from + 0 * a.stride = omega arith in
    (omega arith, ap (at a.row.now) e)

pub overflow_mul-cost : goal.overflow_mul-cost
overflow_mul-cost c =
    let place : let a = c.args in a.from + c.loop-value.value * a.stride < length a.row.now = c.requires.1 c.loop-value.value c.loop-value-test.true in
    omega (arith, place)

pub overflow_add-cost : goal.overflow_add-cost
overflow_add-cost c =
    let place : let a = c.args in a.from + c.loop-value.value * a.stride < length a.row.now = c.requires.1 c.loop-value.value c.loop-value-test.true in
    omega (arith, place)

pub offset_bounds-row-from-in-loop-value : goal.offset_bounds-row-from-in-loop-value
offset_bounds-row-from-in-loop-value c =
    let place : let a = c.args in a.from + c.loop-value.value * a.stride < length a.row.now = c.requires.1 c.loop-value.value c.loop-value-test.true in
    omega (arith, place)

pub bounds-row-from-in-loop-value : goal.bounds-row-from-in-loop-value
bounds-row-from-in-loop-value c =
    let place : let a = c.args in a.from + c.loop-value.value * a.stride < length a.row.now = c.requires.1 c.loop-value.value c.loop-value-test.true in
    place

pub loop-value-preserved : goal.loop-value-preserved
loop-value-preserved c =
    let turn = c.loop-value in
    let a = c.args in
    let numbers : ℕ → ℕ = λ d. at a.row.now (a.from + d * a.stride) in
    (omega arith, elim c.if-cost-least.branch [ then-cost-least w ↦ w.least-is ∙ least_below-lower turn.value numbers turn.invariant.1 w.if-cost-least.true | else-cost-least w ↦ w.least-is ∙ least_below-kept turn.value numbers turn.invariant.1 w.if-cost-least.false ])

pub returns : goal.returns
returns c =
    let a = c.args in
    let end : c.loop-value.value ≡ a.size = omega arith in
    c.loop-value.invariant.1 ∙ ap (λ n. least_below n (λ d. at a.row.now (a.from + d * a.stride))) end
