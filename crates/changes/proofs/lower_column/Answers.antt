-- `changes::lower_column` meets its contract: the places of the values before `value` are lowered (`LowersColumn`).
use mathlib.Core.Path.{◌≡◌, sym, subst}
use Prim.Native.Nat.{ℕ, ◌+◌, ◌*◌, ◌<◌}
use native.Mathlib.Omega.{arith}
use lib.ListN.{length, set}
use Rattle.changes.specs.Passes.{LowersColumn}
use Rattle.changes.proofs.Blocks.{column_start, column_next}
use Rattle.changes.proofs.lower_column.Goals as goal

pub loop-value-init : goal.loop-value-init
loop-value-init c = let a = c.args in (omega arith, column_start a.is_set a.from a.stride a.least a.row.now)

pub overflow_mul-place : goal.overflow_mul-place
overflow_mul-place c =
    let place : let a = c.args in a.from + c.loop-value.value * a.stride < length c.loop-value.row = omega (arith, c.requires.1 c.loop-value.value c.loop-value-test.true, c.loop-value.invariant.1.same_length) in
    omega (arith, place)

pub overflow_add-place : goal.overflow_add-place
overflow_add-place c =
    let place : let a = c.args in a.from + c.loop-value.value * a.stride < length c.loop-value.row = omega (arith, c.requires.1 c.loop-value.value c.loop-value-test.true, c.loop-value.invariant.1.same_length) in
    omega (arith, place)

pub offset_bounds-row-place : goal.offset_bounds-row-place
offset_bounds-row-place c =
    let place : let a = c.args in a.from + c.loop-value.value * a.stride < length c.loop-value.row = omega (arith, c.requires.1 c.loop-value.value c.loop-value-test.true, c.loop-value.invariant.1.same_length) in
    omega (arith, place)

pub bounds-row-place : goal.bounds-row-place
bounds-row-place c =
    let place : let a = c.args in a.from + c.loop-value.value * a.stride < length c.loop-value.row = omega (arith, c.requires.1 c.loop-value.value c.loop-value-test.true, c.loop-value.invariant.1.same_length) in
    place

pub offset_bounds-row-place-in-loop-value : goal.offset_bounds-row-place-in-loop-value
offset_bounds-row-place-in-loop-value c =
    let place : let a = c.args in a.from + c.loop-value.value * a.stride < length c.loop-value.row = omega (arith, c.requires.1 c.loop-value.value c.loop-value-test.true, c.loop-value.invariant.1.same_length) in
    omega (arith, place)

pub bounds-row-place-in-loop-value : goal.bounds-row-place-in-loop-value
bounds-row-place-in-loop-value c =
    let place : let a = c.args in a.from + c.loop-value.value * a.stride < length c.loop-value.row = omega (arith, c.requires.1 c.loop-value.value c.loop-value-test.true, c.loop-value.invariant.1.same_length) in
    place

pub loop-value-preserved : goal.loop-value-preserved
loop-value-preserved c =
    let place : let a = c.args in a.from + c.loop-value.value * a.stride < length c.loop-value.row = omega (arith, c.requires.1 c.loop-value.value c.loop-value-test.true, c.loop-value.invariant.1.same_length) in
    let a = c.args in
    let turn = c.loop-value in
    let at_value = a.from + turn.value * a.stride in (
      omega arith,
      subst (λ (v : ℕ). LowersColumn a.is_set a.from a.stride a.least (turn.value + 1) a.row.now (set turn.row at_value v)) (sym c.lowered.ensures)
          (column_next a.is_set a.from a.stride a.least c.requires.0 (place) turn.invariant.1),
    )

pub returns : goal.returns
returns c =
    let a = c.args in
    let end : c.loop-value.value ≡ a.size = omega arith in
    subst (λ (n : ℕ). LowersColumn a.is_set a.from a.stride a.least n a.row.now c.loop-value.row) end c.loop-value.invariant.1
