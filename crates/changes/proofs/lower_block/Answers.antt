-- `changes::lower_block` meets its contract: the columns before `offset` are lowered (`LowersBlock`).
use mathlib.Core.Path.{◌≡◌, subst}
use Prim.Native.Nat.{ℕ, ◌+◌, ◌*◌, ◌<◌}
use native.Mathlib.Omega.{arith}
use lib.Arith.{digits_lt}
use lib.ListN.{length}
use Rattle.changes.specs.Passes.{LowersColumn, LowersBlock}
use Rattle.changes.proofs.Blocks.{block_start, block_next}
use Rattle.changes.proofs.lower_block.Goals as goal

pub loop-offset-init : goal.loop-offset-init
loop-offset-init c = let a = c.args in (omega arith, block_start a.is_set a.start a.size a.stride a.row.now)

pub overflow_add-from : goal.overflow_add-from
overflow_add-from c =
    let column : (d : ℕ) → d < c.args.size
    → c.args.start + c.loop-offset.offset + d * c.args.stride < length c.loop-offset.row = λ d h. (let start = c in
    let inside : d * start.args.stride + c.loop-offset.offset < start.args.size * start.args.stride = digits_lt h c.loop-offset-test.true in
    omega (arith, inside, start.requires.1, c.loop-offset.invariant.1.same_length)) in
    omega (arith, column 0 c.requires.0)

pub column_least-least-requires : goal.column_least-least-requires
column_least-least-requires c =
    let column : (d : ℕ) → d < c.args.size
    → c.args.start + c.loop-offset.offset + d * c.args.stride < length c.loop-offset.row = λ d h. (let start = c in
    let inside : d * start.args.stride + c.loop-offset.offset < start.args.size * start.args.stride = digits_lt h c.loop-offset-test.true in
    omega (arith, inside, start.requires.1, c.loop-offset.invariant.1.same_length)) in
    (c.requires.0, column)

pub lower_column-requires : goal.lower_column-requires
lower_column-requires c =
    let column : (d : ℕ) → d < c.args.size
    → c.args.start + c.loop-offset.offset + d * c.args.stride < length c.loop-offset.row = λ d h. (let start = c in
    let inside : d * start.args.stride + c.loop-offset.offset < start.args.size * start.args.stride = digits_lt h c.loop-offset-test.true in
    omega (arith, inside, start.requires.1, c.loop-offset.invariant.1.same_length)) in
    (omega arith, column)

pub loop-offset-preserved : goal.loop-offset-preserved
loop-offset-preserved c =
    let start = c in
    let a = start.args in
    let turn = c.loop-offset in (
      omega arith,
      block_next a.is_set a.start a.size a.stride start.requires.0 c.loop-offset-test.true turn.invariant.1
          (subst (λ (l : ℕ). LowersColumn a.is_set (a.start + turn.offset) a.stride l a.size turn.row c.lower_column.new.row) c.column_least-least.ensures c.lower_column.ensures),
    )

pub returns : goal.returns
returns c =
    let a = c.args in
    let end : c.loop-offset.offset ≡ a.stride = omega arith in
    subst (λ (n : ℕ). LowersBlock a.is_set a.start a.size a.stride n a.row.now c.loop-offset.row) end c.loop-offset.invariant.1
