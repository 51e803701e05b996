-- `changes::lower_stream` meets its contract: the blocks before `start` are lowered (`LowersBlocks`).
use mathlib.Core.Path.{◌≡◌, sym, subst}
use Prim.Native.Nat.{ℕ, suc, ◌+◌, ◌*◌, ◌≤◌, ◌<◌}
use native.Mathlib.Omega.{arith}
use native.Mathlib.Nat.{suc-mul, zero-mul, mul-pos}
use lib.ListN.{length}
use Rattle.changes.specs.Passes.{LowersBlock, LowersBlocks}
use Rattle.changes.proofs.Blocks.{block_inside, block_count, blocks_start, blocks_next}
use Rattle.changes.proofs.lower_stream.Goals as goal

pub overflow_mul-width : goal.overflow_mul-width
overflow_mul-width c =
    let start = c in
    let width = start.args.size * start.args.stride in
    let whole = start.requires.2 in
    omega (arith, block_inside 0 whole.0 width (omega (arith, zero-mul width, whole.1, start.requires.3)), zero-mul width, whole.1)

pub loop-start-init : goal.loop-start-init
loop-start-init c =
    let a = c.args in
    (omega arith, (0, sym (zero-mul (a.size * a.stride)), blocks_start a.is_set a.size a.stride a.row.now))

pub lower_block-requires : goal.lower_block-requires
lower_block-requires c =
    let fits : let a = c.args in c.loop-start.start + a.size * a.stride ≤ length a.row.now = (let start = c in
    let done = c.loop-start.invariant.1 in
    let whole = start.requires.2 in
    let inside = block_inside done.0 whole.0 (start.args.size * start.args.stride) (omega (arith, done.1, whole.1, done.2.same_length)) in
    omega (arith, inside, done.1, whole.1)) in
    (c.requires.0, omega (arith, fits, c.loop-start.invariant.1.2.same_length))

pub overflow_add-start : goal.overflow_add-start
overflow_add-start c =
    let fits : let a = c.args in c.loop-start.start + a.size * a.stride ≤ length a.row.now = (let start = c in
    let done = c.loop-start.invariant.1 in
    let whole = start.requires.2 in
    let inside = block_inside done.0 whole.0 (start.args.size * start.args.stride) (omega (arith, done.1, whole.1, done.2.same_length)) in
    omega (arith, inside, done.1, whole.1)) in
    omega (arith, fits)

pub loop-start-smaller : goal.loop-start-smaller
loop-start-smaller c =
    let fits : let a = c.args in c.loop-start.start + a.size * a.stride ≤ length a.row.now = (let start = c in
    let done = c.loop-start.invariant.1 in
    let whole = start.requires.2 in
    let inside = block_inside done.0 whole.0 (start.args.size * start.args.stride) (omega (arith, done.1, whole.1, done.2.same_length)) in
    omega (arith, inside, done.1, whole.1)) in
    let some : let a = c.args in 0 < a.size * a.stride = mul-pos c.requires.0 c.requires.1 in
    omega (arith, some, fits)

pub loop-start-preserved : goal.loop-start-preserved
loop-start-preserved c =
    let fits : let a = c.args in c.loop-start.start + a.size * a.stride ≤ length a.row.now = (let start = c in
    let done = c.loop-start.invariant.1 in
    let whole = start.requires.2 in
    let inside = block_inside done.0 whole.0 (start.args.size * start.args.stride) (omega (arith, done.1, whole.1, done.2.same_length)) in
    omega (arith, inside, done.1, whole.1)) in
    let a = c.args in
    let turn = c.loop-start in
    let done = turn.invariant.1 in
    let width = a.size * a.stride in (
      fits,
      (
        suc done.0,
        omega (arith, done.1, suc-mul done.0 width),
        blocks_next a.is_set a.size a.stride done.2
            (subst (λ (s : ℕ). LowersBlock a.is_set s a.size a.stride a.stride turn.row c.lower_block.new.row) done.1 c.lower_block.ensures),
      ),
    )

pub returns : goal.returns
returns c n e =
    let start = c in
    let a = start.args in
    let done = c.loop-start.invariant.1 in
    let all : done.0 ≡ n = block_count done.0 n (a.size * a.stride) (mul-pos start.requires.0 start.requires.1) (omega (arith, e, done.1, c.loop-start.invariant.0, done.2.same_length)) in
    subst (λ (m : ℕ). LowersBlocks a.is_set a.size a.stride m a.row.now c.loop-start.row) all done.2
