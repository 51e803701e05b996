-- `held_lines::sum_blocks` meets its contract: before each turn the sum is that of the blocks so far (Sums).
use Prim.Native.Nat.{◌+◌, ◌*◌, ◌≤◌}
use native.Mathlib.Omega.{arith}
use mathlib.Core.Path.{◌≡◌, ◌∙◌, ap}
use Rattle.held_lines.specs.Held.{cut_lines, block_lines, blocks_lines}
use Rattle.held_lines.proofs.Sums.{no_sum, sum_more, first_fits}
use Rattle.held_lines.proofs.sum_blocks.Goals as goal

pub loop-i-init : goal.loop-i-init
loop-i-init c = no_sum _

-- The first letter of a block is a number of the machine.
fits : (c : goal.In-loop-i) → (c.loop-i.i * c.args.size ≤ 1050625)
    × (c.loop-i.i * c.args.size + c.args.digit ≤ 4296017920)
    × ((c.loop-i.i * c.args.size + c.args.digit) * c.args.behind ≤ 4403418368000)
fits c = first_fits c.loop-i.i c.args.size c.args.behind c.args.digit (omega arith) c.requires.1 c.requires.2 (omega arith)

pub overflow_mul-from : goal.overflow_mul-from
overflow_mul-from c = omega (arith, (fits c).0)

pub overflow_add-from : goal.overflow_add-from
overflow_add-from c = omega (arith, (fits c).1)

pub overflow_mul-from-in-loop-i : goal.overflow_mul-from-in-loop-i
overflow_mul-from-in-loop-i c = omega (arith, (fits c).2)

pub sum_block-requires : goal.sum_block-requires
sum_block-requires c = omega (arith, (fits c).2, c.requires.2)

pub loop-i-preserved : goal.loop-i-preserved
loop-i-preserved c =
    let t = c.loop-i in
    let s = c.args in
    sum_more (λ i. block_lines s.counts.now ((i * s.size + s.digit) * s.behind) s.behind) t.i c.sum_block.result t.invariant (omega (arith, c.sum_block.ensures)) c.add_lines-sum.ensures

pub returns : goal.returns
returns c =
    let t = c.loop-i in
    let s = c.args in
    let e : t.i ≡ s.before = omega arith in
    t.invariant ∙ ap (λ n. cut_lines (blocks_lines s.counts.now n s.size s.behind s.digit)) e
