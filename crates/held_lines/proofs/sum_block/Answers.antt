-- `held_lines::sum_block` meets its contract: before each turn the sum is that of the counts so far (Sums).
use Prim.Native.Nat.{◌+◌}
use native.Mathlib.Omega.{arith}
use mathlib.Core.Path.{◌≡◌, ◌∙◌, ap}
use lib.ListN.{get_or}
use Rattle.held_lines.specs.Held.{cut_lines, block_lines}
use Rattle.held_lines.proofs.Sums.{no_sum, sum_more}
use Rattle.held_lines.proofs.sum_block.Goals as goal

pub loop-i-init : goal.loop-i-init
loop-i-init c = no_sum _

pub overflow_add-from : goal.overflow_add-from
overflow_add-from c = omega (arith, c.requires)

pub loop-i-preserved : goal.loop-i-preserved
loop-i-preserved c =
    let t = c.loop-i in
    let s = c in
    sum_more (λ j. get_or s.args.counts.now (s.args.from + j) 0) t.i c.count_at.result t.invariant (ap cut_lines c.count_at.ensures) c.add_lines-sum.ensures

pub returns : goal.returns
returns c =
    let t = c.loop-i in
    let s = c.args in
    let e : t.i ≡ s.size = omega arith in
    t.invariant ∙ ap (λ n. cut_lines (block_lines s.counts.now s.from n)) e
