-- `held_lines::sum_block` meets its contract: before each turn the sum is that of the counts so far (Sums).
use mathlib.Core.Path.{◌≡◌}
use Rattle.held_lines.specs.Held.{cut_lines, block_lines}
use Rattle.held_lines.proofs.sum_block.Given as goal

abbrev pub invariant-loop-i : goal.invariant-loop-i
invariant-loop-i l = l.sum ≡ cut_lines (block_lines l.counts l.from l.i)
