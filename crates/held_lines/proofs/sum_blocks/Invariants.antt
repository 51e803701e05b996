-- `held_lines::sum_blocks` meets its contract: before each turn the sum is that of the blocks so far (Sums).
use mathlib.Core.Path.{◌≡◌}
use Rattle.held_lines.specs.Held.{cut_lines, blocks_lines}
use Rattle.held_lines.proofs.sum_blocks.Given as goal

abbrev pub invariant-loop-i : goal.invariant-loop-i
invariant-loop-i l = l.sum ≡ cut_lines (blocks_lines l.counts l.i l.size l.behind l.digit)
