-- `figure_sums::row_sums` meets its contract: the sums are those over the letters before `next`.
use Rattle.std.proofs.Common.{◌≡◌}
use Rattle.figure_sums.specs.Sums.{row_sum}
use Rattle.figure_sums.proofs.row_sums.Given as goal

abbrev pub invariant-loop-next : goal.invariant-loop-next
invariant-loop-next l = (l.all ≡ row_sum l.row l.counts l.next-index) × (l.ending ≡ row_sum l.row l.final_counts l.next-index)
