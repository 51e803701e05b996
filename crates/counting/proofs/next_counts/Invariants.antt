-- `counting::next_counts` meets its contract: the rows before `row` have their counts for one letter more (Figures).
use Rattle.counting.specs.Figures.{NextCounts}
use Rattle.counting.proofs.next_counts.Given as goal

abbrev pub invariant-loop-row : goal.invariant-loop-row
invariant-loop-row l = NextCounts l.letters l.entries l.counts l.next l.row × NextCounts l.letters l.entries l.final_counts l.final_next l.row
