-- `counting::first_counts` meets its contract: the rows before `row` have their counts for no letter (Figures).
use Rattle.std.proofs.Common.{ℕ, ◌≡◌, ◌<◌, get_or}
use mathlib.Core.Bool.{cond}
use Rattle.counting.specs.Counting.{has_final_byte}
use Rattle.counting.proofs.first_counts.Given as goal

abbrev pub invariant-loop-row : goal.invariant-loop-row
invariant-loop-row l = ((j : ℕ) → j < l.row → get_or l.counts j 0 ≡ 1) × ((j : ℕ) → j < l.row → get_or l.final_counts j 0 ≡ cond (has_final_byte l.finals j) 1 0)
