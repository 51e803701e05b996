-- `migration_text::fill_lines` meets its contract: before each line those of the states so far stand there (Text).
use Prim.Native.Nat.{◌-◌}
use lib.ListN.{length}
use Rattle.migration_text.proofs.Text.{Writing}
use Rattle.migration_text.proofs.fill_lines.Given as goal

abbrev pub invariant-loop-old : goal.invariant-loop-old
invariant-loop-old l = Writing l.states l.start l.initial.out l.out l.at l.old

abbrev pub decreases-loop-old : goal.decreases-loop-old
decreases-loop-old l = length l.states - l.old
