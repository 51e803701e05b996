-- `write_flags` meets its contract: before each turn the flags before the place are right.
use mathlib.Core.Path.{◌≡◌}
use lib.ListN.{length}
use Rattle.pairs.specs.Rows.{HasFlags}
use Rattle.pairs.proofs.write_flags.Given as goal

abbrev pub invariant-loop-row : goal.invariant-loop-row
invariant-loop-row l = (length l.flags ≡ length l.initial.flags) × HasFlags l.left_finals l.right_finals l.keys l.row l.flags
