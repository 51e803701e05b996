-- `tally::count_values` meets its contract: before each turn the bytes so far are read; a turn reads one line, or its bytes to the end of the chunk (Parts).
use Prim.Native.Nat.{ℕ, ◌-◌}
use mathlib.Core.Path.{◌≡◌}
use mathlib.Core.List.{List}
use lib.ListN.{length}
use Rattle.tally.specs.Machine.{counted_sheet, counting, tally_at}
use Rattle.tally.specs.declared.TallyStage.TheVariants.{Values}
use Rattle.tally.proofs.Parts.{ReadSoFar}
use Rattle.tally.proofs.count_values.Given as goal

abbrev pub invariant-loop-at : goal.invariant-loop-at
invariant-loop-at l = ((ns ls : List ℕ) → ReadSoFar (counted_sheet ns ls l.lows l.highs) l.chunk (counting (tally_at l.initial.within (Values l.initial.line l.initial.total)) l.initial.counts) l.from l.at (counting (tally_at l.within (Values l.line l.total)) l.counts)) × (length l.counts ≡ length l.initial.counts)

abbrev pub decreases-loop-at : goal.decreases-loop-at
decreases-loop-at l = length l.chunk - l.at
