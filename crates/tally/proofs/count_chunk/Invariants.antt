-- `tally::count_chunk` meets its contract: before each turn the bytes so far are read (Parts).
use Prim.Native.Nat.{◌-◌}
use mathlib.Core.Path.{◌≡◌}
use lib.ListN.{length}
use Rattle.tally.specs.Machine.{counted_sheet, counting}
use Rattle.tally.proofs.Parts.{ReadSoFar}
use Rattle.tally.proofs.count_chunk.Given as goal

abbrev pub invariant-loop-at : goal.invariant-loop-at
invariant-loop-at l = ReadSoFar (counted_sheet l.names l.lengths l.lows l.highs) l.chunk (counting l.initial.reading l.initial.counts) 0 l.at (counting l.reading l.counts) × (length l.counts ≡ length l.initial.counts)

abbrev pub decreases-loop-at : goal.decreases-loop-at
decreases-loop-at l = length l.chunk - l.at
