-- `replaying::advance` meets its contract: before each turn the bytes so far are played, and a turn plays a part more, to the end of the chunk or
-- until there is no room (Plays).
use Prim.Native.Nat.{◌-◌}
use lib.ListN.{length}
use Rattle.replaying.specs.Machine.{played_sheet, advanced_to, PlaysChunk}
use Rattle.replaying.proofs.advance.Given as goal

abbrev pub invariant-loop-at : goal.invariant-loop-at
invariant-loop-at l = PlaysChunk (played_sheet l.names l.lengths l.lows l.highs l.entries) l.initial.playing l.chunk l.from l.initial.out l.out (advanced_to l.playing l.at l.size)

abbrev pub decreases-loop-at : goal.decreases-loop-at
decreases-loop-at l = length l.chunk - l.at
