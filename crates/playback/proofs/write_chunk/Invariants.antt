-- Before each turn the bytes before the place are played (Chunk).
use Rattle.std.proofs.Common.{◌-◌, length}
use Rattle.replaying.specs.Machine.{played_sheet}
use Rattle.playback.proofs.Chunk.{PlayedTo}
use Rattle.playback.proofs.write_chunk.Given as goal

abbrev pub invariant-loop-whole : goal.invariant-loop-whole
invariant-loop-whole g l =
    PlayedTo (played_sheet l.names l.lengths l.lows l.highs l.entries) l.initial.playing l.chunk l.initial.out l.out l.playing l.at l.size l.whole

abbrev pub decreases-loop-whole : goal.decreases-loop-whole
decreases-loop-whole g l = length l.chunk - l.at
