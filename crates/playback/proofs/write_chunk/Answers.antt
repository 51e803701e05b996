-- One part more is played and handed to a write (Chunk).
use Rattle.playback.proofs.Chunk.{played-more}
use Rattle.playback.proofs.write_chunk.Goals as goal

pub loop-whole-preserved : goal.loop-whole-preserved
loop-whole-preserved g c =
    played-more _ _ _ _ c.loop-whole.invariant c.loop-whole-test.true c.if-chunk-at.false c.advance-advanced.ensures c.write_front-handed.ensures.hands c.add_size-size.ensures
