-- The turns are counted down.
use Rattle.replay.proofs.play.Given as goal

abbrev pub decreases-loop-left : goal.decreases-loop-left
decreases-loop-left g l = l.left
