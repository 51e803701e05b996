-- The streams are counted up to eight.
use Rattle.std.proofs.Common.{◌-◌}
use Rattle.reader_vectors.proofs.print_streams.Given as goal

abbrev pub decreases-loop-i : goal.decreases-loop-i
decreases-loop-i g l = 8 - l.i
