-- The nodes are counted up to 1,024.
use Rattle.std.proofs.Common.{◌-◌}
use Rattle.parse_vectors.proofs.print_nodes.Given as goal

abbrev pub decreases-loop-i : goal.decreases-loop-i
decreases-loop-i g l = 1024 - l.i
