-- `stored_graph::check_row` meets its contract: the places of the row before letter `letter` are as in a graph.
use Rattle.std.proofs.Common.{◌<◌}
use Rattle.stored_graph.specs.Checking.{Checked}
use Rattle.stored_graph.proofs.check_row.Given as goal

abbrev pub invariant-loop-letter : goal.invariant-loop-letter
invariant-loop-letter l = (l.row < l.met) × Checked l.entries l.flags l.letters l.rows l.row l.letter l.met
