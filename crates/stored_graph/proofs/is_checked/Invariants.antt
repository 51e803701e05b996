-- `stored_graph::is_checked` meets its contract: the rows before `row` are checked, and `met` rows were met.
use Rattle.stored_graph.specs.Checking.{Checked}
use Rattle.stored_graph.proofs.is_checked.Given as goal

abbrev pub invariant-loop-row : goal.invariant-loop-row
invariant-loop-row l = Checked l.entries l.flags l.letters l.rows l.row 0 l.met
