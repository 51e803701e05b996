-- `stored_graph::check_row` meets its contract: the places of the row before letter `letter` are as in a graph.
use native.Mathlib.Numerals.{add-one}
use Rattle.stored_graph.proofs.check_row.Goals as goal

pub loop-letter-preserved : goal.loop-letter-preserved
loop-letter-preserved c = rw add-one (c.in_ok-met.ensures)
