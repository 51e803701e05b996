-- `carry::carry_row` meets its contract: in the row at the head, before each letter, the turn of the queue holds (`RowTurn`).
use Rattle.basics.specs.Lists.{at}
use Rattle.carry.proofs.Rows.{RowTurn}
use Rattle.carry.proofs.carry_row.Given as goal

abbrev pub invariant-loop-letter : goal.invariant-loop-letter
invariant-loop-letter l = RowTurn l.letters l.entries l.new_entries l.head l.initial.states l.initial.queue l.row (at l.initial.states l.row) l.states l.queue l.met l.letter
