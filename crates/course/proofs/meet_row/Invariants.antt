-- `course::meet_row` meets its contract: in the row at the head, before each letter, the turn of the queue holds (`RowTurn`).
use Rattle.course.proofs.Meeting.{RowTurn}
use Rattle.course.proofs.meet_row.Given as goal

abbrev pub invariant-loop-letter : goal.invariant-loop-letter
invariant-loop-letter l = RowTurn l.letters l.entries l.head l.initial.layers l.initial.queue l.row l.next l.layers l.queue l.met l.letter
