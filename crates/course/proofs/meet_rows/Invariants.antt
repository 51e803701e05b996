-- `course::meet_rows` meets its contract: before each row the turn of the queue holds (`RowsTurn`).
use Prim.Native.Nat.{◌-◌}
use lib.ListN.{length}
use Rattle.course.proofs.Meeting.{RowsTurn}
use Rattle.course.proofs.meet_rows.Given as goal

abbrev pub invariant-loop-head : goal.invariant-loop-head
invariant-loop-head l = RowsTurn l.letters (length l.initial.layers) l.entries l.start l.layers l.queue l.count l.head

abbrev pub decreases-loop-head : goal.decreases-loop-head
decreases-loop-head l = length l.initial.layers - l.head
