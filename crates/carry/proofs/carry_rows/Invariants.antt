-- `carry::carry_rows` meets its contract: before each row the turn of the queue holds.
use Prim.Native.Nat.{◌-◌}
use mathlib.Core.Path.{◌≡◌}
use lib.ListN.{length}
use Rattle.automaton.specs.WellFormed.{most_rows}
use Rattle.carry.specs.Queue.{StoredCarryTurn}
use Rattle.carry.proofs.carry_rows.Given as goal

abbrev pub invariant-loop-head : goal.invariant-loop-head
invariant-loop-head l = (length l.states ≡ length l.initial.states) × (length l.queue ≡ most_rows) × StoredCarryTurn l.letters (length l.initial.states) l.entries l.new_entries l.states l.queue l.count l.head 0

abbrev pub decreases-loop-head : goal.decreases-loop-head
decreases-loop-head l = length l.initial.states - l.head
