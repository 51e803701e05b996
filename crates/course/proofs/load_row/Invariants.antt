-- `course::load_row` meets its contract: the costs behind the letters before `letter` are stored (`LoadsRow`).
use Prim.Native.Nat.{◌≤◌}
use Rattle.course.specs.Costs.{layered_in, LoadsRow}
use Rattle.course.proofs.load_row.Given as goal

abbrev pub invariant-loop-letter : goal.invariant-loop-letter
invariant-loop-letter l = (l.letter ≤ l.letters) × LoadsRow (layered_in l.letters l.entries l.finals l.layers l.goal) l.row l.letter l.initial.costs l.costs
