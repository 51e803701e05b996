-- `search` meets its contract: before each row the search stands at it (Turns), and the tables have the lengths that they had.
use Prim.Native.Nat.{◌-◌}
use Rattle.pairs.specs.Rows.{PairTurn}
use Rattle.pairs.proofs.Turns.{SameLengths}
use Rattle.pairs.proofs.search.Given as goal

abbrev pub invariant-loop-s : goal.invariant-loop-s
invariant-loop-s l = PairTurn l.left l.right l.left_cuts l.right_cuts l.sizes.left_letters l.sizes.right_letters l.sizes.letters l.sizes.limit l.keys l.entries l.heads l.links l.n l.s 0 × SameLengths l.initial.keys l.initial.heads l.initial.links l.initial.entries l.keys l.heads l.links l.entries

abbrev pub decreases-loop-s : goal.decreases-loop-s
decreases-loop-s l = l.sizes.limit - l.s
