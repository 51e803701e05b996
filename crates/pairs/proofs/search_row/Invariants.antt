-- `search_row` meets its contract: before each letter the search stands at the row and the letter (Turns), the tables have the lengths that they had, and
-- the row has its key.
use Prim.Native.Nat.{◌<◌}
use mathlib.Core.Path.{◌≡◌}
use Rattle.basics.specs.Lists.{at}
use Rattle.pairs.specs.Rows.{PairTurn}
use Rattle.pairs.proofs.Turns.{SameLengths}
use Rattle.pairs.proofs.search_row.Given as goal

abbrev pub invariant-loop-a : goal.invariant-loop-a
invariant-loop-a l = (l.s < l.known) × PairTurn l.left l.right l.left_cuts l.right_cuts l.sizes.left_letters l.sizes.right_letters l.sizes.letters l.sizes.limit l.keys l.entries l.heads l.links l.known l.s l.a × SameLengths l.initial.keys l.initial.heads l.initial.links l.initial.entries l.keys l.heads l.links l.entries × (at l.keys l.s ≡ l.key)
