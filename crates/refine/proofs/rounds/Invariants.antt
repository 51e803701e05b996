-- `refine::rounds` meets its contract. Each round that changes something raises classes, which are bounded; the last one shows that
-- the classes are those of the rows that no record tells apart. A turn of the loop has two rounds, and the lists of the classes change
-- places at each.
use lib.ListN.{length}
use Rattle.refine.proofs.Refinement.{slack, Going}
use Rattle.refine.proofs.rounds.Given as goal

abbrev pub invariant-rounds : goal.invariant-rounds
invariant-rounds l = Going l.letters l.entries l.live l.finals l.envelopes l.class l.next l.heads l.links

abbrev pub decreases-rounds : goal.decreases-rounds
decreases-rounds l = slack (length l.live) l.class
