-- `find` meets its contract. The loop goes along one chain: every row that holds the key is below the row that the loop has come to.
use lib.ListN.{length}
use Rattle.basics.specs.Lists.{at}
use Rattle.key_chains.specs.Chains.{ChainLeft}
use Rattle.pairs.specs.Rows.{pair_bucket}
use Rattle.pairs.proofs.find.Given as goal

abbrev pub invariant-loop-j : goal.invariant-loop-j
invariant-loop-j l = ChainLeft (pair_bucket (length l.heads)) (at l.keys) l.n l.key l.j

abbrev pub decreases-loop-j : goal.decreases-loop-j
decreases-loop-j l = l.j
