-- `chains::find` meets its contract. The loop goes along one chain: every row that holds the key is below the row that the loop has come to.
use lib.ListN.{length}
use Rattle.key_chains.specs.Chains.{ChainLeft}
use Rattle.explore.specs.Chains.{row_at, bucket_of}
use Rattle.explore.proofs.chains.find.Given as goal

abbrev pub invariant-loop-j : goal.invariant-loop-j
invariant-loop-j l = ChainLeft (bucket_of (length l.heads)) (row_at l.keys) l.n l.key l.j

abbrev pub decreases-loop-j : goal.decreases-loop-j
decreases-loop-j l = l.j
