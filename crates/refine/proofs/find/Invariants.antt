-- `refine::find` meets its contract: the rows of the chain with the signature of `row` are on what is left of it.
use Rattle.refine.specs.Signatures.{SameSignature}
use Rattle.refine.proofs.Chains.{Searching}
use Rattle.refine.proofs.find.Given as goal

abbrev pub invariant-loop-j : goal.invariant-loop-j
invariant-loop-j l = Searching l.links (λ i. SameSignature l.letters l.entries l.class i l.row) l.head l.row l.j

abbrev pub decreases-loop-j : goal.decreases-loop-j
decreases-loop-j l = l.j
