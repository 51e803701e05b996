-- `chains::hash` meets its contract: what is left of the key, mixed into the number so far, gives the whole key's hash.
use mathlib.Core.Path.{◌≡◌}
use lib.ListN.{drop}
use Rattle.explore.specs.Chains.{hash_from}
use Rattle.explore.proofs.chains.hash.Given as goal

abbrev pub invariant-loop-x : goal.invariant-loop-x
invariant-loop-x l = hash_from l.h (drop l.x-index l.key) ≡ hash_from 0 l.key
