-- `evaluate::value_before` ends: each call is for a part that ends earlier.
use Rattle.evaluate.proofs.+value_before.Given as goal

abbrev pub decreases-value_before : goal.decreases-value_before
decreases-value_before l = l.end
