-- The measure of `bounds::summary_before`: the place where the part ends.
use Rattle.bounds.proofs.+summary_before.Given as goal

abbrev pub decreases-summary_before : goal.decreases-summary_before
decreases-summary_before l = l.end
