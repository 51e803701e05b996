-- `write_residue::past_negations` meets its contract: what is passed are `not`s. The measure is what is left before the place.
use Rattle.write_residue.specs.Wrote.{PassesNegations}
use Rattle.write_residue.proofs.past_negations.Given as goal

abbrev pub invariant-loop-i : goal.invariant-loop-i
invariant-loop-i l = PassesNegations l.kinds l.end l.i
