-- The functions that write the residue of a part by recursion end. The measure follows the place where the part ends: twice that place for a part, one
-- less for a node that was told by its kind, since that goes on to parts that end earlier. Before each turn of the loop over `not`s what was written
-- last is negated as often as `not`s are done with.
use Rattle.std.proofs.Common.{◌*◌, ◌-◌}
use Rattle.nodes.specs.Evaluate.{stored}
use Rattle.write_residue.proofs.Answers.{NegatedUpTo}
use Rattle.write_residue.proofs.+write_before_write_conditional_write_moved_write_negations_write_operator.Given as goal

abbrev pub decreases-write_before : goal.decreases-write_before
decreases-write_before l = 2 * l.part.end

abbrev pub decreases-write_conditional : goal.decreases-write_conditional
decreases-write_conditional l = 2 * l.part.end - 1

abbrev pub decreases-write_moved : goal.decreases-write_moved
decreases-write_moved l = 2 * l.part.end - 1

abbrev pub decreases-write_negations : goal.decreases-write_negations
decreases-write_negations l = 2 * l.part.end - 1

abbrev pub decreases-write_operator : goal.decreases-write_operator
decreases-write_operator l = 2 * l.part.end - 1

abbrev pub invariant-write_negations-loop-passed : goal.invariant-write_negations-loop-passed
invariant-write_negations-loop-passed l =
    NegatedUpTo (stored l.initial.new_kinds l.initial.new_values l.initial.new_starts) (stored l.new_kinds l.new_values l.new_starts) l.at l.initial.last l.last (l.fn.part.end - l.inner) (l.fn.part.end - l._passed)
