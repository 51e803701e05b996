-- `refine::split_round` meets its contract. What a turn does to the classes and chains is in `Splitting`.
use Rattle.refine.proofs.Splitting.{Splitting}
use Rattle.refine.proofs.split_round.Given as goal

abbrev pub invariant-loop-row : goal.invariant-loop-row
invariant-loop-row l = Splitting l.letters l.entries l.class l.envelopes l.initial.next l.next l.heads l.links l.changed l.row
