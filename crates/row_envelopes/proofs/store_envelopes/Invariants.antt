-- `row_envelopes::store_envelopes` meets its contract: the first `row` rows have their envelopes.
use Rattle.row_envelopes.specs.Envelopes.{Enveloped}
use Rattle.row_envelopes.proofs.store_envelopes.Given as goal

abbrev pub invariant-loop-row : goal.invariant-loop-row
invariant-loop-row l = Enveloped l.letters l.entries l.live l.envelopes l.row
