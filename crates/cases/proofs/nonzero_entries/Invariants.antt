-- `cases::nonzero_entries` meets its contract: before a place as many are counted as are not 0 (Nonzeros).
use Rattle.cases.proofs.Nonzeros.{CountedTo}
use Rattle.cases.proofs.nonzero_entries.Given as goal

abbrev pub invariant-loop-entry : goal.invariant-loop-entry
invariant-loop-entry l = CountedTo l.table l.entry-index l.count
