-- `cases::nonzero_words` meets its contract: before a place as many are counted as are not 0 (Nonzeros).
use Rattle.cases.proofs.Nonzeros.{CountedTo}
use Rattle.cases.proofs.nonzero_words.Given as goal

abbrev pub invariant-loop-word : goal.invariant-loop-word
invariant-loop-word l = CountedTo l.table l.word-index l.count
