-- `cases::nonzero_bytes` meets its contract: before a place as many are counted as are not 0 (Nonzeros).
use Rattle.cases.proofs.Nonzeros.{CountedTo}
use Rattle.cases.proofs.nonzero_bytes.Given as goal

abbrev pub invariant-loop-byte : goal.invariant-loop-byte
invariant-loop-byte l = CountedTo l.table l.byte-index l.count
