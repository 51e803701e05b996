-- `header::read_kinds` meets its contract: the words before the loop's place are kinds, which are stored, and as many words as streams are read.
use Rattle.header.proofs.StreamKinds.{KindsSoFar}
use Rattle.header.proofs.read_kinds.Given as goal

abbrev pub invariant-loop-stream : goal.invariant-loop-stream
invariant-loop-stream l = KindsSoFar l.line l.at l.stream l.count l.stream_kinds
