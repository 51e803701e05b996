-- `refine::hash_part` meets its contract: `h` is the hash of the classes before `entry`.
use Rattle.std.proofs.Common.{◌≡◌, ◌<◌}
use Rattle.refine.specs.Signatures.{class_after, hash}
use Rattle.refine.proofs.hash_part.Given as goal

abbrev pub invariant-loop-entry : goal.invariant-loop-entry
invariant-loop-entry l = (l.h < 4294967296) × (l.h ≡ hash (class_after l.entries l.class l.start) l.first l.entry-index)
