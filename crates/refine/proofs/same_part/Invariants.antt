-- `refine::same_part` meets its contract: the first `a` classes are the same.
use Rattle.std.proofs.Common.{ℕ, ◌≡◌, ◌<◌}
use Rattle.refine.specs.Signatures.{class_after}
use Rattle.refine.proofs.same_part.Given as goal

abbrev pub invariant-loop-a : goal.invariant-loop-a
invariant-loop-a l = (b : ℕ) → b < l.a → class_after l.entries l.class l.p b ≡ class_after l.entries l.class l.q b
