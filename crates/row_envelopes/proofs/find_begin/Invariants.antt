-- `row_envelopes::find_begin` meets its contract: none of the first `a` letters leads to a live row.
use Rattle.std.proofs.Common.{ℕ, ◌<◌, ◌+◌, get_or}
use Rattle.marks.specs.Marks.{Marked}
use Rattle.row_envelopes.proofs.find_begin.Given as goal

abbrev pub invariant-loop-a : goal.invariant-loop-a
invariant-loop-a l = (b : ℕ) → b < l.a → ¬ Marked l.live (get_or l.entries (l.start + b) 0)
