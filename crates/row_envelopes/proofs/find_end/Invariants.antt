-- `row_envelopes::find_end` meets its contract: none of the letters from `last` on leads to a live row.
use Rattle.std.proofs.Common.{ℕ, ◌≤◌, ◌<◌, ◌+◌, get_or}
use Rattle.marks.specs.Marks.{Marked}
use Rattle.row_envelopes.proofs.find_end.Given as goal

abbrev pub invariant-loop-last : goal.invariant-loop-last
invariant-loop-last l = (b : ℕ) → l.last ≤ b → b < l.letters → ¬ Marked l.live (get_or l.entries (l.start + b) 0)
