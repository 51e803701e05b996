-- `parse::store_token_starts` meets its contract: the starts below the loop's place are stored, and at the end these are all starts of the
-- line's tokens.
use Rattle.parse.proofs.Filled.{Filled}
use Rattle.parse.proofs.store_token_starts.Given as goal

abbrev pub invariant-loop-i : goal.invariant-loop-i
invariant-loop-i l = Filled l.line l.initial.token_starts l.token_starts l.from l.count l.inside l.i
