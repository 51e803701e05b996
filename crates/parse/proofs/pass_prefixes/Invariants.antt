-- `parse::pass_prefixes` meets its contract: before each turn the tokens up to the loop's number are prefixes.
use lib.ListN.{length}
use Rattle.parse.specs.Numbered.{tokens_from}
use Rattle.parse.specs.Prefixes.{Passes}
use Rattle.parse.proofs.pass_prefixes.Given as goal

abbrev pub invariant-loop-token : goal.invariant-loop-token
invariant-loop-token l = Passes (tokens_from l.text l.origin l.token_starts) l.at l.firsts l.number l.inside

abbrev pub decreases-loop-token : goal.decreases-loop-token
decreases-loop-token l = length (tokens_from l.text l.origin l.token_starts l.number)
