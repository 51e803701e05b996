-- `parse::token_at` meets its contract: the stored start is the token's place in the text, and what is found there is the token.
use native.Mathlib.Omega.{arith}
use Rattle.parse.proofs.Numbers.{none-numbered, token-numbered}
use Rattle.parse.proofs.token_at.Goals as goal

pub returns-then-token_starts-at : goal.returns-then-token_starts-at
returns-then-token_starts-at c = let a = c.args in none-numbered a.text.now a.origin a.token_starts.now a.at c.if-token_starts-at.true

pub overflow_sub-token_starts : goal.overflow_sub-token_starts
overflow_sub-token_starts c = let start = c in start.requires.within start.args.at (omega arith) c.if-token_starts-at.false

pub returns : goal.returns
returns c =
    let start = c in
    let a = start.args in
    token-numbered a.text.now a.origin a.token_starts.now a.at start.requires c.if-token_starts-at.false c.next_token-token.ensures
