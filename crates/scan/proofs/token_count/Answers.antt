-- `scan::token_count` meets its contract: the tokens counted and those from the loop's place on are all.
use mathlib.Core.Path.{ap}
use native.Mathlib.Omega.{arith}
use lib.ListN.{length}
use Rattle.scan.proofs.Tokens.{token-within, token-empty, token-after, token-tokens}
use Rattle.scan.proofs.token_count.Goals as goal

pub loop-count-init : goal.loop-count-init
loop-count-init c = (omega arith, omega arith, omega arith)

pub returns-then-start-end : goal.returns-then-start-end
returns-then-start-end c = let none = ap length (token-empty c.next_token-start.ensures c.if-start-end.true) in omega arith

pub overflow_add-count : goal.overflow_add-count
overflow_add-count c = let within = token-within c.next_token-start.ensures in let after = token-after c.next_token-start.ensures c.if-start-end.false in omega arith

pub loop-count-smaller : goal.loop-count-smaller
loop-count-smaller c = let within = token-within c.next_token-start.ensures in let after = token-after c.next_token-start.ensures c.if-start-end.false in omega arith

pub loop-count-preserved : goal.loop-count-preserved
loop-count-preserved c =
    let within = token-within c.next_token-start.ensures in
    let after = token-after c.next_token-start.ensures c.if-start-end.false in
    let one = ap length (token-tokens c.next_token-start.ensures c.if-start-end.false) in
    (omega arith, omega arith, omega arith)
