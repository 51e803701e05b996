-- `spans::constraint` meets its contract.
use Rattle.spans.proofs.Phrases.{behind-word, constraint-found}
use Rattle.spans.proofs.constraint.Goals as goal

pub expression-requires : goal.expression-requires
expression-requires c =
    let at-start = c in
    behind-word at-start.requires c.expression-left.ensures c.next_token-sign.ensures

pub returns : goal.returns
returns c =
    let at-start = c in
    constraint-found at-start.requires c.expression-left.ensures c.next_token-sign.ensures c.expression.ensures
