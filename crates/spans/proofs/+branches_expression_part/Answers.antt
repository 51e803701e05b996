-- `spans::part`, `spans::expression` and `spans::branches` meet their contracts: each way that they go stores what Phrases says of it.
use mathlib.Core.Path.{sym, ◌∙◌}
use Rattle.vocabulary.proofs.Codes.{no_prefix, no_operator}
use Rattle.spans.proofs.Phrases.{part_none, part-prefix, part_bracket, part_leaf, expression_conditional, expression_alone, expression_operation, branches_found, a-prefix, an_operator}
use Rattle.spans.proofs.+branches_expression_part.Goals as goal

pub branches-returns : goal.branches-returns
branches-returns t c = branches_found c.requires c.part-condition.ensures c.next_token-then.ensures c.part-branch.ensures c.next_token-other.ensures c.part.ensures

pub expression-returns-then-is_if : goal.expression-returns-then-is_if
expression-returns-then-is_if t c = rw c.put.ensures.0 (expression_conditional c.requires c.next_token-start.ensures (sym c.is_if.ensures ∙ c.if-is_if.true) c.branches-inside.ensures c.put.ensures.1)

pub expression-returns-then-operator_code : goal.expression-returns-then-operator_code
expression-returns-then-operator_code t c =
    expression_alone c.requires c.next_token-start.ensures (sym c.is_if.ensures ∙ c.if-is_if.false) c.part-left.ensures c.next_token-sign.ensures (no_operator _ c.operator_code.ensures c.if-operator_code.true)

pub expression-returns : goal.expression-returns
expression-returns t c =
    rw c.put-2.ensures.0 (expression_operation c.requires c.next_token-start.ensures (sym c.is_if.ensures ∙ c.if-is_if.false) c.part-left.ensures c.next_token-sign.ensures (an_operator _ c.operator_code.ensures c.if-operator_code.false).1 c.part-right.ensures c.put-2.ensures.1)

pub part-returns-then-start-end : goal.part-returns-then-start-end
part-returns-then-start-end t c = part_none c.requires c.next_token-start.ensures c.args.spans.now c.if-start-end.true

pub part-returns-then-kind : goal.part-returns-then-kind
part-returns-then-kind t c = rw c.put.ensures.0 (part-prefix c.requires c.next_token-start.ensures c.if-start-end.false (a-prefix _ c.prefix_code-kind.ensures c.if-kind.true).1 c.part-inner.ensures c.put.ensures.1)

pub part-returns-then-is_opening : goal.part-returns-then-is_opening
part-returns-then-is_opening t c =
    part_bracket c.requires c.next_token-start.ensures c.if-start-end.false (no_prefix _ c.prefix_code-kind.ensures c.if-kind.false) (sym c.is_opening.ensures ∙ c.if-is_opening.true) c.expression-inner.ensures c.next_token-close.ensures

pub part-returns : goal.part-returns
part-returns t c =
    rw c.put-2.ensures.0 (part_leaf c.requires c.next_token-start.ensures c.if-start-end.false (no_prefix _ c.prefix_code-kind.ensures c.if-kind.false) (sym c.is_opening.ensures ∙ c.if-is_opening.false) c.put-2.ensures.1)
