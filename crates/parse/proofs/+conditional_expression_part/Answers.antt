-- `parse::part`, `parse::expression` and `parse::conditional` meet their contracts. The measure follows the number of unread tokens: twice that
-- number for a part, one more for an expression and for what stands after `if`, since these begin with a part of the same tokens.
-- What the functions that `conditional` calls ask and give.
use mathlib.Core.Path.{refl, sym, ap, ◌∙◌}
use mathlib.Core.List.{cons≢nil}
use native.Mathlib.Omega.{arith}
use lib.ListN.{length}
use borrow.Author.Tests.{not-true, not-false}
use Rattle.vocabulary.proofs.Codes.{no_prefix}
use Rattle.text.specs.Bytes.{bytes_of, tokens}
use Rattle.parse.specs.Numbered.{tokens_from}
use Rattle.parse.proofs.Numbers.{token-within, token-empty, token-tokens, token-number, placed-later}
use Rattle.parse.proofs.Store.{below_refl, below_trans}
use Rattle.parse.proofs.Readers.{part-empty, word_is, word_number, operator_at}
use Rattle.parse.proofs.Parts.{reading-missing, reading-found, found-placed, number-placed, firsts-inside-most, leaf_reading, open_missing, partner_forward, inside-placed, inside-length, bracket_missing, bracket_longer, closing-stored, bracket_found}
use Rattle.parse.proofs.Prefixes.{passes_later, passes_length, passes_room, passes_missing, passes_front}
use Rattle.parse.proofs.Expressions.{if_reading, part-missing, part-alone, second-missing, second-found, condition-missing, then_missing, then_number, then_fewer, branch_missing, else_missing, else_number, else_fewer, last-missing, last_found}
use Rattle.parse.proofs.+conditional_expression_part.Goals as goal

pub conditional-part-condition-requires : goal.conditional-part-condition-requires
conditional-part-condition-requires t c =
    let at-start = c in
    (omega (arith, at-start.decreases), (at-start.requires.placed, at-start.requires.line_fits))

pub conditional-returns-then-not-condition : goal.conditional-returns-then-not-condition
conditional-returns-then-not-condition t c =
    let at-start = c in
    let at_part = c.part-condition in
    let at-if1 = c.if-not-condition in
    let at-nothing = c.nothing in
    reading-missing at-nothing.ensures (condition-missing (tokens at-start.args.names.now) at-start.args.text.now (tokens_from at-start.args.text.now at-start.args.origin at-start.args.token_starts.now) at-start.args.at (at_part.ensures.missing (not-true at_part.result.ok at-if1.true))) at_part.ensures.kept

pub conditional-token_at-then-requires : goal.conditional-token_at-then-requires
conditional-token_at-then-requires t c =
    let at-start = c in
    let at_part = c.part-condition in
    let at-if1 = c.if-not-condition in
    found-placed at-start.requires.placed (at_part.ensures.found (not-false at_part.result.ok at-if1.false))

pub conditional-slice_bounds-is_then-count : goal.conditional-slice_bounds-is_then-count
conditional-slice_bounds-is_then-count t c =
    let at-token-at = c.token_at-then in
    let within = token-within at-token-at.ensures in omega arith

pub conditional-slice_bounds-is_then-start : goal.conditional-slice_bounds-is_then-start
conditional-slice_bounds-is_then-start t c =
    let at-token-at = c.token_at-then in
    let within = token-within at-token-at.ensures in omega arith

pub conditional-slice_bounds-is_then-end : goal.conditional-slice_bounds-is_then-end
conditional-slice_bounds-is_then-end t c =
    let at-token-at = c.token_at-then in
    let within = token-within at-token-at.ensures in omega arith

pub conditional-returns-then-not-is_then : goal.conditional-returns-then-not-is_then
conditional-returns-then-not-is_then t c =
    let at-start = c in
    let at_part = c.part-condition in
    let at-if1 = c.if-not-condition in
    let at-token-at = c.token_at-then in
    let at-is-then = c.is_then in
    let at-if2 = c.if-not-is_then in
    let at-nothing2 = c.nothing-then-not-is_then in
    reading-missing at-nothing2.ensures (then_missing (tokens at-start.args.names.now) _ _ _ (at_part.ensures.found (not-false at_part.result.ok at-if1.false)) at-token-at.ensures (sym at-is-then.ensures ∙ at-if2.true)) at_part.ensures.kept

pub conditional-part-branch-requires : goal.conditional-part-branch-requires
conditional-part-branch-requires t c =
    let at-start = c in
    let at_part = c.part-condition in
    let at-if1 = c.if-not-condition in
    let at-token-at = c.token_at-then in
    let at-is-then = c.is_then in
    let at-if2 = c.if-not-is_then in
    let condition = (at_part.ensures.found (not-false at_part.result.ok at-if1.false)) in
    let after_then = then_fewer (tokens at-start.args.names.now) _ _ _ condition at-token-at.ensures (sym at-is-then.ensures ∙ at-if2.false) in
    let placed = number-placed (found-placed at-start.requires.placed condition) (then_number (tokens at-start.args.names.now) _ _ _ condition at-token-at.ensures (sym at-is-then.ensures ∙ at-if2.false)) in
    (omega (arith, at-start.decreases, condition.fewer), (placed, record { nodes = omega (arith, at-start.requires.line_fits, condition.room); firsts = omega (arith, at-start.requires.line_fits, condition.room_firsts) }))

pub conditional-returns-then-not-branch : goal.conditional-returns-then-not-branch
conditional-returns-then-not-branch t c =
    let at-start = c in
    let at_part = c.part-condition in
    let at-if1 = c.if-not-condition in
    let at-token-at = c.token_at-then in
    let at-is-then = c.is_then in
    let at-if2 = c.if-not-is_then in
    let at-part2 = c.part-branch in
    let at-if3 = c.if-not-branch in
    let at-nothing3 = c.nothing-then-not-branch in
    reading-missing at-nothing3.ensures (branch_missing (tokens at-start.args.names.now) _ _ _ (at_part.ensures.found (not-false at_part.result.ok at-if1.false)) at-token-at.ensures (sym at-is-then.ensures ∙ at-if2.false) (at-part2.ensures.missing (not-true at-part2.result.ok at-if3.true)))
    (below_trans (omega (arith, (at_part.ensures.found (not-false at_part.result.ok at-if1.false)).stores.nodes)) at-part2.ensures.kept at_part.ensures.kept)

pub conditional-token_at-other-requires : goal.conditional-token_at-other-requires
conditional-token_at-other-requires t c =
    let at-start = c in
    let at_part = c.part-condition in
    let at-if1 = c.if-not-condition in
    let at-token-at = c.token_at-then in
    let at-is-then = c.is_then in
    let at-if2 = c.if-not-is_then in
    let at-part2 = c.part-branch in
    let at-if3 = c.if-not-branch in
    let condition = (at_part.ensures.found (not-false at_part.result.ok at-if1.false)) in
    found-placed (number-placed (found-placed at-start.requires.placed condition) (then_number (tokens at-start.args.names.now) _ _ _ condition at-token-at.ensures (sym at-is-then.ensures ∙ at-if2.false))) (at-part2.ensures.found (not-false at-part2.result.ok at-if3.false))

pub conditional-slice_bounds-is_else-count : goal.conditional-slice_bounds-is_else-count
conditional-slice_bounds-is_else-count t c =
    let at-token-at2 = c.token_at-other in
    let within = token-within at-token-at2.ensures in omega arith

pub conditional-slice_bounds-is_else-start : goal.conditional-slice_bounds-is_else-start
conditional-slice_bounds-is_else-start t c =
    let at-token-at2 = c.token_at-other in
    let within = token-within at-token-at2.ensures in omega arith

pub conditional-slice_bounds-is_else-end : goal.conditional-slice_bounds-is_else-end
conditional-slice_bounds-is_else-end t c =
    let at-token-at2 = c.token_at-other in
    let within = token-within at-token-at2.ensures in omega arith

pub conditional-returns-then-not-is_else : goal.conditional-returns-then-not-is_else
conditional-returns-then-not-is_else t c =
    let at-start = c in
    let at_part = c.part-condition in
    let at-if1 = c.if-not-condition in
    let at-token-at = c.token_at-then in
    let at-is-then = c.is_then in
    let at-if2 = c.if-not-is_then in
    let at-part2 = c.part-branch in
    let at-if3 = c.if-not-branch in
    let at-token-at2 = c.token_at-other in
    let at-is-else = c.is_else in
    let at-if4 = c.if-not-is_else in
    let at-nothing4 = c.nothing-then-not-is_else in
    reading-missing at-nothing4.ensures (else_missing (tokens at-start.args.names.now) _ _ _ (at_part.ensures.found (not-false at_part.result.ok at-if1.false)) at-token-at.ensures (sym at-is-then.ensures ∙ at-if2.false) (at-part2.ensures.found (not-false at-part2.result.ok at-if3.false)) at-token-at2.ensures (sym at-is-else.ensures ∙ at-if4.true))
    (below_trans (omega (arith, (at_part.ensures.found (not-false at_part.result.ok at-if1.false)).stores.nodes)) at-part2.ensures.kept at_part.ensures.kept)

pub conditional-part-last-requires : goal.conditional-part-last-requires
conditional-part-last-requires t c =
    let at-start = c in
    let at_part = c.part-condition in
    let at-if1 = c.if-not-condition in
    let at-token-at = c.token_at-then in
    let at-is-then = c.is_then in
    let at-if2 = c.if-not-is_then in
    let at-part2 = c.part-branch in
    let at-if3 = c.if-not-branch in
    let at-token-at2 = c.token_at-other in
    let at-is-else = c.is_else in
    let at-if4 = c.if-not-is_else in
    let condition = (at_part.ensures.found (not-false at_part.result.ok at-if1.false)) in
    let after_then = then_fewer (tokens at-start.args.names.now) _ _ _ condition at-token-at.ensures (sym at-is-then.ensures ∙ at-if2.false) in
    let branch = (at-part2.ensures.found (not-false at-part2.result.ok at-if3.false)) in
    let after-else = else_fewer (tokens at-start.args.names.now) _ _ _ condition at-token-at.ensures (sym at-is-then.ensures ∙ at-if2.false) branch at-token-at2.ensures (sym at-is-else.ensures ∙ at-if4.false) in
    let then-placed = number-placed (found-placed at-start.requires.placed condition) (then_number (tokens at-start.args.names.now) _ _ _ condition at-token-at.ensures (sym at-is-then.ensures ∙ at-if2.false)) in
    let placed = number-placed (found-placed then-placed branch) (else_number (tokens at-start.args.names.now) _ _ _ condition at-token-at.ensures (sym at-is-then.ensures ∙ at-if2.false) branch at-token-at2.ensures (sym at-is-else.ensures ∙ at-if4.false)) in
    (omega (arith, at-start.decreases, condition.fewer, branch.fewer), (placed, record { nodes = omega (arith, at-start.requires.line_fits, condition.room, branch.room); firsts = omega (arith, at-start.requires.line_fits, condition.room_firsts, branch.room_firsts) }))

pub conditional-returns-then-not-last : goal.conditional-returns-then-not-last
conditional-returns-then-not-last t c =
    let at-start = c in
    let at_part = c.part-condition in
    let at-if1 = c.if-not-condition in
    let at-token-at = c.token_at-then in
    let at-is-then = c.is_then in
    let at-if2 = c.if-not-is_then in
    let at-part2 = c.part-branch in
    let at-if3 = c.if-not-branch in
    let at-token-at2 = c.token_at-other in
    let at-is-else = c.is_else in
    let at-if4 = c.if-not-is_else in
    let at-part3 = c.part-last in
    let at-if5 = c.if-not-last in
    let at-nothing5 = c.nothing-then-not-last in
    reading-missing at-nothing5.ensures (last-missing (tokens at-start.args.names.now) _ _ _ (at_part.ensures.found (not-false at_part.result.ok at-if1.false)) at-token-at.ensures (sym at-is-then.ensures ∙ at-if2.false) (at-part2.ensures.found (not-false at-part2.result.ok at-if3.false)) at-token-at2.ensures (sym at-is-else.ensures ∙ at-if4.false) (at-part3.ensures.missing (not-true at-part3.result.ok at-if5.true)))
    (below_trans (omega (arith, (at_part.ensures.found (not-false at_part.result.ok at-if1.false)).stores.nodes)) (below_trans (omega (arith, (at-part2.ensures.found (not-false at-part2.result.ok at-if3.false)).stores.nodes)) at-part3.ensures.kept at-part2.ensures.kept) at_part.ensures.kept)

pub conditional-put-requires : goal.conditional-put-requires
conditional-put-requires t c =
    let at-start = c in
    let at_part = c.part-condition in
    let at-if1 = c.if-not-condition in
    let at-token-at = c.token_at-then in
    let at-is-then = c.is_then in
    let at-if2 = c.if-not-is_then in
    let at-part2 = c.part-branch in
    let at-if3 = c.if-not-branch in
    let at-token-at2 = c.token_at-other in
    let at-is-else = c.is_else in
    let at-if4 = c.if-not-is_else in
    let at-part3 = c.part-last in
    let at-if5 = c.if-not-last in
    let condition = (at_part.ensures.found (not-false at_part.result.ok at-if1.false)) in
    let after_then = then_fewer (tokens at-start.args.names.now) _ _ _ condition at-token-at.ensures (sym at-is-then.ensures ∙ at-if2.false) in
    let branch = (at-part2.ensures.found (not-false at-part2.result.ok at-if3.false)) in
    let after-else = else_fewer (tokens at-start.args.names.now) _ _ _ condition at-token-at.ensures (sym at-is-then.ensures ∙ at-if2.false) branch at-token-at2.ensures (sym at-is-else.ensures ∙ at-if4.false) in
    let last = (at-part3.ensures.found (not-false at-part3.result.ok at-if5.false)) in
    (omega (arith, at-start.requires.line_fits, condition.room, branch.room, last.room), omega (arith, condition.stores.nodes, branch.stores.nodes, last.stores.nodes))

pub conditional-overflow_add-result : goal.conditional-overflow_add-result
conditional-overflow_add-result t c =
    let at-start = c in
    let at_part = c.part-condition in
    let at-if1 = c.if-not-condition in
    let at-token-at = c.token_at-then in
    let at-is-then = c.is_then in
    let at-if2 = c.if-not-is_then in
    let at-part2 = c.part-branch in
    let at-if3 = c.if-not-branch in
    let at-token-at2 = c.token_at-other in
    let at-is-else = c.is_else in
    let at-if4 = c.if-not-is_else in
    let at-part3 = c.part-last in
    let at-if5 = c.if-not-last in
    let condition = (at_part.ensures.found (not-false at_part.result.ok at-if1.false)) in
    let after_then = then_fewer (tokens at-start.args.names.now) _ _ _ condition at-token-at.ensures (sym at-is-then.ensures ∙ at-if2.false) in
    let branch = (at-part2.ensures.found (not-false at-part2.result.ok at-if3.false)) in
    let after-else = else_fewer (tokens at-start.args.names.now) _ _ _ condition at-token-at.ensures (sym at-is-then.ensures ∙ at-if2.false) branch at-token-at2.ensures (sym at-is-else.ensures ∙ at-if4.false) in
    let last = (at-part3.ensures.found (not-false at-part3.result.ok at-if5.false)) in
    omega (arith, at-start.requires.line_fits, condition.room, branch.room, last.room)

pub conditional-returns : goal.conditional-returns
conditional-returns t c =
    let at-start = c in
    let at_part = c.part-condition in
    let at-if1 = c.if-not-condition in
    let at-token-at = c.token_at-then in
    let at-is-then = c.is_then in
    let at-if2 = c.if-not-is_then in
    let at-part2 = c.part-branch in
    let at-if3 = c.if-not-branch in
    let at-token-at2 = c.token_at-other in
    let at-is-else = c.is_else in
    let at-if4 = c.if-not-is_else in
    let at-part3 = c.part-last in
    let at-if5 = c.if-not-last in
    let at-put = c.put in
    reading-found refl (last_found (tokens at-start.args.names.now) _ _ _ (at_part.ensures.found (not-false at_part.result.ok at-if1.false)) at-token-at.ensures (sym at-is-then.ensures ∙ at-if2.false) (at-part2.ensures.found (not-false at-part2.result.ok at-if3.false)) at-token-at2.ensures (sym at-is-else.ensures ∙ at-if4.false) (at-part3.ensures.found (not-false at-part3.result.ok at-if5.false)) at-put.ensures refl)

pub expression-token_at-token-requires : goal.expression-token_at-token-requires
expression-token_at-token-requires t c =
    let at-start = c in
    at-start.requires.placed

pub expression-slice_bounds-is_if-count : goal.expression-slice_bounds-is_if-count
expression-slice_bounds-is_if-count t c =
    let at-token-at = c.token_at-token in
    let within = token-within at-token-at.ensures in omega arith

pub expression-slice_bounds-is_if-start : goal.expression-slice_bounds-is_if-start
expression-slice_bounds-is_if-start t c =
    let at-token-at = c.token_at-token in
    let within = token-within at-token-at.ensures in omega arith

pub expression-slice_bounds-is_if-end : goal.expression-slice_bounds-is_if-end
expression-slice_bounds-is_if-end t c =
    let at-token-at = c.token_at-token in
    let within = token-within at-token-at.ensures in omega arith

pub expression-conditional-requires : goal.expression-conditional-requires
expression-conditional-requires t c =
    let at-start = c in
    let at-token-at = c.token_at-token in
    let at-is-if = c.is_if in
    let at-if1 = c.if-is_if in
    let first = ap length (word_is (bytes_of "if") at-token-at.ensures (λ z. cons≢nil z) (sym at-is-if.ensures ∙ at-if1.true)) in
    (omega (arith, at-start.decreases), (number-placed at-start.requires.placed (word_number (bytes_of "if") at-token-at.ensures (λ z. cons≢nil z) (sym at-is-if.ensures ∙ at-if1.true)), record { nodes = omega (arith, at-start.requires.line_fits); firsts = omega (arith, at-start.requires.line_fits) }))

pub expression-returns-then-is_if : goal.expression-returns-then-is_if
expression-returns-then-is_if t c =
    let at-start = c in
    let at-token-at = c.token_at-token in
    let at-is-if = c.is_if in
    let at-if1 = c.if-is_if in
    let at-conditional = c.conditional in
    if_reading (tokens at-start.args.names.now) at-start.args.text.now _ _ (word_number (bytes_of "if") at-token-at.ensures (λ z. cons≢nil z) (sym at-is-if.ensures ∙ at-if1.true)) (word_is (bytes_of "if") at-token-at.ensures (λ z. cons≢nil z) (sym at-is-if.ensures ∙ at-if1.true)) at-conditional.ensures

pub expression-part-left-requires : goal.expression-part-left-requires
expression-part-left-requires t c =
    let at-start = c in
    (omega (arith, at-start.decreases), (at-start.requires.placed, at-start.requires.line_fits))

pub expression-returns-then-not-left : goal.expression-returns-then-not-left
expression-returns-then-not-left t c =
    let at-start = c in
    let at-token-at = c.token_at-token in
    let at-is-if = c.is_if in
    let at-if1 = c.if-is_if in
    let at_part = c.part-left in
    let at-if2 = c.if-not-left in
    let at-nothing = c.nothing in
    reading-missing at-nothing.ensures (part-missing (tokens at-start.args.names.now) _ _ _ at-token-at.ensures (sym at-is-if.ensures ∙ at-if1.false) (at_part.ensures.missing (not-true at_part.result.ok at-if2.true))) at_part.ensures.kept

pub expression-token_at-sign-requires : goal.expression-token_at-sign-requires
expression-token_at-sign-requires t c =
    let at-start = c in
    let at_part = c.part-left in
    let at-if2 = c.if-not-left in
    found-placed at-start.requires.placed (at_part.ensures.found (not-false at_part.result.ok at-if2.false))

pub expression-slice_bounds-operator_code-count : goal.expression-slice_bounds-operator_code-count
expression-slice_bounds-operator_code-count t c =
    let at-token-at2 = c.token_at-sign in
    let within = token-within at-token-at2.ensures in omega arith

pub expression-slice_bounds-operator_code-start : goal.expression-slice_bounds-operator_code-start
expression-slice_bounds-operator_code-start t c =
    let at-token-at2 = c.token_at-sign in
    let within = token-within at-token-at2.ensures in omega arith

pub expression-slice_bounds-operator_code-end : goal.expression-slice_bounds-operator_code-end
expression-slice_bounds-operator_code-end t c =
    let at-token-at2 = c.token_at-sign in
    let within = token-within at-token-at2.ensures in omega arith

pub expression-returns-then-kind : goal.expression-returns-then-kind
expression-returns-then-kind t c =
    let at-start = c in
    let at-token-at = c.token_at-token in
    let at-is-if = c.is_if in
    let at-if1 = c.if-is_if in
    let at_part = c.part-left in
    let at-if2 = c.if-not-left in
    let at-token-at2 = c.token_at-sign in
    let at-operator-code = c.operator_code-kind in
    let at-if3 = c.if-kind in
    reading-found (not-false at_part.result.ok at-if2.false) (part-alone (tokens at-start.args.names.now) _ _ _ at-token-at.ensures (sym at-is-if.ensures ∙ at-if1.false) (at_part.ensures.found (not-false at_part.result.ok at-if2.false)) at-token-at2.ensures (sym at-operator-code.ensures ∙ at-if3.true))

pub expression-part-right-requires : goal.expression-part-right-requires
expression-part-right-requires t c =
    let at-start = c in
    let at_part = c.part-left in
    let at-if2 = c.if-not-left in
    let at-token-at2 = c.token_at-sign in
    let at-operator-code = c.operator_code-kind in
    let at-if3 = c.if-kind in
    let left = (at_part.ensures.found (not-false at_part.result.ok at-if2.false)) in
    let sign = operator_at at-token-at2.ensures at-operator-code.ensures at-if3.false in
    let size = ap length sign.first in
    (omega (arith, at-start.decreases, left.fewer), (number-placed (found-placed at-start.requires.placed left) sign.number, record { nodes = omega (arith, at-start.requires.line_fits, left.room); firsts = omega (arith, at-start.requires.line_fits, left.room_firsts) }))

pub expression-returns-then-not-right : goal.expression-returns-then-not-right
expression-returns-then-not-right t c =
    let at-start = c in
    let at-token-at = c.token_at-token in
    let at-is-if = c.is_if in
    let at-if1 = c.if-is_if in
    let at_part = c.part-left in
    let at-if2 = c.if-not-left in
    let at-token-at2 = c.token_at-sign in
    let at-operator-code = c.operator_code-kind in
    let at-if3 = c.if-kind in
    let at-part2 = c.part-right in
    let at-if4 = c.if-not-right in
    let at-nothing2 = c.nothing-then-not-right in
    let left = (at_part.ensures.found (not-false at_part.result.ok at-if2.false)) in
    reading-missing at-nothing2.ensures (second-missing (tokens at-start.args.names.now) _ _ _ at-token-at.ensures (sym at-is-if.ensures ∙ at-if1.false) left at-token-at2.ensures (operator_at at-token-at2.ensures at-operator-code.ensures at-if3.false) (at-part2.ensures.missing (not-true at-part2.result.ok at-if4.true)))
    (below_trans (omega (arith, left.stores.nodes)) at-part2.ensures.kept at_part.ensures.kept)

pub expression-put-requires : goal.expression-put-requires
expression-put-requires t c =
    let at-start = c in
    let at_part = c.part-left in
    let at-if2 = c.if-not-left in
    let at-token-at2 = c.token_at-sign in
    let at-operator-code = c.operator_code-kind in
    let at-if3 = c.if-kind in
    let at-part2 = c.part-right in
    let at-if4 = c.if-not-right in
    let left = (at_part.ensures.found (not-false at_part.result.ok at-if2.false)) in
    let right = at-part2.ensures.found (not-false at-part2.result.ok at-if4.false) in
    let size = ap length (operator_at at-token-at2.ensures at-operator-code.ensures at-if3.false).first in
    (omega (arith, at-start.requires.line_fits, left.room, right.room), omega (arith, left.stores.nodes, right.stores.nodes))

pub expression-overflow_add-result : goal.expression-overflow_add-result
expression-overflow_add-result t c =
    let at-start = c in
    let at_part = c.part-left in
    let at-if2 = c.if-not-left in
    let at-token-at2 = c.token_at-sign in
    let at-operator-code = c.operator_code-kind in
    let at-if3 = c.if-kind in
    let at-part2 = c.part-right in
    let at-if4 = c.if-not-right in
    let left = (at_part.ensures.found (not-false at_part.result.ok at-if2.false)) in
    let right = at-part2.ensures.found (not-false at-part2.result.ok at-if4.false) in
    let size = ap length (operator_at at-token-at2.ensures at-operator-code.ensures at-if3.false).first in
    omega (arith, at-start.requires.line_fits, left.room, right.room)

pub expression-returns : goal.expression-returns
expression-returns t c =
    let at-start = c in
    let at-token-at = c.token_at-token in
    let at-is-if = c.is_if in
    let at-if1 = c.if-is_if in
    let at_part = c.part-left in
    let at-if2 = c.if-not-left in
    let at-token-at2 = c.token_at-sign in
    let at-operator-code = c.operator_code-kind in
    let at-if3 = c.if-kind in
    let at-part2 = c.part-right in
    let at-if4 = c.if-not-right in
    let at-put = c.put in
    reading-found refl (second-found (tokens at-start.args.names.now) _ _ _ at-token-at.ensures (sym at-is-if.ensures ∙ at-if1.false) (at_part.ensures.found (not-false at_part.result.ok at-if2.false)) at-token-at2.ensures (operator_at at-token-at2.ensures at-operator-code.ensures at-if3.false) (at-part2.ensures.found (not-false at-part2.result.ok at-if4.false)) at-put.ensures refl)

pub part-token_at-token-requires : goal.part-token_at-token-requires
part-token_at-token-requires t c =
    let at-start = c in
    at-start.requires.placed

pub part-returns-then-start-end : goal.part-returns-then-start-end
part-returns-then-start-end t c =
    let at-start = c in
    let at-token-at = c.token_at-token in
    let at-if1 = c.if-start-end in
    let at-nothing = c.nothing in
    reading-missing at-nothing.ensures (λ d l. part-empty (tokens at-start.args.names.now) (token-empty at-token-at.ensures at-if1.true) d) (below_refl _ _)

pub part-slice_bounds-word-count : goal.part-slice_bounds-word-count
part-slice_bounds-word-count t c =
    let at-token-at = c.token_at-token in
    let within = token-within at-token-at.ensures in omega arith

pub part-slice_bounds-word-start : goal.part-slice_bounds-word-start
part-slice_bounds-word-start t c =
    let at-token-at = c.token_at-token in
    let within = token-within at-token-at.ensures in omega arith

pub part-slice_bounds-word-end : goal.part-slice_bounds-word-end
part-slice_bounds-word-end t c =
    let at-token-at = c.token_at-token in
    let within = token-within at-token-at.ensures in omega arith

pub part-firsts_inside-inside-requires : goal.part-firsts_inside-inside-requires
part-firsts_inside-inside-requires t c =
    let at-start = c in
    let at-token-at = c.token_at-token in
    let at-if1 = c.if-start-end in
    let first = ap length (token-tokens at-token-at.ensures at-if1.false) in omega (arith, at-start.requires.line_fits)

pub part-pass_prefixes-passed-requires : goal.part-pass_prefixes-passed-requires
part-pass_prefixes-passed-requires t c =
    let at-start = c in
    let at-token-at = c.token_at-token in
    let at-if1 = c.if-start-end in
    let at-prefix-code = c.prefix_code-kind in
    let at-firsts-inside = c.firsts_inside-inside in
    let first = ap length (token-tokens at-token-at.ensures at-if1.false) in
    let most = firsts-inside-most at-prefix-code.result at-start.args.firsts in
    record {
      placed = number-placed at-start.requires.placed (token-number at-token-at.ensures at-if1.false);
      at_bound = omega (arith, at-start.requires.line_fits, at-firsts-inside.ensures);
    }

pub part-part-inner-requires : goal.part-part-inner-requires
part-part-inner-requires t c =
    let at-start = c in
    let at-token-at = c.token_at-token in
    let at-if1 = c.if-start-end in
    let at-prefix-code = c.prefix_code-kind in
    let at-firsts-inside = c.firsts_inside-inside in
    let at-pass-prefixes = c.pass_prefixes-passed in
    let first = ap length (token-tokens at-token-at.ensures at-if1.false) in
    let most = firsts-inside-most at-prefix-code.result at-start.args.firsts in
    let later = passes_later at-pass-prefixes.ensures in
    let left = passes_length at-pass-prefixes.ensures in
    let room = passes_room at-pass-prefixes.ensures in
    let placed = placed-later (number-placed at-start.requires.placed (token-number at-token-at.ensures at-if1.false)) later in
    (omega (arith, at-start.decreases), (placed, record { nodes = omega (arith, at-start.requires.line_fits); firsts = omega (arith, at-start.requires.line_fits, at-firsts-inside.ensures) }))

pub part-returns-then-not-inner : goal.part-returns-then-not-inner
part-returns-then-not-inner t c =
    let at-start = c in
    let at-token-at = c.token_at-token in
    let at-if1 = c.if-start-end in
    let at-prefix-code = c.prefix_code-kind in
    let at-if2 = c.if-kind in
    let at-firsts-inside = c.firsts_inside-inside in
    let at-pass-prefixes = c.pass_prefixes-passed in
    let at_part = c.part-inner in
    let at-if3 = c.if-not-inner in
    let at-nothing2 = c.nothing-then-not-inner in
    let passes = passes_front (token-number at-token-at.ensures at-if1.false) (token-tokens at-token-at.ensures at-if1.false) at-prefix-code.ensures at-if2.true at-firsts-inside.ensures at-pass-prefixes.ensures in
    reading-missing at-nothing2.ensures (passes_missing (tokens at-start.args.names.now) passes (at_part.ensures.missing (not-true at_part.result.ok at-if3.true))) at_part.ensures.kept

pub part-put_prefixes-requires : goal.part-put_prefixes-requires
part-put_prefixes-requires t c =
    let at-start = c in
    let at-token-at = c.token_at-token in
    let at-if1 = c.if-start-end in
    let at-prefix-code = c.prefix_code-kind in
    let at-if2 = c.if-kind in
    let at-firsts-inside = c.firsts_inside-inside in
    let at-pass-prefixes = c.pass_prefixes-passed in
    let at_part = c.part-inner in
    let at-if3 = c.if-not-inner in
    let passes = passes_front (token-number at-token-at.ensures at-if1.false) (token-tokens at-token-at.ensures at-if1.false) at-prefix-code.ensures at-if2.true at-firsts-inside.ensures at-pass-prefixes.ensures in
    let inner = at_part.ensures.found (not-false at_part.result.ok at-if3.false) in
    let left = passes_length passes in
    record {
      placed = at-start.requires.placed;
      passes = passes;
      nodes_le_nodes = (omega (arith, inner.stores.nodes), omega (arith, at-start.requires.line_fits, inner.room), omega (arith, at-start.requires.line_fits));
    }

pub part-returns-then-kind : goal.part-returns-then-kind
part-returns-then-kind t c =
    let at-start = c in
    let at_part = c.part-inner in
    let at-if3 = c.if-not-inner in
    let at-put-prefixes = c.put_prefixes in
    let inner = at_part.ensures.found (not-false at_part.result.ok at-if3.false) in
    reading-found at-put-prefixes.ensures.read (at-put-prefixes.ensures.found (tokens at-start.args.names.now) _ inner)

pub part-leaf-requires : goal.part-leaf-requires
part-leaf-requires t c =
    let at-start = c in
    let at-token-at = c.token_at-token in
    let at-if1 = c.if-start-end in
    let first = ap length (token-tokens at-token-at.ensures at-if1.false) in omega (arith, at-start.requires.line_fits)

pub part-returns-then-not-is_opening : goal.part-returns-then-not-is_opening
part-returns-then-not-is_opening t c =
    let at-start = c in
    let at-token-at = c.token_at-token in
    let at-if1 = c.if-start-end in
    let at-prefix-code = c.prefix_code-kind in
    let at-if2 = c.if-kind in
    let at-is-opening = c.is_opening in
    let at-if4 = c.if-not-is_opening in
    let at_leaf = c.leaf in
    leaf_reading (tokens at-start.args.names.now) _ (token-number at-token-at.ensures at-if1.false) (token-tokens at-token-at.ensures at-if1.false) (no_prefix _ at-prefix-code.ensures at-if2.false) (sym at-is-opening.ensures ∙ at-if4.true) at_leaf.ensures

pub part-overflow_add-from : goal.part-overflow_add-from
part-overflow_add-from t c =
    let at-start = c in
    let at-token-at = c.token_at-token in
    let within = token-within at-token-at.ensures in omega (arith, at-start.well_formed)

pub part-returns-then-text-close : goal.part-returns-then-text-close
part-returns-then-text-close t c =
    let at-start = c in
    let at-token-at = c.token_at-token in
    let at-if1 = c.if-start-end in
    let at-is-opening = c.is_opening in
    let at-if4 = c.if-not-is_opening in
    let at-partner = c.partner-close in
    let at-if5 = c.if-text-close in
    let at-nothing3 = c.nothing-then-text-close in
    let opening = sym at-is-opening.ensures ∙ at-if4.false in
    reading-missing at-nothing3.ensures (open_missing (tokens at-start.args.names.now) at-start.requires.placed at-token-at.ensures at-if1.false opening at-partner.ensures at-if5.true) (below_refl _ _)

pub part-slice_bounds-inside-count : goal.part-slice_bounds-inside-count
part-slice_bounds-inside-count t c =
    let at-start = c in
    let at-token-at = c.token_at-token in
    let at-if1 = c.if-start-end in
    let at-is-opening = c.is_opening in
    let at-if4 = c.if-not-is_opening in
    let at-partner = c.partner-close in
    let at-if5 = c.if-text-close in
    let opening = sym at-is-opening.ensures ∙ at-if4.false in
    partner_forward (tokens at-start.args.names.now) at-start.requires.placed at-token-at.ensures at-if1.false opening at-partner.ensures at-if5.false

pub part-slice_bounds-inside-start : goal.part-slice_bounds-inside-start
part-slice_bounds-inside-start t c =
    let at-start = c in
    let at-token-at = c.token_at-token in
    let at-if1 = c.if-start-end in
    let at-is-opening = c.is_opening in
    let at-if4 = c.if-not-is_opening in
    let at-partner = c.partner-close in
    let at-if5 = c.if-text-close in
    let opening = sym at-is-opening.ensures ∙ at-if4.false in
    partner_forward (tokens at-start.args.names.now) at-start.requires.placed at-token-at.ensures at-if1.false opening at-partner.ensures at-if5.false

pub part-overflow_add-begin : goal.part-overflow_add-begin
part-overflow_add-begin t c =
    let at-start = c in
    let at-token-at = c.token_at-token in
    let within = token-within at-token-at.ensures in omega (arith, at-start.requires.placed.short)

pub part-expression-inner-requires : goal.part-expression-inner-requires
part-expression-inner-requires t c =
    let at-start = c in
    let at-token-at = c.token_at-token in
    let at-if1 = c.if-start-end in
    let at-is-opening = c.is_opening in
    let at-if4 = c.if-not-is_opening in
    let at-partner = c.partner-close in
    let at-if5 = c.if-text-close in
    let opening = sym at-is-opening.ensures ∙ at-if4.false in
    let size = inside-length (tokens at-start.args.names.now) at-start.requires.placed at-token-at.ensures at-if1.false opening at-partner.ensures at-if5.false in
    (omega (arith, at-start.decreases), (inside-placed (tokens at-start.args.names.now) at-start.requires.placed at-token-at.ensures at-if1.false opening at-partner.ensures at-if5.false, record { nodes = omega (arith, at-start.requires.line_fits); firsts = omega (arith, at-start.requires.line_fits) }))

pub part-returns-then-not-inner-2 : goal.part-returns-then-not-inner-2
part-returns-then-not-inner-2 t c =
    let at-start = c in
    let at-token-at = c.token_at-token in
    let at-if1 = c.if-start-end in
    let at-is-opening = c.is_opening in
    let at-if4 = c.if-not-is_opening in
    let at-partner = c.partner-close in
    let at-if5 = c.if-text-close in
    let at-expression = c.expression-inner in
    let at-if6 = c.if-not-inner-2 in
    let at-nothing4 = c.nothing-then-not-inner-2 in
    let opening = sym at-is-opening.ensures ∙ at-if4.false in
    reading-missing at-nothing4.ensures (bracket_missing (tokens at-start.args.names.now) at-start.requires.placed at-token-at.ensures at-if1.false opening at-partner.ensures at-if5.false (at-expression.ensures.missing (not-true at-expression.result.ok at-if6.true))) at-expression.ensures.kept

pub part-token_at-after-requires : goal.part-token_at-after-requires
part-token_at-after-requires t c =
    let at-start = c in
    let at-token-at = c.token_at-token in
    let at-if1 = c.if-start-end in
    let at-is-opening = c.is_opening in
    let at-if4 = c.if-not-is_opening in
    let at-partner = c.partner-close in
    let at-if5 = c.if-text-close in
    let at-expression = c.expression-inner in
    let at-if6 = c.if-not-inner-2 in
    let opening = sym at-is-opening.ensures ∙ at-if4.false in
    found-placed (inside-placed (tokens at-start.args.names.now) at-start.requires.placed at-token-at.ensures at-if1.false opening at-partner.ensures at-if5.false) (at-expression.ensures.found (not-false at-expression.result.ok at-if6.false))

pub part-returns-then-after : goal.part-returns-then-after
part-returns-then-after t c =
    let at-start = c in
    let at-token-at = c.token_at-token in
    let at-if1 = c.if-start-end in
    let at-is-opening = c.is_opening in
    let at-if4 = c.if-not-is_opening in
    let at-partner = c.partner-close in
    let at-if5 = c.if-text-close in
    let at-expression = c.expression-inner in
    let at-if6 = c.if-not-inner-2 in
    let at-token-at2 = c.token_at-after in
    let at-if7 = c.if-after in
    let at-nothing5 = c.nothing-then-after in
    let opening = sym at-is-opening.ensures ∙ at-if4.false in
    reading-missing at-nothing5.ensures (bracket_longer (tokens at-start.args.names.now) at-start.requires.placed at-token-at.ensures at-if1.false opening at-partner.ensures at-if5.false (at-expression.ensures.found (not-false at-expression.result.ok at-if6.false)) (token-tokens at-token-at2.ensures at-if7.true)) at-expression.ensures.kept

pub part-overflow_add-result : goal.part-overflow_add-result
part-overflow_add-result t c =
    let at-start = c in
    let at-token-at = c.token_at-token in
    let at-if1 = c.if-start-end in
    let at-is-opening = c.is_opening in
    let at-if4 = c.if-not-is_opening in
    let at-partner = c.partner-close in
    let at-if5 = c.if-text-close in
    let at-expression = c.expression-inner in
    let at-if6 = c.if-not-inner-2 in
    let at-token-at2 = c.token_at-after in
    let at-if7 = c.if-after in
    let opening = sym at-is-opening.ensures ∙ at-if4.false in
    let stored = closing-stored (tokens at-start.args.names.now) at-start.requires.placed at-token-at.ensures at-if1.false opening at-partner.ensures at-if5.false (at-expression.ensures.found (not-false at-expression.result.ok at-if6.false)) (token-empty at-token-at2.ensures at-if7.false) in
    omega (arith, at-start.well_formed)

pub part-returns : goal.part-returns
part-returns t c =
    let at-start = c in
    let at-token-at = c.token_at-token in
    let at-if1 = c.if-start-end in
    let at-is-opening = c.is_opening in
    let at-if4 = c.if-not-is_opening in
    let at-partner = c.partner-close in
    let at-if5 = c.if-text-close in
    let at-expression = c.expression-inner in
    let at-if6 = c.if-not-inner-2 in
    let at-token-at2 = c.token_at-after in
    let at-if7 = c.if-after in
    let opening = sym at-is-opening.ensures ∙ at-if4.false in
    reading-found refl (bracket_found (tokens at-start.args.names.now) at-start.requires.placed at-token-at.ensures at-if1.false opening at-partner.ensures at-if5.false (at-expression.ensures.found (not-false at-expression.result.ok at-if6.false)) (token-empty at-token-at2.ensures at-if7.false))
