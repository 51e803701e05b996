-- `parse::sides` meets its contract: both sides are read as expressions, a relation stands between them, and no token is left.
use mathlib.Core.Path.{refl, sym, ap, ◌∙◌}
use native.Mathlib.Omega.{arith}
use lib.ListN.{length}
use borrow.Author.Tests.{not-true, not-false}
use Rattle.scan.specs.Place.{between}
use Rattle.parse.specs.Bounded.{bounded_expression}
use Rattle.parse.specs.Numbered.{tokens_from}
use Rattle.parse.proofs.Store.{below_trans}
use Rattle.parse.proofs.Trees.{some-node}
use Rattle.parse.proofs.Numbers.{token-within, token-empty, token-tokens, line-placed, line_first}
use Rattle.parse.proofs.Parts.{found-placed, number-placed}
use Rattle.parse.proofs.Constraints.{relation-at, side-missing, sign-missing, second-side-missing, line-longer, line_read}
use Rattle.parse.proofs.sides.Goals as goal

pub expression-left-requires : goal.expression-left-requires
expression-left-requires c =
    let at-start = c in
    let placed = line-placed at-start.args.line.now at-start.requires.nodes_le_last.2 (omega (arith, at-start.well_formed)) in
    let whole = ap length (line_first at-start.args.line.now at-start.requires.nodes_le_last.2) in
    record { placed = placed; line_fits = record { nodes = omega (arith, at-start.requires.fits.nodes); firsts = omega (arith, at-start.requires.fits.nodes, at-start.requires.fits.firsts) } }

pub returns-then-not-left : goal.returns-then-not-left
returns-then-not-left c =
    let at-start = c in
    let at-expression = c.expression-left in
    let at-if1 = c.if-not-left in
    let at-unread = c.unread in
    side-missing at-start.args.names.now at-start.args.line.now (tokens_from at-start.args.line.now 0 (between at-start.args.all_starts.now at-start.args.nodes at-start.args.last)) (line_first at-start.args.line.now at-start.requires.nodes_le_last.2) at-start.requires.fits (at-expression.ensures.missing (not-true at-expression.result.ok at-if1.true)) at-unread.ensures at-expression.ensures.kept

pub token_at-sign-requires : goal.token_at-sign-requires
token_at-sign-requires c =
    let at-start = c in
    let at-expression = c.expression-left in
    let at-if1 = c.if-not-left in
    let placed = line-placed at-start.args.line.now at-start.requires.nodes_le_last.2 (omega (arith, at-start.well_formed)) in
    found-placed placed (at-expression.ensures.found (not-false at-expression.result.ok at-if1.false))

pub slice_bounds-relation_code-count : goal.slice_bounds-relation_code-count
slice_bounds-relation_code-count c =
    let at-token-at = c.token_at-sign in
    let within = token-within at-token-at.ensures in omega arith

pub slice_bounds-relation_code-start : goal.slice_bounds-relation_code-start
slice_bounds-relation_code-start c =
    let at-token-at = c.token_at-sign in
    let within = token-within at-token-at.ensures in omega arith

pub slice_bounds-relation_code-end : goal.slice_bounds-relation_code-end
slice_bounds-relation_code-end c =
    let at-token-at = c.token_at-sign in
    let within = token-within at-token-at.ensures in omega arith

pub returns-then-relation : goal.returns-then-relation
returns-then-relation c =
    let at-start = c in
    let at-expression = c.expression-left in
    let at-if1 = c.if-not-left in
    let at-token-at = c.token_at-sign in
    let at-relation-code = c.relation_code-relation in
    let at-if2 = c.if-relation in
    let at-unread2 = c.unread-then-relation in
    sign-missing at-start.args.names.now at-start.args.line.now _ (line_first at-start.args.line.now at-start.requires.nodes_le_last.2) at-start.requires.fits (at-expression.ensures.found (not-false at-expression.result.ok at-if1.false)) at-token-at.ensures (sym at-relation-code.ensures ∙ at-if2.true) at-unread2.ensures at-expression.ensures.kept

pub expression-right-requires : goal.expression-right-requires
expression-right-requires c =
    let at-start = c in
    let at-expression = c.expression-left in
    let at-if1 = c.if-not-left in
    let at-token-at = c.token_at-sign in
    let at-relation-code = c.relation_code-relation in
    let at-if2 = c.if-relation in
    let placed = line-placed at-start.args.line.now at-start.requires.nodes_le_last.2 (omega (arith, at-start.well_formed)) in
    let whole = ap length (line_first at-start.args.line.now at-start.requires.nodes_le_last.2) in
    let left = (at-expression.ensures.found (not-false at-expression.result.ok at-if1.false)) in
    let sign = (relation-at at-token-at.ensures at-relation-code.ensures at-if2.false) in
    let size = ap length sign.first in
    record { placed = number-placed (found-placed placed left) sign.number; line_fits = record { nodes = omega (arith, at-start.requires.fits.nodes, left.room); firsts = omega (arith, at-start.requires.fits.nodes, at-start.requires.fits.firsts, left.room_firsts) } }

pub returns-then-not-right : goal.returns-then-not-right
returns-then-not-right c =
    let at-start = c in
    let at-expression = c.expression-left in
    let at-if1 = c.if-not-left in
    let at-token-at = c.token_at-sign in
    let at-relation-code = c.relation_code-relation in
    let at-if2 = c.if-relation in
    let at-expression2 = c.expression-right in
    let at-if3 = c.if-not-right in
    let at-unread3 = c.unread-then-not-right in
    let left = (at-expression.ensures.found (not-false at-expression.result.ok at-if1.false)) in
    second-side-missing at-start.args.names.now at-start.args.line.now _ (line_first at-start.args.line.now at-start.requires.nodes_le_last.2) at-start.requires.fits left at-token-at.ensures (relation-at at-token-at.ensures at-relation-code.ensures at-if2.false) (at-expression2.ensures.missing (not-true at-expression2.result.ok at-if3.true)) at-unread3.ensures (below_trans (omega (arith, left.stores.nodes)) at-expression2.ensures.kept at-expression.ensures.kept)

pub token_at-after-requires : goal.token_at-after-requires
token_at-after-requires c =
    let at-start = c in
    let at-expression = c.expression-left in
    let at-if1 = c.if-not-left in
    let at-token-at = c.token_at-sign in
    let at-relation-code = c.relation_code-relation in
    let at-if2 = c.if-relation in
    let at-expression2 = c.expression-right in
    let at-if3 = c.if-not-right in
    let placed = line-placed at-start.args.line.now at-start.requires.nodes_le_last.2 (omega (arith, at-start.well_formed)) in
    let left = (at-expression.ensures.found (not-false at-expression.result.ok at-if1.false)) in
    found-placed (number-placed (found-placed placed left) (relation-at at-token-at.ensures at-relation-code.ensures at-if2.false).number) (at-expression2.ensures.found (not-false at-expression2.result.ok at-if3.false))

pub returns-then-after : goal.returns-then-after
returns-then-after c =
    let at-start = c in
    let at-expression = c.expression-left in
    let at-if1 = c.if-not-left in
    let at-token-at = c.token_at-sign in
    let at-relation-code = c.relation_code-relation in
    let at-if2 = c.if-relation in
    let at-expression2 = c.expression-right in
    let at-if3 = c.if-not-right in
    let at-token-at2 = c.token_at-after in
    let at-if4 = c.if-after in
    let at-unread4 = c.unread-then-after in
    let left = (at-expression.ensures.found (not-false at-expression.result.ok at-if1.false)) in
    line-longer at-start.args.names.now at-start.args.line.now _ (line_first at-start.args.line.now at-start.requires.nodes_le_last.2) at-start.requires.fits left at-token-at.ensures (relation-at at-token-at.ensures at-relation-code.ensures at-if2.false) (at-expression2.ensures.found (not-false at-expression2.result.ok at-if3.false)) (token-tokens at-token-at2.ensures at-if4.true) at-unread4.ensures (below_trans (omega (arith, left.stores.nodes)) at-expression2.ensures.kept at-expression.ensures.kept)

pub overflow_sub-result : goal.overflow_sub-result
overflow_sub-result c =
    let at-start = c in
    let at-expression = c.expression-left in
    let at-if1 = c.if-not-left in
    let at-expression2 = c.expression-right in
    let at-if3 = c.if-not-right in
    let left = (at-expression.ensures.found (not-false at-expression.result.ok at-if1.false)) in
    let right = (at-expression2.ensures.found (not-false at-expression2.result.ok at-if3.false)) in
    let some = some-node at-start.args.nodes at-start.args.firsts (bounded_expression left.tree) in
    let more = some-node at-expression.result.nodes at-expression.result.firsts (bounded_expression right.tree) in
    omega (arith, left.stores.nodes, right.stores.nodes)

pub overflow_sub-result-2 : goal.overflow_sub-result-2
overflow_sub-result-2 c =
    let at-start = c in
    let at-expression = c.expression-left in
    let at-if1 = c.if-not-left in
    let at-expression2 = c.expression-right in
    let at-if3 = c.if-not-right in
    let left = (at-expression.ensures.found (not-false at-expression.result.ok at-if1.false)) in
    let right = (at-expression2.ensures.found (not-false at-expression2.result.ok at-if3.false)) in
    let some = some-node at-start.args.nodes at-start.args.firsts (bounded_expression left.tree) in
    let more = some-node at-expression.result.nodes at-expression.result.firsts (bounded_expression right.tree) in
    omega (arith, left.stores.nodes, right.stores.nodes)

pub returns : goal.returns
returns c =
    let at-start = c in
    let at-expression = c.expression-left in
    let at-if1 = c.if-not-left in
    let at-token-at = c.token_at-sign in
    let at-relation-code = c.relation_code-relation in
    let at-if2 = c.if-relation in
    let at-expression2 = c.expression-right in
    let at-if3 = c.if-not-right in
    let at-token-at2 = c.token_at-after in
    let at-if4 = c.if-after in
    line_read at-start.args.names.now at-start.args.line.now _ (line_first at-start.args.line.now at-start.requires.nodes_le_last.2) at-start.requires.fits (at-expression.ensures.found (not-false at-expression.result.ok at-if1.false)) at-token-at.ensures (relation-at at-token-at.ensures at-relation-code.ensures at-if2.false) (at-expression2.ensures.found (not-false at-expression2.result.ok at-if3.false)) (token-empty at-token-at2.ensures at-if4.false) refl
