-- `parse::put_prefixes` meets its contract: before each turn the part is read that begins with the token of the loop's number, and the prefixes
-- before it are still to be stored.
use mathlib.Core.Path.{ap, ◌∙◌}
use native.Mathlib.Omega.{arith}
use lib.ListN.{length}
use mir.Syntax.{w64}
use mir.ValLaws.{to_z-of_z}
use Rattle.parse.specs.Reading.{prefix_value}
use Rattle.parse.proofs.Numbers.{token-within, placed-later}
use Rattle.parse.proofs.Prefixes.{passes_room, last_passed, kind_is, before_is, leads-none, leads-more, leads-end}
use Rattle.parse.proofs.put_prefixes.Goals as goal

pub loop-number-init : goal.loop-number-init
loop-number-init c = let start = c in (start.requires.passes, leads-none, start.requires.nodes_le_nodes.0, start.requires.nodes_le_nodes.1)

pub token_at-token-requires : goal.token_at-token-requires
token_at-token-requires c = placed-later c.requires.placed (omega (arith, c.loop-number-test.true))

pub slice_bounds-prefix_code-count : goal.slice_bounds-prefix_code-count
slice_bounds-prefix_code-count c = let within = token-within c.token_at-token.ensures in omega arith

pub slice_bounds-prefix_code-start : goal.slice_bounds-prefix_code-start
slice_bounds-prefix_code-start c = let within = token-within c.token_at-token.ensures in omega arith

pub slice_bounds-prefix_code-end : goal.slice_bounds-prefix_code-end
slice_bounds-prefix_code-end c = let within = token-within c.token_at-token.ensures in omega arith

pub prefix_value-value-requires : goal.prefix_value-value-requires
prefix_value-value-requires c =
    let start = c in
    let l = last_passed c.loop-number.invariant.0 c.loop-number-test.true in
    let kind = kind_is l start.args.text.now c.token_at-token.result c.token_at-token.ensures c.prefix_code-kind.ensures in
    let before = before_is l c.prefix_code-kind.result kind c.firsts_before-inside.ensures in
    let first = ap length l.first in
    omega (arith, start.requires.nodes_le_nodes.2, passes_room l.passes)

pub put-requires : goal.put-requires
put-requires c = let loop = c in (omega (arith, loop.loop-number.invariant.3, c.loop-number-test.true), omega (arith, loop.loop-number.invariant.2))

pub overflow_add-last : goal.overflow_add-last
overflow_add-last c = let loop = c in omega (arith, loop.loop-number.invariant.3, c.loop-number-test.true)

pub loop-number-preserved : goal.loop-number-preserved
loop-number-preserved c =
    let start = c in
    let l = last_passed c.loop-number.invariant.0 c.loop-number-test.true in
    let kind = kind_is l start.args.text.now c.token_at-token.result c.token_at-token.ensures c.prefix_code-kind.ensures in
    let loop = c in
    let taken = c.loop-number-test.true in
    let before = before_is l c.prefix_code-kind.result kind c.firsts_before-inside.ensures in
    let value = to_z-of_z w64 c.prefix_value-value.result (record { sfits = c.prefix_value-value.type_inv }) ∙ c.prefix_value-value.ensures in (
      rw before l.passes,
      rw before (leads-more loop.loop-number.invariant.1 l (omega (arith, taken)) kind (value ∙ ap (prefix_value c.prefix_code-kind.result) before) c.put.ensures),
      omega (arith, loop.loop-number.invariant.2),
      omega (arith, loop.loop-number.invariant.3, taken),
    )

pub returns : goal.returns
returns c = leads-end c.loop-number.invariant.1 c.loop-number.invariant.0 c.loop-number-test.false
