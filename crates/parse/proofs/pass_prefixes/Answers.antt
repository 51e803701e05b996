-- `parse::pass_prefixes` meets its contract: before each turn the tokens up to the loop's number are prefixes.
use mathlib.Core.Path.{refl, ap}
use native.Mathlib.Omega.{arith}
use lib.ListN.{length}
use Rattle.parse.specs.Prefixes.{passes_nothing, passes_more}
use Rattle.parse.proofs.Numbers.{token-within, token-tokens, token-number, placed-later}
use Rattle.parse.proofs.Prefixes.{prefix-stands, passes_later, passes_room}
use Rattle.parse.proofs.pass_prefixes.Goals as goal

pub loop-token-init : goal.loop-token-init
loop-token-init c = passes_nothing refl refl

pub token_at-token-requires : goal.token_at-token-requires
token_at-token-requires c = placed-later c.requires.placed (passes_later c.loop-token.invariant)

pub slice_bounds-prefix_code-count : goal.slice_bounds-prefix_code-count
slice_bounds-prefix_code-count c = let within = token-within c.token_at-token.ensures in omega arith

pub slice_bounds-prefix_code-start : goal.slice_bounds-prefix_code-start
slice_bounds-prefix_code-start c = let within = token-within c.token_at-token.ensures in omega arith

pub slice_bounds-prefix_code-end : goal.slice_bounds-prefix_code-end
slice_bounds-prefix_code-end c = let within = token-within c.token_at-token.ensures in omega arith

pub returns-then-kind : goal.returns-then-kind
returns-then-kind c = c.loop-token.invariant

pub firsts_inside-inside-requires : goal.firsts_inside-inside-requires
firsts_inside-inside-requires c =
    let start = c in
    let token = c.token_at-token in
    let stands = prefix-stands start.args.text.now token.result c.prefix_code-kind.ensures c.if-kind.false in
    let first = ap length (token-tokens token.ensures stands) in
    omega (arith, start.requires.at_bound, passes_room c.loop-token.invariant)

pub loop-token-smaller : goal.loop-token-smaller
loop-token-smaller c =
    let start = c in
    let token = c.token_at-token in
    let stands = prefix-stands start.args.text.now token.result c.prefix_code-kind.ensures c.if-kind.false in
    let first = ap length (token-tokens token.ensures stands) in omega arith

pub loop-token-preserved : goal.loop-token-preserved
loop-token-preserved c =
    let start = c in
    let token = c.token_at-token in
    let stands = prefix-stands start.args.text.now token.result c.prefix_code-kind.ensures c.if-kind.false in
    passes_more c.loop-token.invariant (token-tokens token.ensures stands) (token-number token.ensures stands) c.prefix_code-kind.ensures c.if-kind.false c.firsts_inside-inside.ensures
