-- `bounds::after_prefixes` meets its contract: before each turn the summary is that of the part which ends at the loop's place.
use Prim.Native.Nat.{◌+◌, ◌-◌, ◌<◌}
use native.Mathlib.Omega.{arith}
use mathlib.Core.Path.{◌≡◌, ◌∙◌, ap}
use lib.ListN.{get_or, take, drop, length-take, length-drop}
use Rattle.std.proofs.Common.{get_or-take, get_or-drop}
use Rattle.bounds.specs.Prefix.{prefix_summary}
use Rattle.bounds.proofs.Prefixes.{leads-none, leads-more}
use Rattle.bounds.proofs.after_prefixes.Goals as goal

pub loop-kind-init : goal.loop-kind-init
loop-kind-init c = let e : c.args.from + 0 ≡ c.args.from = omega arith in rw e leads-none

pub loop-kind-preserved : goal.loop-kind-preserved
loop-kind-preserved c =
    let kinds = c.args.kinds.now in
    let from = c.args.from in
    let end = c.args.end in
    let i = c.loop-kind.kind-index in
    let inside : i < end - from = omega (arith, c.loop-kind-test.true, length-take (end - from) (drop from kinds)) in
    let here : get_or (take (end - from) (drop from kinds)) i 0 ≡ get_or kinds (from + i) 0 = get_or-take (end - from) (drop from kinds) i 0 inside ∙ get_or-drop from kinds i 0 in
    let next : from + (i + 1) ≡ from + i + 1 = omega arith in
    rw next (leads-more (from + i) c.loop-kind.invariant (c.requires.1.each (from + i) (omega arith) (omega arith)) (c.after_prefix-summary.ensures ∙ ap (λ k. prefix_summary k c.loop-kind.summary) here))

pub returns : goal.returns
returns c =
    let kinds = c.args.kinds.now in
    let from = c.args.from in
    let end = c.args.end in
    let e : from + c.loop-kind.kind-index ≡ end = omega (arith, c.loop-kind-test.false, c.requires.0, c.requires.1.ends_within, c.loop-kind.auto.kind-index-end, length-take (end - from) (drop from kinds), length-drop from kinds) in
    rw e at c.loop-kind.invariant
