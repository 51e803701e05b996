-- `reader::restate` meets its contract: the kinds before the loop's place are restated, the others are as they were.
use mathlib.Core.Path.{sym, ap, ◌∙◌}
use native.Mathlib.Omega.{arith}
use native.Mathlib.Numerals.{add-one}
use lib.ListN.{set, get_or}
use Rattle.nodes.specs.Code.{floored_kind, meant_kinds}
use Rattle.reader.proofs.Floored.{floored_up_to, up_to-none, up_to-more, up_to-all}
use Rattle.reader.proofs.restate.Goals as goal

pub returns-then-not-floors : goal.returns-then-not-floors
returns-then-not-floors c = let kinds = c.args.kinds.now in ap (λ b. meant_kinds b kinds) (sym c.if-not-floors.true)

pub loop-kind-init : goal.loop-kind-init
loop-kind-init c = (omega arith, up_to-none c.args.kinds.now)

pub loop-kind-preserved : goal.loop-kind-preserved
loop-kind-preserved c =
    let loop = c.loop-kind in
    let kinds = c.args.kinds.now in
    let i = loop.kind-index in (
      omega arith,
      ap (set loop.kinds i) c.floored_kind.ensures ∙ ap (λ l. set l i (floored_kind (get_or l i 0))) loop.invariant.1 ∙ up_to-more i kinds ∙ ap (λ n. floored_up_to n kinds) (sym (add-one i)),
    )

pub returns : goal.returns
returns c =
    let start = c in
    let kinds = start.args.kinds.now in
    c.loop-kind.invariant.1 ∙ up_to-all c.loop-kind.kind-index kinds (omega (arith, start.requires, c.loop-kind-test.false)) ∙ ap (λ b. meant_kinds b kinds) (sym c.if-not-floors.false)
