-- `keys::raise_all` meets its contract: before each turn the places passed hold the values of the nodes, raised.
use mathlib.Core.Path.{refl, ap, ◌∙◌}
use native.Mathlib.Omega.{arith}
use lib.ListN.{length-set}
use Rattle.sides.proofs.Values.{value-given}
use Rattle.prepare.specs.Key.{raised}
use Rattle.prepare.proofs.KeyLists.{mapped_more, mapped_all}
use Rattle.extend.proofs.keys.raise_all.Goals as goal

pub loop-i-init : goal.loop-i-init
loop-i-init c = (refl, refl)

pub loop-i-preserved : goal.loop-i-preserved
loop-i-preserved c =
    let at-loop = c in
    let start = at-loop in
    let value = c.evaluate in (
      mapped_more _ start.args.first_nodes.now at-loop.loop-i.numbers at-loop.loop-i.i 0 _ c.loop-i-test.true (omega arith)
          (c.raised.ensures ∙ ap raised (value-given _ _ _ 0 (record { sfits = value.type_inv }) value.ensures)) at-loop.loop-i.invariant.0,
      simp length-set at-loop.loop-i.invariant.1,
    )

pub returns : goal.returns
returns c = mapped_all _ _ c.loop-i.numbers c.loop-i.i (omega arith) c.loop-i.invariant.0
