-- `reader::extent_of` meets its contract: the extent is that of the sides before the loop's place.
use mathlib.Core.Path.{refl, sym, ◌∙◌, ap}
use native.Mathlib.Omega.{arith}
use Rattle.nodes.specs.Evaluate.{stored}
use Rattle.nodes.specs.Bounds.{node_summary}
use Rattle.reader.proofs.SheetExtent.{extent-step, extent-end}
use Rattle.reader.proofs.extent_of.Goals as goal

pub loop-i-init : goal.loop-i-init
loop-i-init c = (omega arith, refl)

pub loop-i-preserved : goal.loop-i-preserved
loop-i-preserved c =
    let a = c.args in
    let parts = stored a.kinds.now a.values.now a.starts.now in
    let summary = node_summary parts a.lows.now a.highs.now in (
      omega (arith, c.loop-i-test.true),
      c.loop-i.invariant.1
          ∙ extent-step parts a.lows.now a.highs.now c.loop-i.extent a.lefts.now a.rights.now c.loop-i.i c.requires c.loop-i-test.true
          (c.summary-left.ensures ∙ ap summary c.from.ensures) c.with_summary-extent.ensures
          (c.summary-right.ensures ∙ ap summary c.from-in-loop-i.ensures) c.with_summary-extent-in-loop-i.ensures,
    )

pub returns : goal.returns
returns c =
    let a = c.args in
    sym (c.loop-i.invariant.1 ∙ extent-end (stored a.kinds.now a.values.now a.starts.now) a.lows.now a.highs.now c.loop-i.extent a.lefts.now a.rights.now c.loop-i.i c.loop-i-test.false)
