-- `reader::find_firsts` meets its contract: the table is that of the nodes before the loop's place.
use mathlib.Core.Path.{refl, sym, ◌∙◌}
use native.Mathlib.Omega.{arith}
use Rattle.reader.proofs.FirstNodes.{first-number, first-here, no_first_here, firsts-end}
use Rattle.reader.proofs.find_firsts.Goals as goal
use Rattle.reader.proofs.find_firsts.Goals.{then-kind-eq-FIRST_NODE, else-kind-eq-FIRST_NODE}

pub loop-i-init : goal.loop-i-init
loop-i-init c = (omega arith, refl)

pub put_first-requires : goal.put_first-requires
put_first-requires c =
    let loop = c in
    let start = loop in
    let inside = c.loop-i-test.true in
    let n = first-number start.args.kinds.now start.args.values.now loop.loop-i.first_nodes loop.loop-i.i start.requires.0 inside start.requires.2 c.if-kind-eq-FIRST_NODE.true in
    (n.0, n.1, omega (arith, inside, start.requires.1))

pub returns : goal.returns
returns c =
    let start = c in
    sym (c.loop-i.invariant.1 ∙ firsts-end start.args.kinds.now start.args.values.now c.loop-i.first_nodes c.loop-i.i c.loop-i-test.false)

pub loop-i-preserved : goal.loop-i-preserved
loop-i-preserved c =
    let loop = c in
    let start = loop in
    let inside = c.loop-i-test.true in (
      omega (arith, inside),
      loop.loop-i.invariant.1
          ∙ elim c.if-kind-eq-FIRST_NODE.branch [
            | then-kind-eq-FIRST_NODE w ↦ first-here start.args.kinds.now start.args.values.now loop.loop-i.first_nodes loop.loop-i.i start.requires.0 inside start.requires.2 w.if-kind-eq-FIRST_NODE.true (w.first_nodes-is ∙ w.put_first.ensures)
            | else-kind-eq-FIRST_NODE w ↦ no_first_here start.args.kinds.now start.args.values.now loop.loop-i.first_nodes loop.loop-i.i start.requires.0 inside w.if-kind-eq-FIRST_NODE.false w.first_nodes-is
          ],
    )
