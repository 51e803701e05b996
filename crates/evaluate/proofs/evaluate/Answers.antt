-- `evaluate::evaluate` meets its contract: the tests are those of the definition, since the slices tell how many elements the lists of nodes have, and the
-- rest, behind the nodes that only change the place (Shifting), is a leaf, the stored value of a `first`, or the recursion.
use native.Mathlib.Omega.{arith}
use mathlib.Core.Path.{refl, sym, ◌∙◌, ap}
use Rattle.nodes.specs.Evaluate.{Nodes, View, stored, view}
use Rattle.arithmetic.specs.Coded.{coded}
use Rattle.arithmetic.proofs.Coded.{held-result}
use Rattle.evaluate.proofs.Leaves.{not_leaf}
use Rattle.evaluate.proofs.Recursion.{HasArrays, leaf_before, stored_arm, no_node, no_place, root_value}
use Rattle.evaluate.proofs.evaluate.Goals as goal
use Rattle.evaluate.proofs.evaluate.Goals.{then-root-ge1024-via-then-root-ge1024, then-root-ge1024-via-else-root-ge1024+then-count-place}

pub returns-then-root-ge1024 : goal.returns-then-root-ge1024
returns-then-root-ge1024 c =
    let N : Nodes = stored c.args.kinds.now c.args.values.now c.args.starts.now in
    let W : View = view c.args.window.now c.args.streams c.args.firsts.now c.args.whole in
    let arrays : HasArrays N = record { kinds = omega arith; values = omega arith; starts = omega arith } in
    held-result (record { sfits = c.no_value_coded.type_inv })
    (c.no_value_coded.ensures
    ∙ ap coded (elim c.then-root-ge1024.branch [
      | then-root-ge1024-via-then-root-ge1024 w ↦ no_node arrays W c.args.root c.args.place w.if-root-ge1024.true
      | then-root-ge1024-via-else-root-ge1024+then-count-place w ↦ no_place arrays W c.args.root c.args.place w.if-root-ge1024.false c.places-count.ensures w.if-count-place.true
    ]))

pub returns-then-is_leaf : goal.returns-then-is_leaf
returns-then-is_leaf c =
    let N : Nodes = stored c.args.kinds.now c.args.values.now c.args.starts.now in
    let W : View = view c.args.window.now c.args.streams c.args.firsts.now c.args.whole in
    let arrays : HasArrays N = record { kinds = omega arith; values = omega arith; starts = omega arith } in
    let m = c.shifted-inner.ensures in
    let d = c.shifted-inner.result.end in
    let q = c.shifted-inner.result.place in
    let root = m.moved.same_value N W refl c.places-count.ensures
    ∙ root_value arrays W c.args.root c.args.place c.if-root-ge1024.false c.places-count.ensures c.if-count-place.false in
    held-result (record { sfits = c.leaf.type_inv })
    (c.leaf.ensures ∙ ap coded (leaf_before N W q d (sym c.if-is_leaf.ensures) ∙ root))

pub returns-then-not-whole : goal.returns-then-not-whole
returns-then-not-whole c =
    let N : Nodes = stored c.args.kinds.now c.args.values.now c.args.starts.now in
    let W : View = view c.args.window.now c.args.streams c.args.firsts.now c.args.whole in
    let arrays : HasArrays N = record { kinds = omega arith; values = omega arith; starts = omega arith } in
    let m = c.shifted-inner.ensures in
    let d = c.shifted-inner.result.end in
    let q = c.shifted-inner.result.place in
    let n = not_leaf c.args.kinds.now d (sym c.if-is_leaf.ensures) in
    let root = m.moved.same_value N W refl c.places-count.ensures
    ∙ root_value arrays W c.args.root c.args.place c.if-root-ge1024.false c.places-count.ensures c.if-count-place.false in
    held-result (record { sfits = c.numbered.type_inv })
    (c.numbered.ensures
    ∙ ap coded (stored_arm N W q d n.0 (record { sfits = omega arith }) c.if-kinds-i-eq-FIRST_NODE.true c.if-not-whole.true ∙ root))

pub returns : goal.returns
returns c =
    let N : Nodes = stored c.args.kinds.now c.args.values.now c.args.starts.now in
    let W : View = view c.args.window.now c.args.streams c.args.firsts.now c.args.whole in
    let arrays : HasArrays N = record { kinds = omega arith; values = omega arith; starts = omega arith } in
    let m = c.shifted-inner.ensures in
    let root = m.moved.same_value N W refl c.places-count.ensures
    ∙ root_value arrays W c.args.root c.args.place c.if-root-ge1024.false c.places-count.ensures c.if-count-place.false in
    held-result (record { sfits = c.value_before.type_inv }) (c.value_before.ensures ∙ ap coded root)
