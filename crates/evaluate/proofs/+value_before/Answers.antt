-- `evaluate::value_before` meets its contract, by recursion on the place where the part ends: each call is for a part that ends earlier, and each
-- arm answers what the last node makes of the parts (Recursion), behind the nodes that only change the place (Shifting). A part's value is read back
-- from the number that a call gave (Decoding).
use Rattle.std.proofs.Common.{arith, ◌≡◌, ◌≤◌, ◌-◌, refl, sym, ◌∙◌, ap, w64, to_z}
use Rattle.nodes.specs.Evaluate.{Nodes, View, stored, view, part_value}
use Rattle.arithmetic.specs.Coded.{coded}
use Rattle.arithmetic.proofs.Coded.{held-result}
use Rattle.nodes.proofs.Parts.{left-before}
use Rattle.evaluate.specs.Negation.{negated_by}
use Rattle.evaluate.proofs.Decoding.{held-before, read-before, value_there, value-missing}
use Rattle.evaluate.proofs.Leaves.{not_leaf}
use Rattle.evaluate.proofs.Recursion.{ready-part, leaf_before, part_operand, leaf_operand, stored_arm, first_arm, next-none_arm, negation_arm, then_arm, else_arm, untested_arm, fby-left_arm, fby-window_arm, operator_arm}
use Rattle.evaluate.proofs.+value_before.Goals as goal
use Rattle.evaluate.proofs.+value_before.Goals.{then-nonzero, else-nonzero, then-is_leaf-3, else-is_leaf-3, then-is_leaf-5, else-is_leaf-5, then-is_leaf-6, else-is_leaf-6}

pub returns-then-is_leaf : goal.returns-then-is_leaf
returns-then-is_leaf t c =
    let N : Nodes = stored c.args.kinds.now c.args.values.now c.args.starts.now in
    let W : View = view c.args.window.now c.args.streams c.args.firsts.now c.args.whole in
    let m = c.shifted-inner.ensures in
    let d = c.shifted-inner.result.end in
    let q = c.shifted-inner.result.place in
    held-result (record { sfits = c.leaf.type_inv })
    (c.leaf.ensures ∙ ap coded (leaf_before N W q d (sym c.if-is_leaf.ensures) ∙ m.moved.same_value N W refl c.requires.count_places))

pub value_before-requires-else-is_leaf-4 : goal.value_before-requires-else-is_leaf-4
value_before-requires-else-is_leaf-4 t c =
    let N : Nodes = stored c.args.kinds.now c.args.values.now c.args.starts.now in
    let W : View = view c.args.window.now c.args.streams c.args.firsts.now c.args.whole in
    let m = c.shifted-inner.ensures in
    let d = c.shifted-inner.result.end in
    let q = c.shifted-inner.result.place in
    let n = not_leaf c.args.kinds.now d (sym c.if-is_leaf.ensures) in
    let r = ready-part d q c.requires m.moved.ends_within m.moved.place_within in
    let k = left-before c.args.starts.now (d - 1) (d - 1) c.left_end-middle.ensures (omega arith) in
    let l : c.if-nonzero.branch' ≤ d - 1 = elim c.if-nonzero.branch [ then-nonzero w ↦ omega (arith, k, w.branch'-is) | else-nonzero w ↦ omega (arith, w.branch'-is) ] in
    (omega (arith, c.decreases, n.0, m.moved.ends_within), ready-part c.if-nonzero.branch' q r (omega arith) r.place_within)

pub returns-then-is_leaf-2 : goal.returns-then-is_leaf-2
returns-then-is_leaf-2 t c =
    let N : Nodes = stored c.args.kinds.now c.args.values.now c.args.starts.now in
    let W : View = view c.args.window.now c.args.streams c.args.firsts.now c.args.whole in
    let m = c.shifted-inner.ensures in
    let d = c.shifted-inner.result.end in
    let q = c.shifted-inner.result.place in
    let n = not_leaf c.args.kinds.now d (sym c.if-is_leaf.ensures) in
    held-result (record { sfits = c.leaf-then-is_leaf-2.type_inv })
    (c.leaf-then-is_leaf-2.ensures ∙ ap coded (leaf_before N W 0 (d - 1) (sym c.if-is_leaf-2.ensures) ∙ first_arm N W q d n.0 c.in-2.is c.if-whole.true ∙ m.moved.same_value N W refl c.requires.count_places))

pub returns-else-is_leaf-2 : goal.returns-else-is_leaf-2
returns-else-is_leaf-2 t c =
    let N : Nodes = stored c.args.kinds.now c.args.values.now c.args.starts.now in
    let W : View = view c.args.window.now c.args.streams c.args.firsts.now c.args.whole in
    let m = c.shifted-inner.ensures in
    let d = c.shifted-inner.result.end in
    let q = c.shifted-inner.result.place in
    let n = not_leaf c.args.kinds.now d (sym c.if-is_leaf.ensures) in
    held-result (record { sfits = c.value_before.type_inv })
    (c.value_before.ensures ∙ ap coded (first_arm N W q d n.0 c.in-2.is c.if-whole.true ∙ m.moved.same_value N W refl c.requires.count_places))

pub returns-else-whole : goal.returns-else-whole
returns-else-whole t c =
    let N : Nodes = stored c.args.kinds.now c.args.values.now c.args.starts.now in
    let W : View = view c.args.window.now c.args.streams c.args.firsts.now c.args.whole in
    let m = c.shifted-inner.ensures in
    let d = c.shifted-inner.result.end in
    let q = c.shifted-inner.result.place in
    let n = not_leaf c.args.kinds.now d (sym c.if-is_leaf.ensures) in
    held-result (record { sfits = c.numbered.type_inv })
    (c.numbered.ensures ∙ ap coded (stored_arm N W q d n.0 (record { sfits = omega arith }) c.in-2.is c.if-whole.false ∙ m.moved.same_value N W refl c.requires.count_places))

pub returns-in-3 : goal.returns-in-3
returns-in-3 t c =
    let N : Nodes = stored c.args.kinds.now c.args.values.now c.args.starts.now in
    let W : View = view c.args.window.now c.args.streams c.args.firsts.now c.args.whole in
    let m = c.shifted-inner.ensures in
    let d = c.shifted-inner.result.end in
    let q = c.shifted-inner.result.place in
    let n = not_leaf c.args.kinds.now d (sym c.if-is_leaf.ensures) in
    held-result (record { sfits = c.no_value_coded.type_inv })
    (c.no_value_coded.ensures ∙ ap coded (next-none_arm N W q d n.0 c.in-3.is c.requires.count_places (m.next_last n.0 c.in-3.is) ∙ m.moved.same_value N W refl c.requires.count_places))

pub returns-in-4 : goal.returns-in-4
returns-in-4 t c =
    let N : Nodes = stored c.args.kinds.now c.args.values.now c.args.starts.now in
    let W : View = view c.args.window.now c.args.streams c.args.firsts.now c.args.whole in
    let m = c.shifted-inner.ensures in
    let d = c.shifted-inner.result.end in
    let q = c.shifted-inner.result.place in
    let n = not_leaf c.args.kinds.now d (sym c.if-is_leaf.ensures) in
    let inside = c.negations-inside in
    held-result (record { sfits = c.negated_by.type_inv })
    (c.negated_by.ensures
    ∙ ap coded
    (ap (negated_by inside.result.again) (held-before N W inside.result.end q (record { sfits = c.value_before-a.type_inv }) c.value_before-a.ensures)
    ∙ inside.ensures.same_value N W q refl
    ∙ negation_arm N W q d n.0 c.in-4.is refl
    ∙ m.moved.same_value N W refl c.requires.count_places))

pub returns-then-is_leaf-4 : goal.returns-then-is_leaf-4
returns-then-is_leaf-4 t c =
    let N : Nodes = stored c.args.kinds.now c.args.values.now c.args.starts.now in
    let W : View = view c.args.window.now c.args.streams c.args.firsts.now c.args.whole in
    let m = c.shifted-inner.ensures in
    let d = c.shifted-inner.result.end in
    let q = c.shifted-inner.result.place in
    let n = not_leaf c.args.kinds.now d (sym c.if-is_leaf.ensures) in
    let l = c.left_end-left.result in
    let test = read-before N W l q (elim c.if-is_leaf-3.branch [
      | then-is_leaf-3 w ↦ leaf_operand N W q l (record { sfits = w.leaf-test.type_inv }) w.test-is w.if-is_leaf-3.ensures refl w.leaf-test.ensures
      | else-is_leaf-3 w ↦ part_operand N W q l (record { sfits = w.value_before-test.type_inv }) w.test-is w.value_before-test.ensures
    ]) in
    let there = value_there (to_z w64 c.if-is_leaf-3.test-bits) test (sym c.if-in_bound.ensures) in
    let branch : part_value N W c.if-nonzero.branch' q ≡ part_value N W d q = elim c.if-nonzero.branch [
      | then-nonzero w ↦ ap (λ e. part_value N W e q) w.branch'-is ∙ then_arm N W q d n.0 c.in-5.is c.left_end-middle.ensures c.left_end-left.ensures there refl (sym w.if-nonzero.ensures)
      | else-nonzero w ↦ ap (λ e. part_value N W e q) w.branch'-is ∙ else_arm N W q d n.0 c.in-5.is c.left_end-middle.ensures c.left_end-left.ensures there refl (sym w.if-nonzero.ensures)
    ] in
    held-result (record { sfits = c.leaf-then-is_leaf-4.type_inv })
    (c.leaf-then-is_leaf-4.ensures ∙ ap coded (leaf_before N W q c.if-nonzero.branch' (sym c.if-is_leaf-4.ensures) ∙ branch ∙ m.moved.same_value N W refl c.requires.count_places))

pub returns-else-is_leaf-4 : goal.returns-else-is_leaf-4
returns-else-is_leaf-4 t c =
    let N : Nodes = stored c.args.kinds.now c.args.values.now c.args.starts.now in
    let W : View = view c.args.window.now c.args.streams c.args.firsts.now c.args.whole in
    let m = c.shifted-inner.ensures in
    let d = c.shifted-inner.result.end in
    let q = c.shifted-inner.result.place in
    let n = not_leaf c.args.kinds.now d (sym c.if-is_leaf.ensures) in
    let l = c.left_end-left.result in
    let test = read-before N W l q (elim c.if-is_leaf-3.branch [
      | then-is_leaf-3 w ↦ leaf_operand N W q l (record { sfits = w.leaf-test.type_inv }) w.test-is w.if-is_leaf-3.ensures refl w.leaf-test.ensures
      | else-is_leaf-3 w ↦ part_operand N W q l (record { sfits = w.value_before-test.type_inv }) w.test-is w.value_before-test.ensures
    ]) in
    let there = value_there (to_z w64 c.if-is_leaf-3.test-bits) test (sym c.if-in_bound.ensures) in
    let branch : part_value N W c.if-nonzero.branch' q ≡ part_value N W d q = elim c.if-nonzero.branch [
      | then-nonzero w ↦ ap (λ e. part_value N W e q) w.branch'-is ∙ then_arm N W q d n.0 c.in-5.is c.left_end-middle.ensures c.left_end-left.ensures there refl (sym w.if-nonzero.ensures)
      | else-nonzero w ↦ ap (λ e. part_value N W e q) w.branch'-is ∙ else_arm N W q d n.0 c.in-5.is c.left_end-middle.ensures c.left_end-left.ensures there refl (sym w.if-nonzero.ensures)
    ] in
    held-result (record { sfits = c.value_before-else-is_leaf-4.type_inv })
    (c.value_before-else-is_leaf-4.ensures ∙ ap coded (branch ∙ m.moved.same_value N W refl c.requires.count_places))

pub returns-else-in_bound : goal.returns-else-in_bound
returns-else-in_bound t c =
    let N : Nodes = stored c.args.kinds.now c.args.values.now c.args.starts.now in
    let W : View = view c.args.window.now c.args.streams c.args.firsts.now c.args.whole in
    let m = c.shifted-inner.ensures in
    let d = c.shifted-inner.result.end in
    let q = c.shifted-inner.result.place in
    let n = not_leaf c.args.kinds.now d (sym c.if-is_leaf.ensures) in
    let l = c.left_end-left.result in
    let test = read-before N W l q (elim c.if-is_leaf-3.branch [
      | then-is_leaf-3 w ↦ leaf_operand N W q l (record { sfits = w.leaf-test.type_inv }) w.test-is w.if-is_leaf-3.ensures refl w.leaf-test.ensures
      | else-is_leaf-3 w ↦ part_operand N W q l (record { sfits = w.value_before-test.type_inv }) w.test-is w.value_before-test.ensures
    ]) in
    held-result (record { sfits = c.no_value_coded-else-in_bound.type_inv })
    (c.no_value_coded-else-in_bound.ensures ∙ ap coded (untested_arm N W q d n.0 c.in-5.is c.left_end-middle.ensures c.left_end-left.ensures (value-missing (to_z w64 c.if-is_leaf-3.test-bits) test (sym c.if-in_bound.ensures)) refl ∙ m.moved.same_value N W refl c.requires.count_places))

pub returns-then-whole-2 : goal.returns-then-whole-2
returns-then-whole-2 t c =
    let N : Nodes = stored c.args.kinds.now c.args.values.now c.args.starts.now in
    let W : View = view c.args.window.now c.args.streams c.args.firsts.now c.args.whole in
    let m = c.shifted-inner.ensures in
    let d = c.shifted-inner.result.end in
    let q = c.shifted-inner.result.place in
    let n = not_leaf c.args.kinds.now d (sym c.if-is_leaf.ensures) in
    held-result (record { sfits = c.value_before-then-whole-2.type_inv })
    (c.value_before-then-whole-2.ensures ∙ ap coded (fby-left_arm N W q d n.0 c.in-6.is (m.fby_first n.0 c.in-6.is) c.if-whole-2.true c.left_end-left-then-whole-2.ensures ∙ m.moved.same_value N W refl c.requires.count_places))

pub returns-else-whole-2 : goal.returns-else-whole-2
returns-else-whole-2 t c =
    let N : Nodes = stored c.args.kinds.now c.args.values.now c.args.starts.now in
    let W : View = view c.args.window.now c.args.streams c.args.firsts.now c.args.whole in
    let m = c.shifted-inner.ensures in
    let d = c.shifted-inner.result.end in
    let q = c.shifted-inner.result.place in
    let n = not_leaf c.args.kinds.now d (sym c.if-is_leaf.ensures) in
    ap coded (fby-window_arm N W q d n.0 c.in-6.is (m.fby_first n.0 c.in-6.is) c.if-whole-2.false ∙ m.moved.same_value N W refl c.requires.count_places)

pub returns-after-is_leaf-6 : goal.returns-after-is_leaf-6
returns-after-is_leaf-6 t c =
    let N : Nodes = stored c.args.kinds.now c.args.values.now c.args.starts.now in
    let W : View = view c.args.window.now c.args.streams c.args.firsts.now c.args.whole in
    let m = c.shifted-inner.ensures in
    let d = c.shifted-inner.result.end in
    let q = c.shifted-inner.result.place in
    let n = not_leaf c.args.kinds.now d (sym c.if-is_leaf.ensures) in
    let l = c.left_end-left-in_default.result in
    let a : to_z w64 c.if-is_leaf-5.a-bits ≡ coded (part_value N W l q) = elim c.if-is_leaf-5.branch [
      | then-is_leaf-5 w ↦ leaf_operand N W q l (record { sfits = w.leaf-a.type_inv }) w.a-is w.if-is_leaf-5.ensures refl w.leaf-a.ensures
      | else-is_leaf-5 w ↦ part_operand N W q l (record { sfits = w.value_before-a-else-is_leaf-5.type_inv }) w.a-is w.value_before-a-else-is_leaf-5.ensures
    ] in
    let b : to_z w64 c.if-is_leaf-6.b-bits ≡ coded (part_value N W (d - 1) q) = elim c.if-is_leaf-6.branch [
      | then-is_leaf-6 w ↦ leaf_operand N W q (d - 1) (record { sfits = w.leaf-b.type_inv }) w.b-is w.if-is_leaf-6.ensures refl w.leaf-b.ensures
      | else-is_leaf-6 w ↦ part_operand N W q (d - 1) (record { sfits = w.value_before-b.type_inv }) w.b-is w.value_before-b.ensures
    ] in
    let k = n.1 in
    held-result (record { sfits = c.apply_coded.type_inv })
    (c.apply_coded.ensures ∙ ap coded (operator_arm N W q d n.0 (omega arith) c.left_end-left-in_default.ensures a b ∙ m.moved.same_value N W refl c.requires.count_places))
