-- `write_residue::write_residue` meets its contract: a node that is not there has no value, and any other is what the recursion writes. The slices tell how
-- many elements the arrays have.
use Prim.Native.Nat.{◌+◌}
use native.Mathlib.Omega.{arith}
use mathlib.Core.Path.{◌≡◌, ◌∙◌, ap}
use lib.ListN.{length}
use Rattle.nodes.specs.Evaluate.{Nodes, View, stored, view}
use Rattle.arithmetic.proofs.Coded.{held-result}
use Rattle.evaluate.proofs.Recursion.{HasArrays}
use Rattle.residue.specs.Residue.{residue_before}
use Rattle.write_residue.proofs.Recursion.{no_node, root_residue}
use Rattle.write_residue.proofs.Answers.{wrote-known, wrote_as, wrote-cut}
use Rattle.write_residue.proofs.write_residue.Goals as goal

pub returns-then-root-ge1024 : goal.returns-then-root-ge1024
returns-then-root-ge1024 c =
    let nodes : Nodes = stored c.args.kinds.now c.args.values.now c.args.starts.now in
    let news : Nodes = stored c.args.new_kinds.now c.args.new_values.now c.args.new_starts.now in
    let seen : View = view c.args.window.now c.args.streams c.args.firsts.now c.args.whole in
    let arrays : length c.args.kinds.now ≡ 1024 → length c.args.values.now ≡ 1024 → length c.args.starts.now ≡ 1024 → HasArrays nodes = λ k v t. record { kinds = k; values = v; starts = t } in
    let new-arrays : length c.args.new_kinds.now ≡ 1024 → length c.args.new_values.now ≡ 1024 → length c.args.new_starts.now ≡ 1024 → HasArrays news = λ k v t. record { kinds = k; values = v; starts = t } in
    let l = c.letter_count-letters.ensures in
    wrote-cut c.min-from.ensures (new-arrays (omega arith) (omega arith) (omega arith))
    (wrote-known c.write_known.ensures (held-result (record { sfits = c.no_value_coded.type_inv }) c.no_value_coded.ensures)
    (no_node (arrays (omega arith) (omega arith) (omega arith)) seen _ c.args.root c.args.place c.if-root-ge1024.true))

pub returns : goal.returns
returns c =
    let nodes : Nodes = stored c.args.kinds.now c.args.values.now c.args.starts.now in
    let news : Nodes = stored c.args.new_kinds.now c.args.new_values.now c.args.new_starts.now in
    let seen : View = view c.args.window.now c.args.streams c.args.firsts.now c.args.whole in
    let arrays : length c.args.kinds.now ≡ 1024 → length c.args.values.now ≡ 1024 → length c.args.starts.now ≡ 1024 → HasArrays nodes = λ k v t. record { kinds = k; values = v; starts = t } in
    let new-arrays : length c.args.new_kinds.now ≡ 1024 → length c.args.new_values.now ≡ 1024 → length c.args.new_starts.now ≡ 1024 → HasArrays news = λ k v t. record { kinds = k; values = v; starts = t } in
    wrote-cut c.min-from.ensures (new-arrays (omega arith) (omega arith) (omega arith))
    (wrote_as c.write_before.ensures
    (ap (λ k. residue_before nodes seen k (c.args.root + 1) c.args.place) c.letter_count-letters.ensures
    ∙ root_residue (arrays (omega arith) (omega arith) (omega arith)) seen _ c.args.root c.args.place (omega (arith, c.if-root-ge1024.false))))
