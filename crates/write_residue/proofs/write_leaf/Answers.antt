-- `write_residue::write_leaf` meets its contract: an integer is known, and so is a name that is read from an older letter.
use Prim.Native.Nat.{◌-◌}
use native.Mathlib.Omega.{arith}
use mathlib.Core.Path.{◌≡◌, sym, ◌∙◌, ap, subst}
use lib.IntN.{ℤ, pos}
use lib.ListN.{get_or}
use mir.Syntax.{w64}
use mir.ValLaws.{to_z-of_z}
use Rattle.nodes.specs.Bounded.{bounded}
use Rattle.nodes.specs.Evaluate.{Nodes, View, stored, view}
use Rattle.arithmetic.specs.Coded.{coded}
use Rattle.arithmetic.proofs.Coded.{held-result}
use Rattle.evaluate.proofs.Recursion.{HasArrays}
use Rattle.residue.specs.Residue.{Residue, varying, name_tree}
use Rattle.write_residue.specs.Wrote.{varying_at, Wrote}
use Rattle.write_residue.proofs.Recursion.{integer_arm, older_arm, newest_arm, name-value}
use Rattle.write_residue.proofs.Answers.{name-wrote, wrote-known}
use Rattle.write_residue.proofs.write_leaf.Goals as goal

-- A leaf that is no integer is a name.
pub returns-then-kinds-i-eq-INTEGER_NODE : goal.returns-then-kinds-i-eq-INTEGER_NODE
returns-then-kinds-i-eq-INTEGER_NODE c =
    let nodes : Nodes = stored c.args.kinds.now c.args.values.now c.args.starts.now in
    let seen : View = view c.args.window.now c.args.older.streams c.args.firsts.now c.args.older.whole in
    let some : c.args.part.end ≡ 0 → ⊥ = λ z. omega (arith, c.requires.end_nonzero.0) in
    let number : ℤ = get_or c.args.values.now (c.args.part.end - 1) (pos 0) in
    wrote-known c.write_known.ensures (held-result (record { sfits = c.bounded_coded.type_inv }) (c.bounded_coded.ensures ∙ ap (λ z. coded (bounded z)) (to_z-of_z w64 number (record { sfits = omega arith })))) (integer_arm nodes seen c.args.older.letters c.args.part.place c.args.part.end some c.if-kinds-i-eq-INTEGER_NODE.true)

pub returns-then-part-older : goal.returns-then-part-older
returns-then-part-older c =
    let nodes : Nodes = stored c.args.kinds.now c.args.values.now c.args.starts.now in
    let seen : View = view c.args.window.now c.args.older.streams c.args.firsts.now c.args.older.whole in
    let some : c.args.part.end ≡ 0 → ⊥ = λ z. omega (arith, c.requires.end_nonzero.0) in
    let is_name : (get_or c.args.kinds.now (c.args.part.end - 1) 0 ≡ 0 → ⊥) → get_or c.args.kinds.now (c.args.part.end - 1) 0 ≡ 1 = λ n. omega (arith, c.requires.end_nonzero.1, n) in
    let a : HasArrays nodes = record { kinds = omega arith; values = omega arith; starts = omega arith } in
    let v = name-value nodes seen (c.args.part.end - 1) c.args.part.place a (omega (arith, c.requires.asked.end_within, c.requires.end_nonzero.0)) (omega (arith, c.requires.asked.letters_places, c.if-part-older.true)) (is_name c.if-kinds-i-eq-INTEGER_NODE.false) in
    wrote-known c.write_known-then-part-older.ensures (held-result (record { sfits = c.evaluate-value.type_inv }) (c.evaluate-value.ensures ∙ ap coded v)) (older_arm nodes seen c.args.older.letters c.args.part.place c.args.part.end some (is_name c.if-kinds-i-eq-INTEGER_NODE.false) c.if-part-older.true)

pub returns : goal.returns
returns c =
    let nodes : Nodes = stored c.args.kinds.now c.args.values.now c.args.starts.now in
    let news : Nodes = stored c.args.new_kinds.now c.args.new_values.now c.args.new_starts.now in
    let seen : View = view c.args.window.now c.args.older.streams c.args.firsts.now c.args.older.whole in
    let some : c.args.part.end ≡ 0 → ⊥ = λ z. omega (arith, c.requires.end_nonzero.0) in
    let number : ℤ = get_or c.args.values.now (c.args.part.end - 1) (pos 0) in
    let is_name : (get_or c.args.kinds.now (c.args.part.end - 1) 0 ≡ 0 → ⊥) → get_or c.args.kinds.now (c.args.part.end - 1) 0 ≡ 1 = λ n. omega (arith, c.requires.end_nonzero.1, n) in
    let name : ℤ → Type 0 = λ z. Wrote news (stored c.append.new.new_kinds c.append.new.new_values c.append.new.new_starts) c.args.part.at (varying (name_tree z)) (varying_at c.append.result) in
    let answer : Residue → Type 0 = λ r. Wrote news (stored c.append.new.new_kinds c.append.new.new_values c.append.new.new_starts) c.args.part.at r c.varying.result in
    subst answer (newest_arm nodes seen c.args.older.letters c.args.part.place c.args.part.end some (is_name c.if-kinds-i-eq-INTEGER_NODE.false) c.if-part-older.false)
    (subst (Wrote news (stored c.append.new.new_kinds c.append.new.new_values c.append.new.new_starts) c.args.part.at (varying (name_tree (get_or c.args.values.now (c.args.part.end - 1) (pos 0))))) (sym c.varying.ensures) (subst name (to_z-of_z w64 number (record { sfits = omega arith })) (name-wrote c.append.ensures)))
