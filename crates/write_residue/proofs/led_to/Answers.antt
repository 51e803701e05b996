-- `write_residue::led_to` meets its contract: each way out is what the definition says of the node and the place.
use Prim.Native.Nat.{◌-◌}
use native.Mathlib.Omega.{arith}
use mathlib.Core.Path.{◌≡◌, refl, sym, ◌∙◌, ap}
use mathlib.Core.List.{List}
use lib.IntN.{ℤ, pos}
use lib.ListN.{length, get_or}
use mir.Syntax.{w64}
use mir.ValLaws.{to_z-of_z}
use Rattle.nodes.specs.Evaluate.{Nodes, View, stored, view, numbered}
use Rattle.arithmetic.specs.Coded.{coded}
use Rattle.arithmetic.proofs.Coded.{held-result}
use Rattle.nodes.proofs.Parts.{left-before}
use Rattle.residue.proofs.Written.{decodes_lookup}
use Rattle.write_residue.proofs.Recursion.{first_arm, stored_arm, next_arm, next-none_arm, fby-left_arm, fby-window_arm, fby-right_arm}
use Rattle.write_residue.proofs.Answers.{moves-known}
use Rattle.write_residue.proofs.led_to.Goals as goal

pub returns-in-2 : goal.returns-in-2
returns-in-2 c =
    let nodes : Nodes = stored c.args.kinds.now c.args.values.now c.args.starts.now in
    let seen : List ℤ → View = λ window. view window c.args.older.streams c.args.firsts.now c.args.older.whole in
    let some : c.args.end ≡ 0 → ⊥ = λ z. omega (arith, c.requires.end_nonzero) in
    record { same = λ window. first_arm nodes (seen window) c.args.older.letters c.args.place c.args.end some c.in-2.is c.if-older.true; earlier = omega (arith, c.requires.end_nonzero) }

pub returns-in-2-2 : goal.returns-in-2-2
returns-in-2-2 c =
    let nodes : Nodes = stored c.args.kinds.now c.args.values.now c.args.starts.now in
    let seen : List ℤ → View = λ window. view window c.args.older.streams c.args.firsts.now c.args.older.whole in
    let some : c.args.end ≡ 0 → ⊥ = λ z. omega (arith, c.requires.end_nonzero) in
    moves-known (held-result (record { sfits = c.numbered.type_inv }) (c.numbered.ensures ∙ ap (λ z. coded (numbered c.args.firsts.now z)) (to_z-of_z w64 (get_or c.args.values.now (c.args.end - 1) (pos 0)) (record { sfits = omega arith })))) (decodes_lookup (length c.args.firsts.now) (λ k. get_or c.args.firsts.now k (pos 0)) (get_or c.args.values.now (c.args.end - 1) (pos 0)))
    (λ window. sym (stored_arm nodes (seen window) c.args.older.letters c.args.place c.args.end some c.in-2.is c.if-older.false))

pub returns-in-3 : goal.returns-in-3
returns-in-3 c =
    let nodes : Nodes = stored c.args.kinds.now c.args.values.now c.args.starts.now in
    let seen : List ℤ → View = λ window. view window c.args.older.streams c.args.firsts.now c.args.older.whole in
    let some : c.args.end ≡ 0 → ⊥ = λ z. omega (arith, c.requires.end_nonzero) in
    record { same = λ window. next_arm nodes (seen window) c.args.older.letters c.args.place c.args.end some c.in-3.is c.if-place-older.true; earlier = omega (arith, c.requires.end_nonzero) }

pub returns-in-3-2 : goal.returns-in-3-2
returns-in-3-2 c =
    let nodes : Nodes = stored c.args.kinds.now c.args.values.now c.args.starts.now in
    let seen : List ℤ → View = λ window. view window c.args.older.streams c.args.firsts.now c.args.older.whole in
    let some : c.args.end ≡ 0 → ⊥ = λ z. omega (arith, c.requires.end_nonzero) in
    moves-known (held-result (record { sfits = c.no_value_coded.type_inv }) c.no_value_coded.ensures) refl
    (λ window. sym (next-none_arm nodes (seen window) c.args.older.letters c.args.place c.args.end some c.in-3.is c.if-place-older.false))

-- A node of these that is no `first` and no `next` is a `fby`.
pub returns-in_default : goal.returns-in_default
returns-in_default c =
    let nodes : Nodes = stored c.args.kinds.now c.args.values.now c.args.starts.now in
    let seen : List ℤ → View = λ window. view window c.args.older.streams c.args.firsts.now c.args.older.whole in
    let some : c.args.end ≡ 0 → ⊥ = λ z. omega (arith, c.requires.end_nonzero) in
    let is-fby : get_or c.args.kinds.now (c.args.end - 1) 0 ≡ 6 = omega (arith, c.requires.end_nonzero, c.requires.fact) in
    let later : c.args.place ≡ 0 → ⊥ = λ z. omega arith in
    record { same = λ window. fby-right_arm nodes (seen window) c.args.older.letters c.args.place c.args.end some is-fby later; earlier = omega (arith, c.requires.end_nonzero) }

pub returns-in_default-2 : goal.returns-in_default-2
returns-in_default-2 c =
    let nodes : Nodes = stored c.args.kinds.now c.args.values.now c.args.starts.now in
    let seen : List ℤ → View = λ window. view window c.args.older.streams c.args.firsts.now c.args.older.whole in
    let some : c.args.end ≡ 0 → ⊥ = λ z. omega (arith, c.requires.end_nonzero) in
    let is-fby : get_or c.args.kinds.now (c.args.end - 1) 0 ≡ 6 = omega (arith, c.requires.end_nonzero, c.requires.fact) in
    let l = left-before c.args.starts.now (c.args.end - 1) (c.args.end - 1) c.left_end.ensures (omega arith) in
    record { same = λ window. fby-left_arm nodes (seen window) c.args.older.letters c.args.place c.args.end some is-fby (omega arith) c.if-older-2.true c.left_end.ensures; earlier = omega (arith, c.requires.end_nonzero) }

pub returns-in_default-3 : goal.returns-in_default-3
returns-in_default-3 c =
    let nodes : Nodes = stored c.args.kinds.now c.args.values.now c.args.starts.now in
    let seen : List ℤ → View = λ window. view window c.args.older.streams c.args.firsts.now c.args.older.whole in
    let some : c.args.end ≡ 0 → ⊥ = λ z. omega (arith, c.requires.end_nonzero) in
    let is-fby : get_or c.args.kinds.now (c.args.end - 1) 0 ≡ 6 = omega (arith, c.requires.end_nonzero, c.requires.fact) in
    moves-known refl refl
    (λ window. sym (fby-window_arm nodes (seen window) c.args.older.letters c.args.place c.args.end some is-fby (omega arith) c.if-older-2.false))
