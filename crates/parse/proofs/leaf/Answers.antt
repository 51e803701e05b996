-- `parse::leaf` meets its contract: an integer first, else a name that is not reserved.
use mathlib.Core.Path.{◌≡◌, sym, ap, subst, ◌∙◌}
use Rattle.std.proofs.Common.{rules}
use Rattle.scan.specs.Integer.{no_integer}
use mathlib.Core.Bool.{not}
use mathlib.Core.List.{[], ◌∷◌}
use native.Mathlib.Omega.{arith}
use lib.Dec.{T}
use mir.Syntax.{w64}
use mir.ValLaws.{to_z-of_z}
use lib.IntN.{pos}
use Rattle.nodes.specs.Evaluate.{Nodes, stored}
use Rattle.text.specs.Bytes.{tokens}
use Rattle.text.specs.Token.{is_name, is_reserved}
use Rattle.nodes.specs.Postfix.{node}
use Rattle.parse.specs.Stored.{store}
use Rattle.parse.proofs.Store.{below_refl}
use Rattle.parse.proofs.Leaves.{an_integer, no_integer_lem, integer-fits, leaf_integer, leaf_name, leaf_missing, reserved_no_name, not-a-name, place-length}
use Rattle.parse.proofs.leaf.Goals as goal
use Rattle.parse.proofs.leaf.Goals.{then-is_reserved-via-then-is_reserved, then-is_reserved-via-else-is_reserved+then-not-is_name}

pub returns-then-ne : goal.returns-then-ne
returns-then-ne c =
    let before : Nodes = stored c.args.kinds.now c.args.values.now c.args.starts.now in
    let word = c.args.word.now in
    let some : c.read_integer-integer.result ≡ no_integer → ⊥ = λ e. search rules in
    let is = an_integer word c.read_integer-integer.ensures some c.is_err.ensures.value c.unwrap_or-value.ensures in
    let n = c.args.nodes in
    leaf_integer (tokens c.args.names.now) word c.args.next is (c.put.ensures ∙ ap (λ z. store (before) n (node 0 z n ∷ [])) (to_z-of_z w64 c.unwrap_or-value.result (integer-fits is)))

pub returns-then-is_reserved : goal.returns-then-is_reserved
returns-then-is_reserved c =
    let none : c.read_integer-integer.result ≡ no_integer = search rules in
    let missing = no_integer_lem c.args.word.now c.read_integer-integer.ensures none in
    elim c.then-is_reserved.branch [
      | then-is_reserved-via-then-is_reserved w ↦ leaf_missing (tokens c.args.names.now) c.args.word.now c.args.next c.nothing.ensures missing (reserved_no_name c.args.word.now (sym c.is_reserved.ensures ∙ w.if-is_reserved.true)) (below_refl _ _)
      | then-is_reserved-via-else-is_reserved+then-not-is_name w ↦ leaf_missing (tokens c.args.names.now) c.args.word.now c.args.next c.nothing.ensures missing (not-a-name c.args.word.now (sym w.is_name.ensures ∙ w.if-not-is_name.true)) (below_refl _ _)
    ]

pub value_of-place-requires : goal.value_of-place-requires
value_of-place-requires c = let few = place-length c.args.names.now c.args.word.now in omega (arith, c.place_of.ensures, c.well_formed)

pub returns : goal.returns
returns c =
    let before : Nodes = stored c.args.kinds.now c.args.values.now c.args.starts.now in
    let word = c.args.word.now in
    let is : T (is_name word) = subst T c.is_name.ensures (subst T (sym c.if-not-is_name.false) tt) in
    let other : T (not (is_reserved word)) = subst (λ b. T (not b)) (sym (sym c.is_reserved.ensures ∙ c.if-is_reserved.false)) tt in
    leaf_name (tokens c.args.names.now) word c.args.next is other (c.put-2.ensures ∙ ap (λ z. store (before) c.args.nodes (node 1 z c.args.nodes ∷ [])) (to_z-of_z w64 c.value_of-place.result (record { sfits = c.value_of-place.type_inv }) ∙ c.value_of-place.ensures ∙ ap pos c.place_of.ensures))
