-- The value of a part is what its last node makes of the values of the parts that end before it.
use Prim.Native.Nat.{ℕ, zero, suc, ◌≤◌}
use native.Mathlib.Omega.{arith}
use mathlib.Core.Path.{◌≡◌, refl, ◌∙◌, ap, ap₂, fun_ext}
use mathlib.Core.Bool.{cond}
use lib.ListN.{get_or}
use lib.Dec.{ltb}
use lib.IntN.{pos}
use Rattle.nodes.specs.Bounded.{no_value, some_value}
use Rattle.nodes.specs.declared.Evaluated.{Evaluated}
use Rattle.nodes.specs.Evaluate.{Nodes, View, places, Kind, integer_node, name_node, first_node, next_node, negation_node, conditional_node, fby_node, operator_node, kind_of, answer_up_to, numbered, negated_result, chosen_result, operated, value_by_kind, value_step, part_value}
use Rattle.nodes.proofs.Parts.{left_within, answer-step}

chosen_cong : {c c' a a' b b' : Evaluated} → c ≡ c' → a ≡ a' → b ≡ b' → chosen_result c a b ≡ chosen_result c' a' b'
chosen_cong {c} {c'} {a} {a'} {b} {b'} p q r = ap (λ x. chosen_result x a b) p ∙ ap₂ (chosen_result c') q r

module _ (N : Nodes) (W : View) where
  module _ (f g : ℕ → ℕ → Evaluated) (i : ℕ) (same : (e : ℕ) → e ≤ i → f e ≡ g e) where
    same_at : (e : ℕ) → e ≤ i → (p : ℕ) → f e p ≡ g e p
    same_at e h p = ap (λ u. u p) (same e h)

    value_by_kind_local : (k : Kind) (p : ℕ) → value_by_kind N W k f i p ≡ value_by_kind N W k g i p
    value_by_kind_local integer_node p = refl
    value_by_kind_local name_node p = refl
    value_by_kind_local first_node p = ap (λ x. cond W.whole x (numbered W.firsts (get_or N.values i (pos 0)))) (same_at i (omega arith) 0)
    value_by_kind_local next_node p = ap (λ x. cond (ltb (suc p) (places W)) x no_value) (same_at i (omega arith) (suc p))
    value_by_kind_local negation_node p = ap negated_result (same_at i (omega arith) p)
    value_by_kind_local conditional_node p =
        let m = left_within N.starts i i (omega arith) in
        chosen_cong (same_at _ (left_within N.starts i _ m) p) (same_at _ m p) (same_at i (omega arith) p)
    value_by_kind_local fby_node zero = ap (λ x. cond W.whole x (some_value (pos 0))) (same_at _ (left_within N.starts i i (omega arith)) 0)
    value_by_kind_local fby_node (suc p) = same_at i (omega arith) p
    value_by_kind_local operator_node p = ap₂ (operated (get_or N.kinds i 0)) (same_at _ (left_within N.starts i i (omega arith)) p) (same_at i (omega arith) p)

  -- The value of the part of node i.
  pub value_before-node : (i p : ℕ) → part_value N W (suc i) p ≡ value_by_kind N W (kind_of (get_or N.kinds i 0)) (part_value N W) i p
  unfolding part_value value_step
  value_before-node i p =
      ap (λ u. u p) (answer-step (λ p. no_value) (value_step N W) i (λ f g h. fun_ext (value_by_kind_local f g i h (kind_of (get_or N.kinds i 0)))))

  pub value_before-none : (p : ℕ) → part_value N W 0 p ≡ no_value
  unfolding part_value answer_up_to
  value_before-none p = refl
