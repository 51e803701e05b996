-- A `not` before a `not` negates a second time, and one more before them takes that back.
use Prim.Native.Nat.{ℕ, ◌-◌}
use native.Mathlib.Omega.{arith}
use mathlib.Core.Path.{◌≡◌, refl, sym, ◌∙◌, ap}
use mathlib.Core.Bool.{Bool, true, false, cond, not}
use mathlib.Core.List.{List}
use lib.ListN.{get_or}
use Rattle.meaning.specs.Value.{nonzero, bit}
use Rattle.nodes.specs.Bounded.{no_value, some_value}
use Rattle.nodes.specs.Evaluate.{Nodes, View, negated_result, part_value}
use Rattle.nodes.specs.declared.Evaluated.{Evaluated}
use Rattle.arithmetic.proofs.Coded.{Decodes, decodes_none, decodes_bit, decodes_cond}
use Rattle.evaluate.specs.Negation.{negated_by, Negates}
use Rattle.evaluate.proofs.Recursion.{negation_arm}

pub decodes_negated : (v : Evaluated) → Decodes (negated_result v)
decodes_negated v = decodes_cond v.ok (decodes_bit (not (nonzero v.value))) decodes_none

thrice : (v : Evaluated) → negated_result (negated_result (negated_result v)) ≡ negated_result v
thrice v = by v.ok (nonzero v.value)
  where
    by : (o t : Bool) → negated_result (negated_result (cond o (some_value (bit (not t))) no_value)) ≡ cond o (some_value (bit (not t))) no_value
    by true true = refl
    by true false = refl
    by false true = refl
    by false false = refl

pub negates_none : {kinds : List ℕ} {e : ℕ} → Negates kinds e e false
negates_none = record { ends_within = omega arith; same_value = λ N W p s. refl }

pub negates_more : {kinds : List ℕ} {e d : ℕ} (again : Bool) → Negates kinds e d again → (d ≡ 0 → ⊥) → get_or kinds (d - 1) 0 ≡ 4 → Negates kinds e (d - 1) (not again)
negates_more {kinds} {e} {d} again m h k = record { ends_within = omega (arith, m.ends_within); same_value = λ N W p s. by N W p s again (m.same_value N W p s) }
  where
    by : (N : Nodes) (W : View) (p : ℕ) → N.kinds ≡ kinds → (b : Bool) → negated_by b (part_value N W d p) ≡ negated_result (part_value N W e p)
        → negated_by (not b) (part_value N W (d - 1) p) ≡ negated_result (part_value N W e p)
    by N W p s true q = sym (thrice (part_value N W (d - 1) p)) ∙ ap (λ v. negated_result (negated_result v)) (negation_arm N W p d h (ap (λ (x : List ℕ). get_or x (d - 1) 0) s ∙ k) refl) ∙ q
    by N W p s false q = ap negated_result (negation_arm N W p d h (ap (λ (x : List ℕ). get_or x (d - 1) 0) s ∙ k) refl) ∙ q
