-- The summary of a part is what its last node makes of the summaries of the parts that end before it.
use Prim.Native.Nat.{ℕ, suc, ◌≤◌}
use native.Mathlib.Omega.{arith}
use mathlib.Core.Path.{◌≡◌, refl, ◌∙◌, ap, ap₂}
use mathlib.Core.List.{List}
use Rattle.std.specs.Prelude.{Option}
use lib.IntN.{ℤ}
use lib.ListN.{get_or}
use Rattle.nodes.specs.Evaluate.{Nodes, Kind, integer_node, name_node, first_node, next_node, negation_node, conditional_node, fby_node, operator_node, kind_of, left_end, answer_up_to}
use Rattle.nodes.specs.Bounds.{no_summary, first_summary, next_summary, negation_summary, operator_summary, conditional_summary, fby_summary, summary_by_kind, summary_step, summary_before}
use Rattle.nodes.specs.declared.Range.{Range}
use Rattle.nodes.specs.declared.Summary.{Summary}
use Rattle.nodes.proofs.Parts.{left_within, answer-step}

-- Summaries are equal field by field.
pub summary-path : {r r' : Option Range} {a a' b b' f f' h h' : ℕ} → r ≡ r' → a ≡ a' → b ≡ b' → f ≡ f' → h ≡ h'
    → ◌≡◌ {A = Summary} (record { range = r; reach = a; back = b; firsts = f; furthest = h }) (record { range = r'; reach = a'; back = b'; firsts = f'; furthest = h' })
summary-path p q r s t = λ i. record { range = p i; reach = q i; back = r i; firsts = s i; furthest = t i }

module _ (N : Nodes) (lows highs : List ℤ) where
  module _ (f g : ℕ → Summary) (i : ℕ) (same : (e : ℕ) → e ≤ i → f e ≡ g e) where
    summary_by_kind_local : (k : Kind) → summary_by_kind N lows highs k f i ≡ summary_by_kind N lows highs k g i
    summary_by_kind_local integer_node = refl
    summary_by_kind_local name_node = refl
    summary_by_kind_local first_node = ap first_summary (same i (omega arith))
    summary_by_kind_local next_node = ap next_summary (same i (omega arith))
    summary_by_kind_local negation_node = ap negation_summary (same i (omega arith))
    summary_by_kind_local conditional_node =
        let m = left_within N.starts i i (omega arith) in
        ap (λ c. conditional_summary c (f (left_end N.starts i)) (f i)) (same _ (left_within N.starts i _ m)) ∙ ap₂ (conditional_summary (g (left_end N.starts (left_end N.starts i)))) (same _ m) (same i (omega arith))
    summary_by_kind_local fby_node = ap₂ fby_summary (same _ (left_within N.starts i i (omega arith))) (same i (omega arith))
    summary_by_kind_local operator_node = ap₂ (operator_summary (get_or N.kinds i 0)) (same _ (left_within N.starts i i (omega arith))) (same i (omega arith))

  -- The summary of the part of node i.
  pub summary_before-node : (i : ℕ) → summary_before N lows highs (suc i) ≡ summary_by_kind N lows highs (kind_of (get_or N.kinds i 0)) (summary_before N lows highs) i
  unfolding summary_before summary_step
  summary_before-node i = answer-step no_summary (summary_step N lows highs) i (λ f g h. summary_by_kind_local f g i h (kind_of (get_or N.kinds i 0)))

  pub summary_before-none : summary_before N lows highs 0 ≡ no_summary
  unfolding summary_before answer_up_to
  summary_before-none = refl
