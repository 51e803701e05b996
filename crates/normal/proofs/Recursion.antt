-- What each arm of the recursion over stored nodes writes: what a part adds is what its last node makes of what the parts add that end before it.
use Prim.Native.Nat.{ℕ, zero, suc, ◌-◌, ◌≤◌, ◌<◌}
use native.Mathlib.Omega.{arith}
use native.Mathlib.Decide.{ℕ_discrete}
use mathlib.Core.Path.{◌≡◌, refl, sym, ◌∙◌, ap, ap₂}
use mathlib.Core.List.{List}
use lib.ListN.{get_or}
use Rattle.nodes.proofs.ByKind.{part-by-kind}
use Rattle.nodes.specs.Evaluate.{Kind, integer_node, name_node, first_node, next_node, negation_node, conditional_node, fby_node, operator_node, kind_of, left_end, answer_up_to}
use Rattle.nodes.proofs.Parts.{left_end-≤, answer-step, kind_of-operator}
use Rattle.normal.specs.Rows.{Rewriting, nothing_added, both_rewritings, next_rewriting, fby_rewriting}
use Rattle.normal.specs.Stored.{rewriting_by_kind, rewriting_step, rewriting_before}
use Rattle.normal.specs.Table.{RewritingFits}
use Rattle.normal.proofs.Writing.{room-left, room-fby-left}

module _ (kinds starts : List ℕ) where
  module _ (f g : ℕ → Rewriting) (i : ℕ) (same : (e : ℕ) → e ≤ i → f e ≡ g e) where
    same_left : (e : ℕ) → e ≤ i → left_end starts e ≤ i
    same_left e h = let l = left_end-≤ starts e in omega arith

    rewriting_by_kind_local : (k : Kind) → rewriting_by_kind starts k f i ≡ rewriting_by_kind starts k g i
    rewriting_by_kind_local integer_node = refl
    rewriting_by_kind_local name_node = refl
    rewriting_by_kind_local first_node = same i (omega arith)
    rewriting_by_kind_local next_node = ap (next_rewriting i) (same i (omega arith))
    rewriting_by_kind_local negation_node = same i (omega arith)
    rewriting_by_kind_local conditional_node =
        let m = same_left i (omega arith) in
        ap₂ both_rewritings (same _ (same_left _ m)) (ap₂ both_rewritings (same _ m) (same i (omega arith)))
    rewriting_by_kind_local fby_node = ap₂ (fby_rewriting (left_end starts i) i) (same _ (same_left i (omega arith))) (same i (omega arith))
    rewriting_by_kind_local operator_node = ap₂ both_rewritings (same _ (same_left i (omega arith))) (same i (omega arith))

  -- What the part of node i adds.
  pub rewriting_before-node : (i : ℕ) → rewriting_before kinds starts (suc i) ≡ rewriting_by_kind starts (kind_of (get_or kinds i 0)) (rewriting_before kinds starts) i
  unfolding rewriting_before rewriting_step
  rewriting_before-node i = answer-step nothing_added (rewriting_step kinds starts) i (λ f g h. rewriting_by_kind_local f g i h (kind_of (get_or kinds i 0)))

  pub rewriting_before-none : {e : ℕ} → e ≡ 0 → rewriting_before kinds starts e ≡ nothing_added
  unfolding rewriting_before answer_up_to
  rewriting_before-none q = ap (rewriting_before kinds starts) q

  abbrev before : ℕ → Rewriting
  before = rewriting_before kinds starts

  module _ (e : ℕ) (h : e ≡ 0 → ⊥) where
    by_kind : (k : Kind) → kind_of (get_or kinds (e - 1) 0) ≡ k → before e ≡ rewriting_by_kind starts k before (e - 1)
    by_kind k q = sym (part-by-kind kinds before (λ j i. rewriting_by_kind starts j before i) rewriting_before-node e h k q)

    by_number : (k : ℕ) → get_or kinds (e - 1) 0 ≡ k → before e ≡ rewriting_by_kind starts (kind_of k) before (e - 1)
    by_number k q = by_kind (kind_of k) (ap kind_of q)

    pub leaf_arm : get_or kinds (e - 1) 0 < 2 → before e ≡ nothing_added
    leaf_arm q = by-small (get_or kinds (e - 1) 0) refl q
      where
        by-small : (k : ℕ) → get_or kinds (e - 1) 0 ≡ k → k < 2 → before e ≡ nothing_added
        by-small zero p l = by_number 0 p
        by-small (suc zero) p l = by_number 1 p
        by-small (suc (suc k)) p l = absurd (omega arith)

    pub next_arm : get_or kinds (e - 1) 0 ≡ 3 → before e ≡ next_rewriting (e - 1) (before (e - 1))
    next_arm q = by_number 3 q

    -- The kinds of `first` and `not`.
    pub same_arm : 2 ≤ get_or kinds (e - 1) 0 → (get_or kinds (e - 1) 0 ≡ 3 → ⊥) → get_or kinds (e - 1) 0 < 5 → before e ≡ before (e - 1)
    same_arm n t l = by-small (get_or kinds (e - 1) 0) refl n t l
      where
        by-small : (k : ℕ) → get_or kinds (e - 1) 0 ≡ k → 2 ≤ k → (k ≡ 3 → ⊥) → k < 5 → before e ≡ before (e - 1)
        by-small zero p n t l = absurd (omega arith)
        by-small (suc zero) p n t l = absurd (omega arith)
        by-small (suc (suc zero)) p n t l = by_number 2 p
        by-small (suc (suc (suc zero))) p n t l = absurd (t refl)
        by-small (suc (suc (suc (suc zero)))) p n t l = by_number 4 p
        by-small (suc (suc (suc (suc (suc k))))) p n t l = absurd (omega arith)

    module _ {m : ℕ} (em : m ≡ left_end starts (e - 1)) where
      pub conditional_arm : get_or kinds (e - 1) 0 ≡ 5 → {l : ℕ} → l ≡ left_end starts m → before e ≡ both_rewritings (before l) (both_rewritings (before m) (before (e - 1)))
      conditional_arm q {l} el = by_number 5 q ∙ sym (ap₂ (λ x y. both_rewritings (before x) (both_rewritings (before y) (before (e - 1)))) (el ∙ ap (left_end starts) em) em)

      pub fby_arm : get_or kinds (e - 1) 0 ≡ 6 → before e ≡ fby_rewriting m (e - 1) (before m) (before (e - 1))
      fby_arm q = by_number 6 q ∙ sym (ap (λ x. fby_rewriting x (e - 1) (before x) (before (e - 1))) em)

      pub operator_arm : 7 ≤ get_or kinds (e - 1) 0 → before e ≡ both_rewritings (before m) (before (e - 1))
      operator_arm k = by_kind operator_node (kind_of-operator (get_or kinds (e - 1) 0) k) ∙ sym (ap (λ x. both_rewritings (before x) (before (e - 1))) em)

      -- The left part of an `fby` or of an operator.
      pub left-room : 5 ≤ get_or kinds (e - 1) 0 → (get_or kinds (e - 1) 0 ≡ 5 → ⊥) → {row n : ℕ} → RewritingFits (before e) row n → RewritingFits (before m) row n
      left-room k q {row} {n} h = by (ℕ_discrete (get_or kinds (e - 1) 0) 6)
        where
          by : Dec (get_or kinds (e - 1) 0 ≡ 6) → RewritingFits (before m) row n
          by (yes p) = room-fby-left m (e - 1) (before m) (before (e - 1)) (fby_arm p) h
          by (no p) = room-left (before m) (before (e - 1)) (operator_arm (omega arith)) h
