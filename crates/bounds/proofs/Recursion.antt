-- What each arm of the recursion answers: the summary of the part that ends at e, from its last node and the summaries of the parts before.
use Prim.Native.Nat.{ℕ, ◌+◌, ◌-◌, ◌≤◌, ◌<◌}
use native.Mathlib.Numerals.{add-one}
use mathlib.Core.Path.{◌≡◌, sym, ◌∙◌, ap, ap₂}
use mathlib.Core.List.{List}
use Rattle.std.specs.Prelude.{Option}
use lib.IntN.{ℤ, pos}
use lib.ListN.{length, get_or}
use borrow.Author.Tests.{lt-ltb, le-ltb}
use mir.Syntax.{w64}
use mir.Val.{SFits}
use mir.ValLaws.{to_z-of_z}
use Rattle.nodes.proofs.ByKind.{part-by-kind}
use Rattle.nodes.specs.Evaluate.{Nodes, Kind, operator_node, kind_of, left_end}
use Rattle.nodes.specs.Bounds.{range_within, stream_range, no_summary, leaf_summary, operator_summary, conditional_summary, fby_summary, summary_by_kind, summary_before, node_summary}
use Rattle.nodes.specs.declared.Range.{Range}
use Rattle.nodes.specs.declared.Summary.{Summary}
use Rattle.nodes.proofs.Parts.{kind_of-operator}
use Rattle.nodes.proofs.Summing.{summary_before-node, summary_before-none}
use Rattle.arithmetic.proofs.Machine.{held}
use Rattle.bounds.proofs.Ranges.{between}

module _ (N : Nodes) (lows highs : List ℤ) where
  abbrev before : ℕ → Summary
  before = summary_before N lows highs

  pub none_before : {e : ℕ} → e ≡ 0 → no_summary ≡ before e
  none_before {e} z = sym (ap before z ∙ summary_before-none N lows highs)

  module _ (e : ℕ) (h : e ≡ 0 → ⊥) where
    by_kind : {x : Summary} (k : Kind) → kind_of (get_or N.kinds (e - 1) 0) ≡ k → x ≡ summary_by_kind N lows highs k before (e - 1) → x ≡ before e
    by_kind k q r = r ∙ part-by-kind N.kinds before (λ j i. summary_by_kind N lows highs j before i) (summary_before-node N lows highs) e h k q

    by_number : (k : ℕ) → get_or N.kinds (e - 1) 0 ≡ k → {x : Summary} → x ≡ summary_by_kind N lows highs (kind_of k) before (e - 1) → x ≡ before e
    by_number k q r = by_kind (kind_of k) (ap kind_of q) r

    module _ {r : Option Range} (f : SFits w64 (get_or N.values (e - 1) (pos 0))) where
      pub integer_arm : get_or N.kinds (e - 1) 0 ≡ 0 → r ≡ range_within (between (held (get_or N.values (e - 1) (pos 0))) (held (get_or N.values (e - 1) (pos 0)))) → leaf_summary r ≡ before e
      integer_arm q t = by_number 0 q (ap leaf_summary (t ∙ ap (λ z. range_within (between z z)) (to_z-of_z w64 _ f)))

      pub name_arm : get_or N.kinds (e - 1) 0 ≡ 1 → r ≡ stream_range lows highs (held (get_or N.values (e - 1) (pos 0))) → leaf_summary r ≡ before e
      name_arm q t = by_number 1 q (ap leaf_summary (t ∙ ap (stream_range lows highs) (to_z-of_z w64 _ f)))

    pub conditional_arm : get_or N.kinds (e - 1) 0 ≡ 5 → {m l : ℕ} → m ≡ left_end N.starts (e - 1) → l ≡ left_end N.starts m
        → {c a b : Summary} → c ≡ before l → a ≡ before m → b ≡ before (e - 1) → conditional_summary c a b ≡ before e
    conditional_arm q {m} {l} em el {c} {a} {b} rc ra rb =
        by_number 5 q
        (ap (λ x. conditional_summary x a b) (rc ∙ ap before (el ∙ ap (left_end N.starts) em)) ∙ ap₂ (conditional_summary (before (left_end N.starts (left_end N.starts (e - 1))))) (ra ∙ ap before em) rb)

    module _ {l : ℕ} (el : l ≡ left_end N.starts (e - 1)) {a b : Summary} (ra : a ≡ before l) (rb : b ≡ before (e - 1)) where
      pub fby_arm : get_or N.kinds (e - 1) 0 ≡ 6 → fby_summary a b ≡ before e
      fby_arm q = by_number 6 q (ap₂ fby_summary (ra ∙ ap before el) rb)

      pub operator_arm : 7 ≤ get_or N.kinds (e - 1) 0 → operator_summary (get_or N.kinds (e - 1) 0) a b ≡ before e
      operator_arm k = by_kind operator_node (kind_of-operator (get_or N.kinds (e - 1) 0) k) (ap₂ (operator_summary (get_or N.kinds (e - 1) 0)) (ra ∙ ap before el) rb)

-- ---- the summary of a node

module _ (N : Nodes) (lows highs : List ℤ) (root : ℕ) where
  pub no_kind : length N.kinds ≤ root → no_summary ≡ node_summary N lows highs root
  unfolding node_summary
  no_kind h = sym (simp (le-ltb root (length N.kinds) h))

  module _ (k : root < length N.kinds) where
    pub no_stored : length N.values ≤ root → no_summary ≡ node_summary N lows highs root
    unfolding node_summary
    no_stored h = sym (simp (lt-ltb root (length N.kinds) k, le-ltb root (length N.values) h))

    module _ (v : root < length N.values) where
      pub no_start : length N.starts ≤ root → no_summary ≡ node_summary N lows highs root
      unfolding node_summary
      no_start h = sym (simp (lt-ltb root (length N.kinds) k, lt-ltb root (length N.values) v, le-ltb root (length N.starts) h))

      pub root_summary : root < length N.starts → summary_before N lows highs (root + 1) ≡ node_summary N lows highs root
      unfolding node_summary
      root_summary s =
          ap (summary_before N lows highs) (add-one root)
          ∙ sym (simp (lt-ltb root (length N.kinds) k, lt-ltb root (length N.values) v, lt-ltb root (length N.starts) s))
