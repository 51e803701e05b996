-- What each arm of the recursion answers: the value of the part that ends at e, from its last node and the values of the parts before.
use Prim.Native.Nat.{ℕ, suc, ◌+◌, ◌-◌, ◌/◌, ◌≤◌, ◌<◌}
use native.Mathlib.Omega.{arith}
use native.Mathlib.Decide.{ℕ_discrete}
use native.Mathlib.Numerals.{add-one}
use mathlib.Core.Path.{◌≡◌, sym, ◌∙◌, ap, ap₂}
use mathlib.Core.Bool.{Bool, true, false}
use lib.IntN.{ℤ, pos}
use lib.ListN.{length, get_or}
use borrow.Author.Tests.{leb-true, lt-ltb, le-ltb, eq-eqb, ne_eqb}
use mir.Syntax.{w64}
use mir.Val.{SFits}
use mir.ValLaws.{to_z-of_z}
use Rattle.meaning.specs.Value.{nonzero}
use Rattle.nodes.proofs.ByKind.{part-by-kind}
use Rattle.nodes.specs.Bounded.{no_value, bounded, applied_by_kind}
use Rattle.nodes.specs.Evaluate.{Nodes, View, has_node, places, Kind, operator_node, kind_of, left_end, numbered, negated_result, chosen_result, operated, followed, value_by_kind, part_value, node_value}
use Rattle.nodes.specs.declared.Evaluated.{Evaluated}
use Rattle.nodes.proofs.Parts.{kind_of-operator}
use Rattle.nodes.proofs.Evaluate.{value_before-node, value_before-none}
use Rattle.arithmetic.specs.Coded.{coded}
use Rattle.arithmetic.proofs.Machine.{held}
use Rattle.arithmetic.proofs.Coded.{held-result}
use Rattle.evaluate.specs.Leaf.{is_leaf, leaf_value}
use Rattle.evaluate.specs.Ready.{Ready}
use Rattle.evaluate.proofs.Leaves.{leaf_last}
use Rattle.evaluate.proofs.Decoding.{applied_coded}

-- ---- what a call of a part needs

-- A part that ends before e is stored where the part that ends at e is.
pub ready-part : {W : View} {count e p : ℕ} (d q : ℕ) → Ready W count e p → d ≤ e → q < count → Ready W count d q
ready-part d q r h k = record { end_within = omega arith; count_places = r.count_places; place_within = k }

-- So is a leaf's node, and the place is in the window.
pub ready_leaf : {W : View} {count e p : ℕ} (d : ℕ) → Ready W count e p → d ≤ e → (d ≤ 1024) × (p < length W.window / W.streams)
ready_leaf d r h = (omega arith, omega arith)

module _ (N : Nodes) (W : View) (p : ℕ) where
  abbrev before : ℕ → ℕ → Evaluated
  before = part_value N W

  pub none_before : {e : ℕ} → e ≡ 0 → no_value ≡ before e p
  none_before {e} z = sym (ap (λ d. before d p) z ∙ value_before-none N W p)

  module _ (e : ℕ) (h : e ≡ 0 → ⊥) where
    -- The value by the kind of the last node.
    by_kind : {x : Evaluated} (k : Kind) → kind_of (get_or N.kinds (e - 1) 0) ≡ k → x ≡ value_by_kind N W k before (e - 1) p → x ≡ before e p
    by_kind k q r = r ∙ part-by-kind N.kinds (λ d. before d p) (λ j i. value_by_kind N W j before i p) (λ i. value_before-node N W i p) e h k q

    module _ (k : ℕ) (q : get_or N.kinds (e - 1) 0 ≡ k) where
      by_number : {x : Evaluated} → x ≡ value_by_kind N W (kind_of k) before (e - 1) p → x ≡ before e p
      by_number r = by_kind (kind_of k) (ap kind_of q) r

    -- The stored value was held on the way.
    pub stored_arm : SFits w64 (get_or N.values (e - 1) (pos 0)) → get_or N.kinds (e - 1) 0 ≡ 2 → W.whole ≡ false
        → numbered W.firsts (held (get_or N.values (e - 1) (pos 0))) ≡ before e p
    stored_arm f q w = by_number 2 q (ap (numbered W.firsts) (to_z-of_z w64 _ f) ∙ sym (simp w))

    pub first_arm : get_or N.kinds (e - 1) 0 ≡ 2 → W.whole ≡ true → before (e - 1) 0 ≡ before e p
    first_arm q w = by_number 2 q (sym (simp w))

    pub next_arm : {count : ℕ} → get_or N.kinds (e - 1) 0 ≡ 3 → count ≡ places W → p + 1 < count → before (e - 1) (p + 1) ≡ before e p
    next_arm q c l =
        by_number 3 q (sym (simp (lt-ltb (suc p) (places W) (omega arith)) (ap (before (e - 1)) (sym (add-one p)))))

    pub next-none_arm : {count : ℕ} → get_or N.kinds (e - 1) 0 ≡ 3 → count ≡ places W → count ≤ p + 1 → no_value ≡ before e p
    next-none_arm q c l = by_number 3 q (sym (simp (le-ltb (suc p) (places W) (omega arith))))

    pub negation_arm : {a : Evaluated} → get_or N.kinds (e - 1) 0 ≡ 4 → a ≡ before (e - 1) p → negated_result a ≡ before e p
    negation_arm q r = by_number 4 q (ap negated_result r)

    module _ (q : get_or N.kinds (e - 1) 0 ≡ 5) {m l : ℕ} (em : m ≡ left_end N.starts (e - 1)) (el : l ≡ left_end N.starts m) {c : Evaluated} (r : c ≡ before l p) where
      chosen_arm : {x : Evaluated} → x ≡ chosen_result c (before m p) (before (e - 1) p) → x ≡ before e p
      chosen_arm s =
          by_number 5 q (s ∙ ap (λ y. chosen_result y (before m p) (before (e - 1) p)) (r ∙ ap (λ d. before d p) (el ∙ ap (left_end N.starts) em))
          ∙ ap (λ d. chosen_result (before (left_end N.starts (left_end N.starts (e - 1))) p) (before d p) (before (e - 1) p)) em)

      pub then_arm : c.ok ≡ true → nonzero c.value ≡ true → before m p ≡ before e p
      then_arm o t = chosen_arm (sym (simp (o, t)))

      pub else_arm : c.ok ≡ true → nonzero c.value ≡ false → before (e - 1) p ≡ before e p
      else_arm o t = chosen_arm (sym (simp (o, t)))

      pub untested_arm : c.ok ≡ false → no_value ≡ before e p
      untested_arm o = chosen_arm (sym (simp o))

    module _ (q : get_or N.kinds (e - 1) 0 ≡ 6) where
      pub fby-left_arm : p ≡ 0 → W.whole ≡ true → {l : ℕ} → l ≡ left_end N.starts (e - 1) → before l 0 ≡ before e p
      fby-left_arm z w el = by_number 6 q (ap (λ d. before d 0) el ∙ sym (ap (followed N W before (left_end N.starts (e - 1)) (e - 1)) z ∙ simp w))

      pub fby-window_arm : p ≡ 0 → W.whole ≡ false → bounded (pos 0) ≡ before e p
      fby-window_arm z w = by_number 6 q (sym (ap (followed N W before (left_end N.starts (e - 1)) (e - 1)) z ∙ simp w))

      pub fby-right_arm : (p ≡ 0 → ⊥) → before (e - 1) (p - 1) ≡ before e p
      fby-right_arm z =
          let s : p ≡ suc (p - 1) = omega arith in
          by_number 6 q (sym (ap (followed N W before (left_end N.starts (e - 1)) (e - 1)) s))

    pub operator_arm : 7 ≤ get_or N.kinds (e - 1) 0 → {l : ℕ} → l ≡ left_end N.starts (e - 1) → {a b : ℤ} → a ≡ coded (before l p) → b ≡ coded (before (e - 1) p)
        → applied_by_kind (get_or N.kinds (e - 1) 0) a b ≡ before e p
    operator_arm k {l} el r s =
        ap₂ (applied_by_kind (get_or N.kinds (e - 1) 0)) r s
        ∙ applied_coded (get_or N.kinds (e - 1) 0) (before l p) (before (e - 1) p)
        ∙ by_kind operator_node (kind_of-operator (get_or N.kinds (e - 1) 0) k)
        (ap (λ d. operated (get_or N.kinds (e - 1) 0) (before d p) (before (e - 1) p)) el)

  -- The value of a leaf.
  pub leaf_before : (e : ℕ) → is_leaf N.kinds e ≡ true → leaf_value N.kinds N.values W.window W.streams e p ≡ before e p
  leaf_before e t = by (ℕ_discrete e 0) (ℕ_discrete (get_or N.kinds (e - 1) 0) 0)
    where
      by : Dec (e ≡ 0) → Dec (get_or N.kinds (e - 1) 0 ≡ 0) → leaf_value N.kinds N.values W.window W.streams e p ≡ before e p
      by (yes z) d = simp (eq-eqb e 0 z) (none_before z)
      by (no h) (yes q) = by_number e h 0 q (simp (ne_eqb e 0 h, eq-eqb (get_or N.kinds (e - 1) 0) 0 q))
      by (no h) (no q) =
          let l = leb-true (get_or N.kinds (e - 1) 0) 1 (leaf_last N.kinds e h ∙ t) in
          let k : get_or N.kinds (e - 1) 0 ≡ 1 = omega arith in
          by_number e h 1 k (simp (ne_eqb e 0 h, ne_eqb (get_or N.kinds (e - 1) 0) 0 q))

  -- The number y of an operand, as each branch of the test for a leaf leaves it.
  module _ (e : ℕ) {y z : ℤ} (f : SFits w64 z) (g : y ≡ held z) where
    pub part_operand : z ≡ coded (before e p) → y ≡ coded (before e p)
    part_operand q = g ∙ held-result f q

    pub leaf_operand : {b : Bool} → b ≡ is_leaf N.kinds e → b ≡ true → z ≡ coded (leaf_value N.kinds N.values W.window W.streams e p) → y ≡ coded (before e p)
    leaf_operand s t q = part_operand (q ∙ ap coded (leaf_before e (sym s ∙ t)))

-- ---- the value of a node

-- The lists of nodes are those of arrays, of 1024 elements each.
pub record HasArrays (N : Nodes) : Type 0 where
  pub kinds : length N.kinds ≡ 1024
  pub values : length N.values ≡ 1024
  pub starts : length N.starts ≡ 1024

module _ {N : Nodes} (arrays : HasArrays N) (W : View) (root p : ℕ) where
  pub no_node : 1024 ≤ root → no_value ≡ node_value N W root p
  unfolding node_value
  no_node h = sym (simp (le-ltb root (length N.kinds) (omega arith)))

  module _ (l : root < 1024) {count : ℕ} (c : count ≡ places W) where
    there : has_node N root ≡ true
    there = simp (lt-ltb root (length N.kinds) (omega arith), lt-ltb root (length N.values) (omega arith), lt-ltb root (length N.starts) (omega arith))

    pub no_place : count ≤ p → no_value ≡ node_value N W root p
    unfolding node_value
    no_place h = sym (simp (there, le-ltb p (places W) (omega arith)))

    pub root_value : p < count → part_value N W (root + 1) p ≡ node_value N W root p
    unfolding node_value
    root_value h = ap (λ e. part_value N W e p) (add-one root) ∙ sym (simp (there, lt-ltb p (places W) (omega arith)))
