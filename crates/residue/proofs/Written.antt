-- The nodes written from a residue's tree have the tree's value over a window of the letter alone, wherever they stand.
use Prim.Native.Nat.{ℕ, zero, suc, ◌+◌, ◌*◌, ◌/◌, ◌≤◌}
use native.Mathlib.Omega.{arith}
use native.Mathlib.Nat.{div_self}
use mathlib.Core.Path.{◌≡◌, refl, sym, ◌∙◌, ap, ap₂, subst}
use mathlib.Core.Bool.{Bool, true, false, not, cond, ◌&&◌}
use mathlib.Core.List.{List, [], ◌∷◌, ◌++◌}
use lib.Dec.{ltb, eqb}
use lib.IntN.{ℤ, pos, negsuc}
use lib.ListN.{length, get_or, length-append}
use borrow.Author.Tests.{lt-ltb}
use Rattle.meaning.specs.Value.{nonzero}
use Rattle.nodes.specs.Postfix.{node}
use Rattle.nodes.specs.Bounded.{no_value, some_value, bounded}
use Rattle.nodes.specs.Evaluate.{Nodes, has_node, View, places, Kind, integer_node, name_node, first_node, next_node, negation_node, conditional_node, fby_node, operator_node, kind_of, left_end, answer_up_to, lookup, numbered, stream_evaluated, negated_result, chosen_result, operated, value_by_kind, part_value, node_value}
use Rattle.nodes.specs.declared.Evaluated.{Evaluated}
use Rattle.nodes.proofs.Parts.{left_end-at}
use Rattle.nodes.proofs.Evaluate.{value_before-node}
use Rattle.nodes.proofs.Postfix.{NodeAt, Holds, Holds-append}
use Rattle.arithmetic.proofs.Coded.{Decodes, decodes_none, decodes_bit, decodes_cond, decodes_bounded, decodes_applied}
use Rattle.residue.specs.Residue.{Tree, constant_tree, name_tree, negation_tree, operator_tree, conditional_tree, tree_value, Residue, known, varying, tree_of, is_known, known_value, negated_residue, chosen_residue, operated_residue, residue_by_kind, residue_step, residue_before, node_residue, with_letter, letter_view}
use Rattle.residue.specs.Written.{written}
use Rattle.residue.proofs.Residue.{chosen_cong, Awaits, residue_value, node_residue_value}

-- ---- what can be written

-- Every value in the tree can be read back from its number, and every operator has an operator's kind.
abbrev pub Writable : Tree → Type 0
Writable (constant_tree x) = Decodes x
Writable (name_tree z) = Unit
Writable (negation_tree t) = Writable t
Writable (operator_tree k a b) = (kind_of k ≡ operator_node) × Writable a × Writable b
Writable (conditional_tree c a b) = Writable c × Writable a × Writable b

decodes_negated : (x : Evaluated) → Decodes (negated_result x)
decodes_negated x = decodes_cond x.ok (decodes_bit (not (nonzero x.value))) decodes_none

pub decodes_lookup : (n : ℕ) (get : ℕ → ℤ) (z : ℤ) → Decodes (lookup n get z)
decodes_lookup n get (pos k) = decodes_cond (ltb k n) (decodes_bounded (get k)) decodes_none
decodes_lookup n get (negsuc k) = decodes_none

decodes_operated : (k : ℕ) (x y : Evaluated) → Decodes (operated k x y)
decodes_operated k x y = decodes_cond (x.ok && y.ok) (decodes_applied k x.value y.value) decodes_none

abbrev WritableResidue : Residue → Type 0
WritableResidue r = Writable (tree_of r)

writable_known : {x : Evaluated} → Decodes x → WritableResidue (known x)
unfolding tree_of
writable_known h = h

writable_cond : (b : Bool) (r s : Residue) → WritableResidue r → WritableResidue s → WritableResidue (cond b r s)
writable_cond true r s h k = h
writable_cond false r s h k = k

writable_negate : (r : Residue) → WritableResidue r → WritableResidue (negated_residue r)
unfolding tree_of negated_residue
writable_negate (known x) h = decodes_negated x
writable_negate (varying t) h = h

writable_choose : (c r s : Residue) → WritableResidue c → WritableResidue r → WritableResidue s → WritableResidue (chosen_residue c r s)
unfolding tree_of chosen_residue
writable_choose (known x) r s h k l = writable_cond x.ok (cond (nonzero x.value) r s) (known no_value) (writable_cond (nonzero x.value) r s k l) decodes_none
writable_choose (varying c) r s h k l = (h, k, l)

writable_operate : (k : ℕ) (r s : Residue) → kind_of k ≡ operator_node → WritableResidue r → WritableResidue s → WritableResidue (operated_residue k r s)
unfolding tree_of is_known known_value operated_residue
writable_operate k (known x) (known y) o h i = decodes_operated k x y
writable_operate k (known x) (varying b) o h i = (o, h, i)
writable_operate k (varying a) (known y) o h i = (o, h, i)
writable_operate k (varying a) (varying b) o h i = (o, h, i)

writable_decodes : (r : Residue) → WritableResidue r → Decodes (known_value r)
unfolding tree_of known_value
writable_decodes (known x) h = h
writable_decodes (varying t) h = decodes_none

-- Every residue can be written.
module _ (N : Nodes) (U : View) (last : ℕ) where
  module _ (g : ℕ → ℕ → Residue) (ok : (e p : ℕ) → WritableResidue (g e p)) (i : ℕ) where
    writable_by_kind : (k : Kind) → kind_of (get_or N.kinds i 0) ≡ k → (p : ℕ) → WritableResidue (residue_by_kind N U last k g i p)
    unfolding tree_of
    writable_by_kind integer_node o p = decodes_bounded (get_or N.values i (pos 0))
    writable_by_kind name_node o p =
        writable_cond (ltb p last) (known (stream_evaluated U.window U.streams p (get_or N.values i (pos 0)))) (varying (name_tree (get_or N.values i (pos 0))))
        (decodes_lookup U.streams (λ k. get_or U.window (p * U.streams + k) (pos 0)) (get_or N.values i (pos 0))) tt
    writable_by_kind first_node o p =
        writable_cond U.whole (g i 0) (known (numbered U.firsts (get_or N.values i (pos 0)))) (ok i 0) (decodes_lookup (length U.firsts) (λ k. get_or U.firsts k (pos 0)) (get_or N.values i (pos 0)))
    writable_by_kind next_node o p = writable_cond (ltb p last) (g i (suc p)) (known no_value) (ok i (suc p)) decodes_none
    writable_by_kind negation_node o p = writable_negate (g i p) (ok i p)
    writable_by_kind conditional_node o p = writable_choose (g _ p) (g _ p) (g i p) (ok _ p) (ok _ p) (ok i p)
    writable_by_kind fby_node o zero = writable_cond U.whole (g (left_end N.starts i) 0) (known (some_value (pos 0))) (ok _ 0) refl
    writable_by_kind fby_node o (suc p) = ok i p
    writable_by_kind operator_node o p = writable_operate (get_or N.kinds i 0) (g _ p) (g i p) o (ok _ p) (ok i p)

  writable_up_to : (n e p : ℕ) → WritableResidue (answer_up_to (λ p. known no_value) (residue_step N U last) n e p)
  unfolding answer_up_to residue_step
  writable_up_to zero e p = writable_known decodes_none
  writable_up_to (suc n) e p = by (eqb e (suc n)) (writable_up_to n)
    where
      by : (b : Bool) → ((e p : ℕ) → WritableResidue (answer_up_to (λ p. known no_value) (residue_step N U last) n e p))
          → WritableResidue (cond b (residue_step N U last (answer_up_to (λ p. known no_value) (residue_step N U last) n) n) (answer_up_to (λ p. known no_value) (residue_step N U last) n e) p)
      by true r = writable_by_kind _ r n (kind_of (get_or N.kinds n 0)) refl p
      by false r = r e p

  pub residue_writable : (e p : ℕ) → Writable (tree_of (residue_before N U last e p))
  unfolding residue_before
  residue_writable e p = writable_up_to e e p

  pub node_residue_writable : (root p : ℕ) → Writable (tree_of (node_residue N U last root p))
  unfolding node_residue
  node_residue_writable root p = writable_cond (has_node N root) (residue_before N U last (suc root) p) (known no_value) (residue_writable (suc root) p) (writable_known decodes_none)

  -- So a value that is known can be read back from its number.
  pub residue_decodes : (e p : ℕ) → Decodes (known_value (residue_before N U last e p))
  residue_decodes e p = writable_decodes (residue_before N U last e p) (residue_writable e p)

-- ---- the value of what is written

-- The part from n to m has the value x at the letter.
pub record PartAt (N : Nodes) (L : View) (n m : ℕ) (x : Evaluated) : Type 0 where
  pub start : left_end N.starts m ≡ n
  pub value : part_value N L m 0 ≡ x

module _ (N : Nodes) (streams : ℕ) (letter : List ℤ) where
  abbrev L : View
  L = letter_view streams letter

  part_node : {m k s : ℕ} {v : ℤ} {x : Evaluated} → NodeAt N m k v s → s ≤ m → value_by_kind N L (kind_of k) (part_value N L) m 0 ≡ x → PartAt N L s (suc m) x
  part_node {m} {k} {s} {v} {x} h b e =
      record {
        start = let q = h.start in left_end-at N.starts m (omega arith) ∙ q;
        value = value_before-node N L m 0 ∙ ap (λ j. value_by_kind N L (kind_of j) (part_value N L) m 0) h.kind ∙ e;
      }

  -- Nodes that hold a written tree are a part with the tree's value.
  pub written_part : (n : ℕ) (t : Tree) → Holds N n (written n t) → Writable t → PartAt N L n (n + length (written n t)) (tree_value streams letter t)
  unfolding written tree_value
  written_part n (constant_tree x) h w = subst (λ m. PartAt N L n m x) (omega arith) (part_node h.0 (omega arith) (ap bounded h.0.value ∙ w))
  written_part n (name_tree z) h w = subst (λ m. PartAt N L n m (stream_evaluated letter streams 0 z)) (omega arith) (part_node h.0 (omega arith) (ap (stream_evaluated letter streams 0) h.0.value))
  written_part n (negation_tree t) h w =
      let l = written n t in
      let p = Holds-append N n l (node 4 (pos 0) n ∷ []) h in
      let r = written_part n t p.0 w in
      subst (λ m. PartAt N L n m (negated_result (tree_value streams letter t))) (omega (arith, length-append l (node 4 (pos 0) n ∷ [])))
      (part_node p.1.0 (omega arith) (ap negated_result r.value))
  written_part n (operator_tree k a b) h w =
      let l = written n a in
      let r = written (n + length l) b in
      let x = node k (pos 0) n in
      let p = Holds-append N n l (r ++ (x ∷ [])) h in
      let q = Holds-append N (n + length l) r (x ∷ []) p.1 in
      let u = written_part n a p.0 w.1 in
      let v = written_part (n + length l) b q.0 w.2 in
      let m = n + length l + length r in
      subst (λ m. PartAt N L n m (operated k (tree_value streams letter a) (tree_value streams letter b))) (omega (arith, length-append l (r ++ (x ∷ [])), length-append r (x ∷ [])))
      (part_node q.1.0 (omega arith)
      (ap (λ j. value_by_kind N L j (part_value N L) m 0) w.0
      ∙ ap (λ j. operated j (part_value N L (left_end N.starts m) 0) (part_value N L m 0)) q.1.0.kind
      ∙ ap₂ (operated k) (ap (λ e. part_value N L e 0) v.start ∙ u.value) v.value))
  written_part n (conditional_tree c a b) h w =
      let k = written n c in
      let l = written (n + length k) a in
      let r = written (n + length k + length l) b in
      let x = node 5 (pos 0) n in
      let o = Holds-append N n k (l ++ (r ++ (x ∷ []))) h in
      let p = Holds-append N (n + length k) l (r ++ (x ∷ [])) o.1 in
      let q = Holds-append N (n + length k + length l) r (x ∷ []) p.1 in
      let t = written_part n c o.0 w.0 in
      let u = written_part (n + length k) a p.0 w.1 in
      let v = written_part (n + length k + length l) b q.0 w.2 in
      subst (λ m. PartAt N L n m (chosen_result (tree_value streams letter c) (tree_value streams letter a) (tree_value streams letter b)))
      (omega (arith, length-append k (l ++ (r ++ (x ∷ []))), length-append l (r ++ (x ∷ [])), length-append r (x ∷ [])))
      (part_node q.1.0 (omega arith)
      (chosen_cong (ap (λ e. part_value N L e 0) (ap (left_end N.starts) v.start ∙ u.start) ∙ t.value) (ap (λ e. part_value N L e 0) v.start ∙ u.value) v.value))

-- The law of the whole: where the nodes of a part's residue are written, they have over the letter alone the value that the part has in the window
-- with the letter.
module _ (N : Nodes) (U : View) (last : ℕ) (letter : List ℤ) (awaits : Awaits U last letter) (M : Nodes) where
  pub written_value : (n e p : ℕ) → p ≤ last → Holds M n (written n (tree_of (residue_before N U last e p)))
      → part_value M (letter_view U.streams letter) (n + length (written n (tree_of (residue_before N U last e p)))) 0 ≡ part_value N (with_letter U letter) e p
  written_value n e p h holds =
      (written_part M U.streams letter n (tree_of (residue_before N U last e p)) holds (residue_writable N U last e p)).value
      ∙ sym (residue_value N U last letter awaits e p h)

  -- The same of the nodes themselves.
  pub written_node : (n i root p : ℕ) → p ≤ last → has_node M i ≡ true → suc i ≡ n + length (written n (tree_of (node_residue N U last root p)))
      → Holds M n (written n (tree_of (node_residue N U last root p))) → node_value M (letter_view U.streams letter) i 0 ≡ node_value N (with_letter U letter) root p
  unfolding node_value
  written_node n i root p h here end holds =
      let one : places (letter_view U.streams letter) ≡ 1 = ap (λ j. j / U.streams) awaits.letter_long ∙ div_self awaits.some_stream in
      simp (here, lt-ltb 0 (places (letter_view U.streams letter)) (omega (arith, one)))
      (ap (λ j. part_value M (letter_view U.streams letter) j 0) end
      ∙ (written_part M U.streams letter n (tree_of (node_residue N U last root p)) holds (node_residue_writable N U last root p)).value
      ∙ sym (node_residue_value N U last letter awaits root p h))
