-- A residue has at most as many nodes as the expression that it is made from.
use Prim.Native.Nat.{ℕ, zero, suc, ◌+◌, ◌-◌, ◌≤◌, ◌<◌}
use native.Mathlib.Omega.{arith}
use mathlib.Core.Path.{◌≡◌, refl, sym, ◌∙◌, ap, subst}
use mathlib.Core.Bool.{Bool, true, false, cond}
use mathlib.Core.List.{[], ◌∷◌, ◌++◌}
use lib.Dec.{ltb}
use lib.IntN.{ℤ, pos}
use lib.ListN.{length, get_or, length-append}
use Rattle.meaning.specs.Value.{nonzero}
use Rattle.meaning.specs.Expression.{Expression}
use Rattle.nodes.specs.Postfix.{node}
use Rattle.nodes.specs.Bounded.{no_value}
use Rattle.nodes.specs.declared.Evaluated.{Evaluated}
use Rattle.nodes.specs.Evaluate.{Nodes, View, has_node, kind_of, left_end}
use Rattle.nodes.proofs.Meaning.{operator_code-coded}
use Rattle.nodes.proofs.Postfix.{NodeAt, StoredAt, stored_integer, stored_name, stored_first, stored_next, stored_negation, stored_binary, stored_conditional, stored_fby, stored-ends, left_end-stored}
use Rattle.residue.specs.Residue.{Tree, constant_tree, name_tree, negation_tree, operator_tree, conditional_tree, Residue, known, varying, tree_of, is_known, known_value, negated_residue, chosen_residue, operated_residue, residue_by_kind, residue_before, node_residue}
use Rattle.residue.specs.Written.{written, tree_size}
use Rattle.residue.proofs.Residue.{residue_before-node}

-- ---- how many nodes are written

pub length-written : (n : ℕ) (t : Tree) → length (written n t) ≡ tree_size t
unfolding written tree_size
length-written n (constant_tree x) = refl
length-written n (name_tree z) = refl
length-written n (negation_tree t) = let e = length-written n t in omega (arith, length-append (written n t) (node 4 (pos 0) n ∷ []))
length-written n (operator_tree k a b) =
    let l = written n a in
    let r = written (n + length l) b in
    let x = node k (pos 0) n in
    let p = length-written n a in
    let q = length-written (n + length l) b in
    omega (arith, length-append l (r ++ (x ∷ [])), length-append r (x ∷ []))
length-written n (conditional_tree c a b) =
    let k = written n c in
    let l = written (n + length k) a in
    let r = written (n + length k + length l) b in
    let x = node 5 (pos 0) n in
    let o = length-written n c in
    let p = length-written (n + length k) a in
    let q = length-written (n + length k + length l) b in
    omega (arith, length-append k (l ++ (r ++ (x ∷ []))), length-append l (r ++ (x ∷ [])), length-append r (x ∷ []))

pub size-some : (t : Tree) → 0 < tree_size t
unfolding tree_size
size-some (constant_tree x) = omega arith
size-some (name_tree z) = omega arith
size-some (negation_tree t) = omega arith
size-some (operator_tree k a b) = omega arith
size-some (conditional_tree c a b) = omega arith

-- ---- the sizes of residues

abbrev pub size_of : Residue → ℕ
size_of r = tree_size (tree_of r)

size-known : (x : Evaluated) (m : ℕ) → 0 < m → size_of (known x) ≤ m
unfolding tree_of tree_size
size-known x m h = h

size-name_tree : (z : ℤ) (m : ℕ) → 0 < m → size_of (varying (name_tree z)) ≤ m
unfolding tree_of tree_size
size-name_tree z m h = h

size_cond : (b : Bool) (r s : Residue) (m : ℕ) → size_of r ≤ m → size_of s ≤ m → size_of (cond b r s) ≤ m
size_cond true r s m h k = h
size_cond false r s m h k = k

size_negate : (r : Residue) → size_of (negated_residue r) ≤ suc (size_of r)
unfolding tree_of tree_size negated_residue
size_negate (known x) = omega arith
size_negate (varying t) = omega arith

size_operate : (k : ℕ) (r s : Residue) → size_of (operated_residue k r s) ≤ suc (size_of r + size_of s)
unfolding tree_of tree_size is_known known_value operated_residue
size_operate k (known x) (known y) = omega arith
size_operate k (known x) (varying b) = omega arith
size_operate k (varying a) (known y) = omega arith
size_operate k (varying a) (varying b) = omega arith

size-choose : (c r s : Residue) → size_of (chosen_residue c r s) ≤ suc (size_of c + (size_of r + size_of s))
unfolding tree_of tree_size chosen_residue
size-choose (known x) r s =
    size_cond x.ok (cond (nonzero x.value) r s) (known no_value) _ (size_cond (nonzero x.value) r s _ (omega arith) (omega arith)) (omega arith)
size-choose (varying c) r s = omega arith

-- ---- of stored expressions

module _ (N : Nodes) (U : View) (last : ℕ) where
  abbrev S : ℕ → ℕ → ℕ
  S e p = size_of (residue_before N U last e p)

  by-node : {m s k b : ℕ} {v : ℤ} (p : ℕ) → NodeAt N m k v s → size_of (residue_by_kind N U last (kind_of k) (residue_before N U last) m p) ≤ b → S (suc m) p ≤ b
  by-node {m} {s} {k} {b} {v} p n h =
      subst (λ r. size_of r ≤ b) (sym (residue_before-node N U last m p ∙ ap (λ j. residue_by_kind N U last (kind_of j) (residue_before N U last) m p) n.kind)) h

  stored_size : {n f m : ℕ} {e : Expression} (p : ℕ) → StoredAt N n f e m → S m p ≤ m - n
  stored_size p (stored_integer x) = by-node p x (size-known _ _ (omega arith))
  stored_size p (stored_name x) = by-node p x (size_cond (ltb p last) _ _ _ (size-known _ _ (omega arith)) (size-name_tree _ _ (omega arith)))
  stored_size p (stored_first s x) =
      let b = stored-ends s in
      let h = stored_size 0 s in
      by-node p x (size_cond U.whole _ _ _ (omega arith) (size-known _ _ (omega arith)))
  stored_size p (stored_next s x) =
      let b = stored-ends s in
      let h = stored_size (suc p) s in
      by-node p x (size_cond (ltb p last) _ _ _ (omega arith) (size-known _ _ (omega arith)))
  stored_size p (stored_negation {m = m} s x) =
      let b = stored-ends s in
      let h = stored_size p s in
      by-node p x (omega (arith, size_negate (residue_before N U last m p)))
  stored_size p (stored_binary {n = n} {l = l} {m = m} {o = o} s t x) =
      let b = stored-ends s in
      let c = stored-ends t in
      let h = stored_size p s in
      let k = stored_size p t in
      let e = left_end-stored t in
      by-node p x
      (subst (λ j. size_of (residue_by_kind N U last j (residue_before N U last) m p) ≤ suc m - n) (sym (operator_code-coded o).kind)
      (subst (λ j. size_of (operated_residue (get_or N.kinds m 0) (residue_before N U last j p) (residue_before N U last m p)) ≤ suc m - n) (sym e)
      (omega (arith, size_operate (get_or N.kinds m 0) (residue_before N U last l p) (residue_before N U last m p)))))
  stored_size p (stored_conditional {n = n} {k = j} {l = l} {m = m} r s t x) =
      let a = stored-ends r in
      let b = stored-ends s in
      let c = stored-ends t in
      let g = stored_size p r in
      let h = stored_size p s in
      let k = stored_size p t in
      by-node p x
      (subst (λ i. size_of (chosen_residue (residue_before N U last (left_end N.starts i) p) (residue_before N U last i p) (residue_before N U last m p)) ≤ suc m - n) (sym (left_end-stored t))
      (subst (λ i. size_of (chosen_residue (residue_before N U last i p) (residue_before N U last l p) (residue_before N U last m p)) ≤ suc m - n) (sym (left_end-stored s))
      (omega (arith, size-choose (residue_before N U last j p) (residue_before N U last l p) (residue_before N U last m p)))))
  stored_size zero (stored_fby {n = n} {m = m} s t x) =
      let b = stored-ends s in
      let c = stored-ends t in
      let h = stored_size 0 s in
      by-node 0 x
      (size_cond U.whole _ _ _ (subst (λ i. S i 0 ≤ suc m - n) (sym (left_end-stored t)) (omega arith)) (size-known _ _ (omega arith)))
  stored_size (suc p) (stored_fby s t x) =
      let b = stored-ends s in
      let c = stored-ends t in
      let h = stored_size p t in
      by-node (suc p) x (omega arith)

  -- The residue of a stored expression has at most as many nodes as the expression, whose nodes stand from n to m.
  pub residue_size : {n f m : ℕ} {e : Expression} (p : ℕ) → StoredAt N n f e m → (k : ℕ) → length (written k (tree_of (residue_before N U last m p))) ≤ m - n
  residue_size {m = m} p s k = let h = stored_size p s in omega (arith, length-written k (tree_of (residue_before N U last m p)))

  -- The same of the node itself.
  pub node-size : {n f root : ℕ} {e : Expression} (p : ℕ) → StoredAt N n f e (suc root) → tree_size (tree_of (node_residue N U last root p)) ≤ suc root - n
  unfolding node_residue
  node-size {root = root} p s =
      let b = stored-ends s in
      size_cond (has_node N root) (residue_before N U last (suc root) p) (known no_value) _ (stored_size p s) (size-known no_value _ (omega arith))
