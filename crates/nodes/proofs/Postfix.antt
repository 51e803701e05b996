-- Expressions stored in postfix order: how many nodes they have, where their parts stand, and that the lists made from `postfix` and `all_nodes`
-- store the expressions that they are made from, whatever stands before and behind.
use Prim.Native.Nat.{ℕ, zero, suc, ◌+◌, ◌-◌, ◌≤◌, ◌<◌}
use native.Mathlib.Omega.{arith}
use native.Mathlib.Nat.{add-zero}
use mathlib.Core.Path.{◌≡◌, refl, sym, ◌∙◌, ap, subst}
use mathlib.Core.List.{List, [], ◌∷◌, ◌++◌}
use lib.IntN.{ℤ, pos}
use lib.ListN.{length, get_or, length-append}
use Rattle.meaning.specs.Arithmetic.{Operator}
use Rattle.meaning.specs.Expression.{Expression, integer, name, first, next, negation, binary, conditional, fby, Constraint, left_side, right_side}
use Rattle.meaning.specs.Window.{firsts, side_firsts}
use Rattle.meaning.specs.Interval.{subexpressions}
use Rattle.nodes.specs.Code.{operator_code}
use Rattle.nodes.specs.Postfix.{Node, node, postfix, StoredConstraint, side_nodes, all_nodes, stored_constraint, stored_constraints}
use Rattle.nodes.specs.Evaluate.{Nodes, nodes_of, left_end}
use Rattle.nodes.proofs.Parts.{left_end-at}

-- ---- stored expressions

-- The node with the place i.
pub record NodeAt (N : Nodes) (i k : ℕ) (v : ℤ) (s : ℕ) : Type 0 where
  pub kind : get_or N.kinds i 0 ≡ k
  pub value : get_or N.values i (pos 0) ≡ v
  pub start : get_or N.starts i 0 ≡ s

-- The lists store an expression: its nodes stand from n on and end before the last number, and its firsts are numbered from f on.
pub data StoredAt (N : Nodes) : ℕ → ℕ → Expression → ℕ → Type 0 where
  stored_integer : {n f : ℕ} {z : ℤ} → NodeAt N n 0 z n → StoredAt N n f (integer z) (suc n)
  stored_name : {n f k : ℕ} → NodeAt N n 1 (pos k) n → StoredAt N n f (name k) (suc n)
  stored_first : {n f m : ℕ} {e : Expression} → StoredAt N n (suc f) e m → NodeAt N m 2 (pos f) n → StoredAt N n f (first e) (suc m)
  stored_next : {n f m : ℕ} {e : Expression} → StoredAt N n f e m → NodeAt N m 3 (pos 0) n → StoredAt N n f (next e) (suc m)
  stored_negation : {n f m : ℕ} {e : Expression} → StoredAt N n f e m → NodeAt N m 4 (pos 0) n → StoredAt N n f (negation e) (suc m)
  stored_binary : {n f l m : ℕ} {o : Operator} {a b : Expression} → StoredAt N n f a l → StoredAt N l (f + length (firsts a)) b m → NodeAt N m (operator_code o) (pos 0) n
      → StoredAt N n f (binary o a b) (suc m)
  stored_conditional : {n f k l m : ℕ} {c a b : Expression} → StoredAt N n f c k → StoredAt N k (f + length (firsts c)) a l → StoredAt N l (f + length (firsts c) + length (firsts a)) b m
      → NodeAt N m 5 (pos 0) n → StoredAt N n f (conditional c a b) (suc m)
  stored_fby : {n f l m : ℕ} {a b : Expression} → StoredAt N n f a l → StoredAt N l (f + length (firsts a)) b m → NodeAt N m 6 (pos 0) n → StoredAt N n f (fby a b) (suc m)

-- An expression has at least one node, its nodes end behind the place where they start, and the last of them knows that place.
pub stored-ends : {N : Nodes} {n f m : ℕ} {e : Expression} → StoredAt N n f e m → n < m
stored-ends (stored_integer x) = omega arith
stored-ends (stored_name x) = omega arith
stored-ends (stored_first s x) = let h = stored-ends s in omega arith
stored-ends (stored_next s x) = let h = stored-ends s in omega arith
stored-ends (stored_negation s x) = let h = stored-ends s in omega arith
stored-ends (stored_binary s t x) = let h = stored-ends s in let k = stored-ends t in omega arith
stored-ends (stored_conditional r s t x) = let g = stored-ends r in let h = stored-ends s in let k = stored-ends t in omega arith
stored-ends (stored_fby s t x) = let h = stored-ends s in let k = stored-ends t in omega arith

-- So the part to the left of a stored expression ends where the expression starts.
module _ {N : Nodes} where
  left_end-node : {m k n : ℕ} {v : ℤ} → NodeAt N m k v n → n ≤ m → left_end N.starts (suc m) ≡ n
  left_end-node {m} x h = let e = x.start in left_end-at N.starts m (omega arith) ∙ e

  pub left_end-stored : {n f m : ℕ} {e : Expression} → StoredAt N n f e m → left_end N.starts m ≡ n
  left_end-stored (stored_integer x) = left_end-node x (omega arith)
  left_end-stored (stored_name x) = left_end-node x (omega arith)
  left_end-stored (stored_first s x) = let h = stored-ends s in left_end-node x (omega arith)
  left_end-stored (stored_next s x) = let h = stored-ends s in left_end-node x (omega arith)
  left_end-stored (stored_negation s x) = let h = stored-ends s in left_end-node x (omega arith)
  left_end-stored (stored_binary s t x) = let h = stored-ends s in let k = stored-ends t in left_end-node x (omega arith)
  left_end-stored (stored_conditional r s t x) = let g = stored-ends r in let h = stored-ends s in let k = stored-ends t in left_end-node x (omega arith)
  left_end-stored (stored_fby s t x) = let h = stored-ends s in let k = stored-ends t in left_end-node x (omega arith)

-- ---- the lists of `postfix`

-- The nodes of the list stand from n on.
abbrev pub Holds : Nodes → ℕ → List Node → Type 0
Holds N n [] = Unit
Holds N n (x ∷ xs) = NodeAt N n x.kind x.value x.start × Holds N (suc n) xs

pub Holds-append : (N : Nodes) (n : ℕ) (xs ys : List Node) → Holds N n (xs ++ ys) → Holds N n xs × Holds N (n + length xs) ys
Holds-append N n [] ys h = (tt, subst (λ k. Holds N k ys) (sym (add-zero n)) h)
Holds-append N n (x ∷ xs) ys h =
    let r = Holds-append N (suc n) xs ys h.1 in
    let e : suc n + length xs ≡ n + suc (length xs) = omega arith in
    ((h.0, r.0), subst (λ k. Holds N k ys) e r.1)

-- Nodes in the lists made from them, behind what stands before.
pub nodes_hold : (front xs rest : List Node) → Holds (nodes_of (front ++ (xs ++ rest))) (length front) xs
nodes_hold front xs rest = shifted front
  where
    consed : (N : Nodes) (x : Node) (n : ℕ) (xs : List Node) → Holds N n xs → Holds (record { kinds = x.kind ∷ N.kinds; values = x.value ∷ N.values; starts = x.start ∷ N.starts }) (suc n) xs
    consed N x n [] h = tt
    consed N x n (y ∷ ys) h = (record { kind = h.0.kind; value = h.0.value; start = h.0.start }, consed N x (suc n) ys h.1)

    here : (xs : List Node) → Holds (nodes_of (xs ++ rest)) 0 xs
    here [] = tt
    here (x ∷ xs) = (record { kind = refl; value = refl; start = refl }, consed (nodes_of (xs ++ rest)) x 0 xs (here xs))

    shifted : (front : List Node) → Holds (nodes_of (front ++ (xs ++ rest))) (length front) xs
    shifted [] = here xs
    shifted (x ∷ front) = consed (nodes_of (front ++ (xs ++ rest))) x (length front) xs (shifted front)

length-snoc : (xs : List Node) (x : Node) → length (xs ++ (x ∷ [])) ≡ suc (length xs)
length-snoc xs x = length-append xs (x ∷ []) ∙ omega arith

-- The lists that hold the nodes of `postfix` store the expression.
pub postfix-stored : (N : Nodes) (n f : ℕ) (e : Expression) → Holds N n (postfix n f e) → StoredAt N n f e (n + length (postfix n f e))
unfolding postfix
postfix-stored N n f (integer z) h = subst (StoredAt N n f (integer z)) (omega arith) (stored_integer h.0)
postfix-stored N n f (name k) h = subst (StoredAt N n f (name k)) (omega arith) (stored_name h.0)
postfix-stored N n f (first e) h =
    let l = postfix n (suc f) e in
    let p = Holds-append N n l (node 2 (pos f) n ∷ []) h in
    subst (StoredAt N n f (first e)) (omega (arith, length-snoc l (node 2 (pos f) n))) (stored_first (postfix-stored N n (suc f) e p.0) p.1.0)
postfix-stored N n f (next e) h =
    let l = postfix n f e in
    let p = Holds-append N n l (node 3 (pos 0) n ∷ []) h in
    subst (StoredAt N n f (next e)) (omega (arith, length-snoc l (node 3 (pos 0) n))) (stored_next (postfix-stored N n f e p.0) p.1.0)
postfix-stored N n f (negation e) h =
    let l = postfix n f e in
    let p = Holds-append N n l (node 4 (pos 0) n ∷ []) h in
    subst (StoredAt N n f (negation e)) (omega (arith, length-snoc l (node 4 (pos 0) n))) (stored_negation (postfix-stored N n f e p.0) p.1.0)
postfix-stored N n f (binary o a b) h =
    let l = postfix n f a in
    let r = postfix (n + length l) (f + length (firsts a)) b in
    let x = node (operator_code o) (pos 0) n in
    let p = Holds-append N n l (r ++ (x ∷ [])) h in
    let q = Holds-append N (n + length l) r (x ∷ []) p.1 in
    subst (StoredAt N n f (binary o a b)) (omega (arith, length-append l (r ++ (x ∷ [])), length-snoc r x))
    (stored_binary (postfix-stored N n f a p.0) (postfix-stored N (n + length l) (f + length (firsts a)) b q.0) q.1.0)
postfix-stored N n f (conditional c a b) h =
    let k = postfix n f c in
    let l = postfix (n + length k) (f + length (firsts c)) a in
    let r = postfix (n + length k + length l) (f + length (firsts c) + length (firsts a)) b in
    let x = node 5 (pos 0) n in
    let o = Holds-append N n k (l ++ (r ++ (x ∷ []))) h in
    let p = Holds-append N (n + length k) l (r ++ (x ∷ [])) o.1 in
    let q = Holds-append N (n + length k + length l) r (x ∷ []) p.1 in
    subst (StoredAt N n f (conditional c a b)) (omega (arith, length-append k (l ++ (r ++ (x ∷ []))), length-append l (r ++ (x ∷ [])), length-snoc r x))
    (stored_conditional (postfix-stored N n f c o.0) (postfix-stored N (n + length k) (f + length (firsts c)) a p.0)
    (postfix-stored N (n + length k + length l) (f + length (firsts c) + length (firsts a)) b q.0) q.1.0)
postfix-stored N n f (fby a b) h =
    let l = postfix n f a in
    let r = postfix (n + length l) (f + length (firsts a)) b in
    let x = node 6 (pos 0) n in
    let p = Holds-append N n l (r ++ (x ∷ [])) h in
    let q = Holds-append N (n + length l) r (x ∷ []) p.1 in
    subst (StoredAt N n f (fby a b)) (omega (arith, length-append l (r ++ (x ∷ [])), length-snoc r x))
    (stored_fby (postfix-stored N n f a p.0) (postfix-stored N (n + length l) (f + length (firsts a)) b q.0) q.1.0)

-- An expression is one of its subexpressions.
subexpressions-some : (e : Expression) → 0 < length (subexpressions e)
unfolding subexpressions
subexpressions-some (integer z) = omega arith
subexpressions-some (name k) = omega arith
subexpressions-some (first e) = omega arith
subexpressions-some (next e) = omega arith
subexpressions-some (negation e) = omega arith
subexpressions-some (binary o a b) = omega arith
subexpressions-some (conditional c a b) = omega arith
subexpressions-some (fby a b) = omega arith

-- There is a node for each subexpression.
pub length-postfix : (n f : ℕ) (e : Expression) → length (postfix n f e) ≡ length (subexpressions e)
unfolding postfix subexpressions
length-postfix n f (integer z) = refl
length-postfix n f (name k) = refl
length-postfix n f (first e) = length-snoc (postfix n (suc f) e) (node 2 (pos f) n) ∙ ap suc (length-postfix n (suc f) e)
length-postfix n f (next e) = length-snoc (postfix n f e) (node 3 (pos 0) n) ∙ ap suc (length-postfix n f e)
length-postfix n f (negation e) = length-snoc (postfix n f e) (node 4 (pos 0) n) ∙ ap suc (length-postfix n f e)
length-postfix n f (binary o a b) =
    let l = postfix n f a in
    let r = postfix (n + length l) (f + length (firsts a)) b in
    let p = length-postfix n f a in
    let q = length-postfix (n + length l) (f + length (firsts a)) b in
    omega (arith, length-append l (r ++ (node (operator_code o) (pos 0) n ∷ [])), length-snoc r (node (operator_code o) (pos 0) n), length-append (subexpressions a) (subexpressions b))
length-postfix n f (conditional c a b) =
    let k = postfix n f c in
    let l = postfix (n + length k) (f + length (firsts c)) a in
    let r = postfix (n + length k + length l) (f + length (firsts c) + length (firsts a)) b in
    let x = node 5 (pos 0) n in
    let o = length-postfix n f c in
    let p = length-postfix (n + length k) (f + length (firsts c)) a in
    let q = length-postfix (n + length k + length l) (f + length (firsts c) + length (firsts a)) b in
    omega (arith, length-append k (l ++ (r ++ (x ∷ []))), length-append l (r ++ (x ∷ [])), length-snoc r x, length-append (subexpressions c) (subexpressions a ++ subexpressions b), length-append (subexpressions a) (subexpressions b))
length-postfix n f (fby a b) =
    let l = postfix n f a in
    let r = postfix (n + length l) (f + length (firsts a)) b in
    let p = length-postfix n f a in
    let q = length-postfix (n + length l) (f + length (firsts a)) b in
    omega (arith, length-append l (r ++ (node 6 (pos 0) n ∷ [])), length-snoc r (node 6 (pos 0) n), length-append (subexpressions a) (subexpressions b))

-- ---- the nodes of a sheet's constraints

-- Both sides of a constraint are stored, and the stored constraint names their last nodes; the firsts of the left side are numbered from f on,
-- those of the right side go on from there.
pub record SidesAt (N : Nodes) (f : ℕ) (c : Constraint) (t : StoredConstraint) : Type 0 where
  pub left_start : ℕ
  pub left : StoredAt N left_start f (left_side c) (suc t.left)
  pub right : StoredAt N (suc t.left) (f + length (firsts (left_side c))) (right_side c) (suc t.right)

-- How many firsts stand in the constraints before the one with the number j.
unfoldable pub firsts_before : ℕ → List Constraint → ℕ → ℕ
firsts_before f [] j = f
firsts_before f (c ∷ cs) zero = f
firsts_before f (c ∷ cs) (suc j) = firsts_before (f + length (side_firsts c)) cs j

module _ (N : Nodes) where
  sides-stored : (n f : ℕ) (c : Constraint) → Holds N n (side_nodes n f c) → SidesAt N f c (stored_constraint n f c)
  sides-stored n f c h =
      let l = postfix n f (left_side c) in
      let r = postfix (n + length l) (f + length (firsts (left_side c))) (right_side c) in
      let p = Holds-append N n l r h in
      let s = postfix-stored N n f (left_side c) p.0 in
      let t = postfix-stored N (n + length l) (f + length (firsts (left_side c))) (right_side c) p.1 in
      let i : n + length l ≡ suc (n + length l - 1) = let e = stored-ends s in omega arith in
      let j : n + length l + length r ≡ suc (n + length l + length r - 1) = let e = stored-ends t in omega arith in
      record {
        left_start = n;
        left = subst (StoredAt N n f (left_side c)) i s;
        right = subst (λ k. StoredAt N k (f + length (firsts (left_side c))) (right_side c) (suc (n + length l + length r - 1))) i (subst (StoredAt N (n + length l) (f + length (firsts (left_side c))) (right_side c)) j t);
      }

  pub constraints-stored : (n f : ℕ) (cs : List Constraint) (c₀ : Constraint) (t₀ : StoredConstraint) → Holds N n (all_nodes n f cs) → (j : ℕ) → j < length cs
      → SidesAt N (firsts_before f cs j) (get_or cs j c₀) (get_or (stored_constraints n f cs) j t₀)
  unfolding all_nodes stored_constraints firsts_before
  constraints-stored n f [] c₀ t₀ h j b = absurd (omega arith)
  constraints-stored n f (c ∷ cs) c₀ t₀ h zero b = sides-stored n f c (Holds-append N n (side_nodes n f c) _ h).0
  constraints-stored n f (c ∷ cs) c₀ t₀ h (suc j) b =
      constraints-stored (n + length (side_nodes n f c)) (f + length (side_firsts c)) cs c₀ t₀ (Holds-append N n (side_nodes n f c) _ h).1 j (omega arith)

-- The nodes of a sheet's constraints store both sides of each, whatever nodes stand behind them.
pub all_nodes-stored : (cs : List Constraint) (behind : List Node) (c₀ : Constraint) (t₀ : StoredConstraint) (j : ℕ) → j < length cs
    → SidesAt (nodes_of (all_nodes 0 0 cs ++ behind)) (firsts_before 0 cs j) (get_or cs j c₀) (get_or (stored_constraints 0 0 cs) j t₀)
all_nodes-stored cs behind c₀ t₀ j b =
    constraints-stored (nodes_of (all_nodes 0 0 cs ++ behind)) 0 0 cs c₀ t₀ (nodes_hold [] (all_nodes 0 0 cs) behind) j b

-- ---- the stored constraints name nodes of the list

module _ (c₀ : Constraint) (t₀ : StoredConstraint) where
  right-inside : (n f : ℕ) (cs : List Constraint) (j : ℕ) → j < length cs → (get_or (stored_constraints n f cs) j t₀).right < n + length (all_nodes n f cs)
  unfolding all_nodes stored_constraints
  right-inside n f [] j b = absurd (omega arith)
  right-inside n f (c ∷ cs) zero b =
      let l = postfix n f (left_side c) in
      let r = postfix (n + length l) (f + length (firsts (left_side c))) (right_side c) in
      let k = length-postfix (n + length l) (f + length (firsts (left_side c))) (right_side c) in
      let p = subexpressions-some (right_side c) in
      omega (arith, length-append (side_nodes n f c) (all_nodes (n + length (side_nodes n f c)) (f + length (side_firsts c)) cs), length-append l r)
  right-inside n f (c ∷ cs) (suc j) b =
      let h = right-inside (n + length (side_nodes n f c)) (f + length (side_firsts c)) cs j (omega arith) in
      omega (arith, length-append (side_nodes n f c) (all_nodes (n + length (side_nodes n f c)) (f + length (side_firsts c)) cs))

  pub sides-inside : (cs : List Constraint) (j : ℕ) → j < length cs
      → ((get_or (stored_constraints 0 0 cs) j t₀).left < length (all_nodes 0 0 cs)) × ((get_or (stored_constraints 0 0 cs) j t₀).right < length (all_nodes 0 0 cs))
  sides-inside cs j b =
      let r = right-inside 0 0 cs j b in
      let e = stored-ends (all_nodes-stored cs [] c₀ t₀ j b).right in
      (omega arith, omega arith)

-- There is one stored constraint for each.
pub stored-length : (n f : ℕ) (cs : List Constraint) → length (stored_constraints n f cs) ≡ length cs
unfolding stored_constraints
stored-length n f [] = refl
stored-length n f (c ∷ cs) = ap suc (stored-length (n + length (side_nodes n f c)) (f + length (side_firsts c)) cs)
