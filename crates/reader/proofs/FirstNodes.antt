-- The places of the nodes of firsts: those found among the nodes before a place of a loop, and that those found among the nodes of constraints
-- are the constraints' own. From the definitions.
use Prim.Native.Nat.{ℕ, suc, ◌+◌, ◌≤◌, ◌<◌}
use mathlib.Core.Path.{◌≡◌, refl, sym, ap, ap₂, ◌∙◌}
use mathlib.Core.Bool.{cond}
use mathlib.Core.List.{List, [], ◌∷◌, ◌++◌, append_assoc}
use native.Mathlib.Numerals.{add-one}
use native.Mathlib.Omega.{arith}
use lib.Dec.{T, eqb}
use lib.IntN.{ℤ, pos, nat_abs}
use lib.ListN.{length, drop, get_or, set, replicate, drop_of_length-le, length-append, length-map}
use lib.Seq.{sets, set_comm}
use borrow.Author.Tests.{eq-eqb, ne_eqb, le-ltb}
use lib.Signed.{lt_z, non_neg}
use mir.Syntax.{w64}
use mir.Val.{SFits, Fits}
use mir.ValLaws.{to_z-of_z}
use Rattle.basics.proofs.Lists.{All-append, All-get_or, get_d_map, sets_append}
use Rattle.basics.specs.Lists.{All}
use Rattle.meaning.specs.Expression.{Expression, integer, name, first, next, negation, binary, conditional, fby, Constraint, left_side, right_side}
use Rattle.meaning.specs.Interval.{subexpressions}
use Rattle.meaning.specs.Window.{firsts, side_firsts, all_firsts}
use Rattle.nodes.specs.Code.{operator_code}
use Rattle.nodes.specs.Postfix.{Node, node, postfix, all_nodes, kinds_of, values_of}
use Rattle.nodes.specs.FirstPlaces.{first_places, all_first_places}
use Rattle.nodes.proofs.Postfix.{length-postfix}
use Rattle.nodes.proofs.FirstPlaces.{places-long, all_places_long}
use Rattle.arithmetic.proofs.Machine.{held, number_cast}
use Rattle.reader.specs.FirstNodes.{with_firsts, FewFirsts}
use Rattle.header.specs.Streams.{padded}
use Rattle.reader.proofs.Elements.{drop-next}
use Rattle.reader.proofs.Room.{sets_padded}
use Rattle.reader.proofs.Unknown.{operator-beyond}

-- ---- a number that is not negative, taken as an index

pub natural_cast : (z : ℤ) → SFits w64 z → z ≡ pos (nat_abs z) → T (non_neg (held z)) × Fits w64 (nat_abs (held z))
natural_cast z f p = number_cast z f (ap (λ x. lt_z x (pos 0)) (to_z-of_z w64 z f ∙ p) ∙ le-ltb (nat_abs z) 0 (omega arith))

-- ---- the nodes from a place on

module _ (kinds : List ℕ) (values : List ℤ) (places : List ℕ) (i : ℕ) where
  module _ (same : length values ≡ length kinds) (h : i < length kinds) where
    firsts-from : with_firsts i (drop i kinds) (drop i values) places
        ≡ with_firsts (i + 1) (drop (i + 1) kinds) (drop (i + 1) values) (cond (eqb (get_or kinds i 0) 2) (set places (nat_abs (get_or values i (pos 0))) i) places)
    unfolding with_firsts
    firsts-from =
        ap₂ (λ ks vs. with_firsts i ks vs places) (drop-next kinds i 0 h) (drop-next values i (pos 0) (omega arith))
        ∙ ap (λ n. with_firsts n (drop (i + 1) kinds) (drop (i + 1) values) (cond (eqb (get_or kinds i 0) 2) (set places (nat_abs (get_or values i (pos 0))) i) places)) (sym (add-one i))

    module _ (few : FewFirsts kinds values) (e : get_or kinds i 0 ≡ 2) where
      number-held : (k : ℕ) × (get_or values i (pos 0) ≡ pos k) × (held (get_or values i (pos 0)) ≡ pos k) × (k < 8)
      number-held =
          let n = few.numbered i h e in
          (n.0, n.1, ap held n.1 ∙ to_z-of_z w64 (pos n.0) (record { sfits = omega (arith, n.2) }), n.2)

      pub first-number : (held (get_or values i (pos 0)) ≡ pos (nat_abs (held (get_or values i (pos 0))))) × (nat_abs (held (get_or values i (pos 0))) < 8)
      first-number =
          let n = number-held in
          let a : nat_abs (held (get_or values i (pos 0))) ≡ n.0 = ap nat_abs n.2 in
          (n.2 ∙ ap pos (sym a), omega (arith, a, n.3))

      pub first-here : {after : List ℕ} → after ≡ set places (nat_abs (held (get_or values i (pos 0)))) i
          → with_firsts i (drop i kinds) (drop i values) places ≡ with_firsts (i + 1) (drop (i + 1) kinds) (drop (i + 1) values) after
      first-here q =
          let n = number-held in
          firsts-from
          ∙ ap (λ t. with_firsts (i + 1) (drop (i + 1) kinds) (drop (i + 1) values) (cond t (set places (nat_abs (get_or values i (pos 0))) i) places)) (eq-eqb (get_or kinds i 0) 2 e)
          ∙ ap (with_firsts (i + 1) (drop (i + 1) kinds) (drop (i + 1) values)) (sym (q ∙ ap (λ z. set places (nat_abs z) i) (n.2 ∙ sym n.1)))

    pub no_first_here : (get_or kinds i 0 ≡ 2 → ⊥) → {after : List ℕ} → after ≡ places
        → with_firsts i (drop i kinds) (drop i values) places ≡ with_firsts (i + 1) (drop (i + 1) kinds) (drop (i + 1) values) after
    no_first_here n q =
        firsts-from
        ∙ ap (λ t. with_firsts (i + 1) (drop (i + 1) kinds) (drop (i + 1) values) (cond t (set places (nat_abs (get_or values i (pos 0))) i) places)) (ne_eqb (get_or kinds i 0) 2 n)
        ∙ ap (with_firsts (i + 1) (drop (i + 1) kinds) (drop (i + 1) values)) (sym q)

  pub firsts-end : length kinds ≤ i → with_firsts i (drop i kinds) (drop i values) places ≡ places
  unfolding with_firsts
  firsts-end h = ap (λ ks. with_firsts i ks (drop i values) places) (drop_of_length-le kinds h)

-- ---- the places that the nodes of expressions and constraints put into a table

set_sets : {X : Type 0} (t : List X) (i j : ℕ) (v : X) (vs : List X) → j < i → set (sets t i vs) j v ≡ sets (set t j v) i vs
set_sets t i j v [] h = refl
set_sets t i j v (w ∷ vs) h =
    set_sets (set t i w) (suc i) j v vs (omega arith) ∙ ap (λ l. sets l (suc i) vs) (set_comm t i j w v (λ e. omega arith))

-- The table after the nodes from the place n on.
abbrev placed : ℕ → List Node → List ℕ → List ℕ
placed n l t = with_firsts n (kinds_of l) (values_of l) t

placed-append : (n : ℕ) (xs ys : List Node) (t : List ℕ) → placed n (xs ++ ys) t ≡ placed (n + length xs) ys (placed n xs t)
unfolding with_firsts
placed-append n [] ys t = ap (λ m. placed m ys t) (let e : n ≡ n + 0 = omega arith in e)
placed-append n (x ∷ xs) ys t =
    let t' = cond (eqb x.kind 2) (set t (nat_abs x.value) n) t in
    placed-append (suc n) xs ys t' ∙ ap (λ m. placed m ys (placed (suc n) xs t')) (let e : suc n + length xs ≡ n + suc (length xs) = omega arith in e)

-- A node that is no first's, behind others.
placed-last : (n : ℕ) (l : List Node) (j : ℕ) (v : ℤ) (s : ℕ) (t : List ℕ) → 3 ≤ j → placed n (l ++ (node j v s ∷ [])) t ≡ placed n l t
unfolding with_firsts
placed-last n l j v s t h =
    placed-append n l (node j v s ∷ []) t ∙ ap (λ b. cond b (set (placed n l t) (nat_abs v) (n + length l)) (placed n l t)) (ne_eqb j 2 (λ e. omega arith))

-- Nodes that stand for an expression, from the place n on and with firsts numbered from f on.
abbrev Puts : ℕ → ℕ → List Node → Expression → Type 0
Puts n f l e = (t : List ℕ) → placed n l t ≡ sets t f (first_places n e)

-- Two parts, and the places of both.
placed_pair : (n f : ℕ) (l r : List Node) (p q : List ℕ) → ((t : List ℕ) → placed n l t ≡ sets t f p) → ((t : List ℕ) → placed (n + length l) r t ≡ sets t (f + length p) q)
    → (t : List ℕ) → placed n (l ++ r) t ≡ sets t f (p ++ q)
placed_pair n f l r p q a b t = placed-append n l r t ∙ ap (placed (n + length l) r) (a t) ∙ b (sets t f p) ∙ sets_append t f p q

placed-parts : (n f : ℕ) (a b : Expression) → Puts n f (postfix n f a) a → Puts (n + length (postfix n f a)) (f + length (firsts a)) (postfix (n + length (postfix n f a)) (f + length (firsts a)) b) b
    → (t : List ℕ) → placed n (postfix n f a ++ postfix (n + length (postfix n f a)) (f + length (firsts a)) b) t ≡ sets t f (first_places n a ++ first_places (n + length (subexpressions a)) b)
placed-parts n f a b p q =
    let l = postfix n f a in
    let r = postfix (n + length l) (f + length (firsts a)) b in
    placed_pair n f l r (first_places n a) (first_places (n + length (subexpressions a)) b) p
    (λ t. q t ∙ ap₂ (λ k m. sets t (f + k) (first_places (n + m) b)) (sym (places-long n a)) (length-postfix n f a))

placed-node : (n : ℕ) (l r : List Node) (j : ℕ) (v : ℤ) (s : ℕ) (t : List ℕ) → 3 ≤ j → placed n (l ++ (r ++ (node j v s ∷ []))) t ≡ placed n (l ++ r) t
placed-node n l r j v s t h = ap (λ m. placed n m t) (sym (append_assoc l r (node j v s ∷ []))) ∙ placed-last n (l ++ r) j v s t h

placed-postfix : (n f : ℕ) (e : Expression) → Puts n f (postfix n f e) e
unfolding postfix first_places with_firsts
placed-postfix n f (integer z) t = refl
placed-postfix n f (name k) t = refl
placed-postfix n f (first e) t =
    placed-append n (postfix n (suc f) e) (node 2 (pos f) n ∷ []) t
    ∙ ap₂ (λ l m. set l f (n + m)) (placed-postfix n (suc f) e t) (length-postfix n (suc f) e)
    ∙ set_sets t (suc f) f (n + length (subexpressions e)) (first_places n e) (omega arith)
placed-postfix n f (next e) t = placed-last n (postfix n f e) 3 (pos 0) n t (omega arith) ∙ placed-postfix n f e t
placed-postfix n f (negation e) t = placed-last n (postfix n f e) 4 (pos 0) n t (omega arith) ∙ placed-postfix n f e t
placed-postfix n f (binary o a b) t =
    let l = postfix n f a in
    let c = operator-beyond o in
    placed-node n l (postfix (n + length l) (f + length (firsts a)) b) (operator_code o) (pos 0) n t (omega arith)
    ∙ placed-parts n f a b (placed-postfix n f a) (placed-postfix (n + length l) (f + length (firsts a)) b) t
placed-postfix n f (conditional c a b) t =
    let p = postfix n f c in
    let m = n + length p in
    let g = f + length (firsts c) in
    let l = postfix m g a in
    let r = postfix (m + length l) (g + length (firsts a)) b in
    let k = n + length (subexpressions c) in
    placed_pair n f p (l ++ (r ++ (node 5 (pos 0) n ∷ []))) (first_places n c) (first_places k a ++ first_places (k + length (subexpressions a)) b) (placed-postfix n f c)
    (λ u.
    placed-node m l r 5 (pos 0) n u (omega arith)
    ∙ placed-parts m g a b (placed-postfix m g a) (placed-postfix (m + length l) (g + length (firsts a)) b) u
    ∙ ap₂ (λ i j. sets u (f + i) (first_places (n + j) a ++ first_places (n + j + length (subexpressions a)) b)) (sym (places-long n c)) (length-postfix n f c))
    t
placed-postfix n f (fby a b) t =
    let l = postfix n f a in
    placed-node n l (postfix (n + length l) (f + length (firsts a)) b) 6 (pos 0) n t (omega arith)
    ∙ placed-parts n f a b (placed-postfix n f a) (placed-postfix (n + length l) (f + length (firsts a)) b) t

placed-all : (n f : ℕ) (cs : List Constraint) (t : List ℕ) → placed n (all_nodes n f cs) t ≡ sets t f (all_first_places n cs)
unfolding all_nodes all_first_places with_firsts
placed-all n f [] t = refl
placed-all n f (c ∷ cs) t =
    let x = left_side c in
    let y = right_side c in
    let l = postfix n f x in
    let r = postfix (n + length l) (f + length (firsts x)) y in
    let m = n + length (subexpressions x) in
    let here = first_places n x ++ first_places m y in
    let many : length here ≡ length (side_firsts c) = length-append (first_places n x) (first_places m y) ∙ ap₂ ◌+◌ (places-long n x) (places-long m y) ∙ sym (length-append (firsts x) (firsts y)) in
    let behind : n + length (l ++ r) ≡ m + length (subexpressions y) = omega (arith, length-append l r, length-postfix n f x, length-postfix (n + length l) (f + length (firsts x)) y) in
    placed_pair n f (l ++ r) (all_nodes (n + length (l ++ r)) (f + length (side_firsts c)) cs) here (all_first_places (m + length (subexpressions y)) cs)
    (placed-parts n f x y (placed-postfix n f x) (placed-postfix (n + length l) (f + length (firsts x)) y))
    (λ u. placed-all (n + length (l ++ r)) (f + length (side_firsts c)) cs u ∙ ap₂ (λ i j. sets u (f + i) (all_first_places j cs)) (sym many) behind) t

-- The places found among the nodes of constraints.
pub first-places : (cs : List Constraint) → length (all_firsts cs) ≤ 8 → with_firsts 0 (kinds_of (all_nodes 0 0 cs)) (values_of (all_nodes 0 0 cs)) (replicate 8 0) ≡ padded 8 0 (all_first_places 0 cs)
first-places cs h = placed-all 0 0 cs (replicate 8 0) ∙ sets_padded 0 8 (all_first_places 0 cs) (omega (arith, all_places_long 0 cs))

-- ---- the numbers of the firsts

-- A node of a first has a number below b.
abbrev Numbered : ℕ → Node → Type 0
Numbered b x = x.kind ≡ 2 → (k : ℕ) × (x.value ≡ pos k) × (k < b)

module _ (b : ℕ) where
  no_first : (j : ℕ) (v : ℤ) (s : ℕ) → (j ≡ 2 → ⊥) → Numbered b (node j v s)
  no_first j v s h e = absurd (h e)

  numbered-pair : (xs ys : List Node) → All (Numbered b) xs → All (Numbered b) ys → All (Numbered b) (xs ++ ys)
  numbered-pair xs ys p q = (All-append (Numbered b) xs ys).1 (p, q)

  numbered-last : (l : List Node) (x : Node) → All (Numbered b) l → Numbered b x → All (Numbered b) (l ++ (x ∷ []))
  numbered-last l x p q = numbered-pair l (x ∷ []) p (q, tt)

  numbered-postfix : (n f : ℕ) (e : Expression) → f + length (firsts e) ≤ b → All (Numbered b) (postfix n f e)
  unfolding postfix firsts
  numbered-postfix n f (integer z) h = (no_first 0 z n (λ e. omega arith), tt)
  numbered-postfix n f (name k) h = (no_first 1 (pos k) n (λ e. omega arith), tt)
  numbered-postfix n f (first e) h = numbered-last (postfix n (suc f) e) (node 2 (pos f) n) (numbered-postfix n (suc f) e (omega arith)) (λ q. (f, refl, omega arith))
  numbered-postfix n f (next e) h = numbered-last (postfix n f e) (node 3 (pos 0) n) (numbered-postfix n f e h) (no_first 3 (pos 0) n (λ q. omega arith))
  numbered-postfix n f (negation e) h = numbered-last (postfix n f e) (node 4 (pos 0) n) (numbered-postfix n f e h) (no_first 4 (pos 0) n (λ q. omega arith))
  numbered-postfix n f (binary o x y) h =
      let l = postfix n f x in
      let m = length-append (firsts x) (firsts y) in
      let c = operator-beyond o in
      numbered-pair l (postfix (n + length l) (f + length (firsts x)) y ++ (node (operator_code o) (pos 0) n ∷ [])) (numbered-postfix n f x (omega arith))
      (numbered-last (postfix (n + length l) (f + length (firsts x)) y) (node (operator_code o) (pos 0) n) (numbered-postfix (n + length l) (f + length (firsts x)) y (omega arith)) (no_first (operator_code o) (pos 0) n (λ q. omega arith)))
  numbered-postfix n f (conditional c x y) h =
      let p = postfix n f c in
      let g = f + length (firsts c) in
      let l = postfix (n + length p) g x in
      let r = postfix (n + length p + length l) (g + length (firsts x)) y in
      let m = length-append (firsts x) (firsts y) in
      let k = length-append (firsts c) (firsts x ++ firsts y) in
      numbered-pair p (l ++ (r ++ (node 5 (pos 0) n ∷ []))) (numbered-postfix n f c (omega arith))
      (numbered-pair l (r ++ (node 5 (pos 0) n ∷ [])) (numbered-postfix (n + length p) g x (omega arith))
      (numbered-last r (node 5 (pos 0) n) (numbered-postfix (n + length p + length l) (g + length (firsts x)) y (omega arith)) (no_first 5 (pos 0) n (λ q. omega arith))))
  numbered-postfix n f (fby x y) h =
      let l = postfix n f x in
      let m = length-append (firsts x) (firsts y) in
      numbered-pair l (postfix (n + length l) (f + length (firsts x)) y ++ (node 6 (pos 0) n ∷ [])) (numbered-postfix n f x (omega arith))
      (numbered-last (postfix (n + length l) (f + length (firsts x)) y) (node 6 (pos 0) n) (numbered-postfix (n + length l) (f + length (firsts x)) y (omega arith)) (no_first 6 (pos 0) n (λ q. omega arith)))

  numbered-all : (n f : ℕ) (cs : List Constraint) → f + length (all_firsts cs) ≤ b → All (Numbered b) (all_nodes n f cs)
  unfolding all_nodes
  numbered-all n f [] h = tt
  numbered-all n f (c ∷ cs) h =
      let x = left_side c in
      let y = right_side c in
      let l = postfix n f x in
      let r = postfix (n + length l) (f + length (firsts x)) y in
      let m = length-append (firsts x) (firsts y) in
      let k = length-append (side_firsts c) (all_firsts cs) in
      numbered-pair (l ++ r) (all_nodes (n + length (l ++ r)) (f + length (side_firsts c)) cs)
      (numbered-pair l r (numbered-postfix n f x (omega arith)) (numbered-postfix (n + length l) (f + length (firsts x)) y (omega arith)))
      (numbered-all (n + length (l ++ r)) (f + length (side_firsts c)) cs (omega arith))

pub few_firsts : (cs : List Constraint) → length (all_firsts cs) ≤ 8 → FewFirsts (kinds_of (all_nodes 0 0 cs)) (values_of (all_nodes 0 0 cs))
few_firsts cs h = record { numbered = number }
  where
    nodes : List Node
    nodes = all_nodes 0 0 cs

    number : (i : ℕ) → i < length (kinds_of nodes) → get_or (kinds_of nodes) i 0 ≡ 2 → (k : ℕ) × (get_or (values_of nodes) i (pos 0) ≡ pos k) × (k < 8)
    number i inside e =
        let x₀ = node 0 (pos 0) 0 in
        let b : i < length nodes = omega (arith, length-map nodes (λ (x : Node). x.kind)) in
        let n = All-get_or (Numbered 8) nodes (numbered-all 8 0 0 cs (omega arith)) i x₀ b (sym (get_d_map (λ (x : Node). x.kind) nodes i x₀ 0 b) ∙ e) in
        (n.0, get_d_map (λ (x : Node). x.value) nodes i x₀ (pos 0) b ∙ n.1, n.2)
