-- The stored nodes of a sheet of release 2 (document 02, S-11): those of what its lines are read as, but for the kinds of quotients and remainders. From
-- the definitions of nodes, part by part.
use Prim.Native.Nat.{ℕ, suc, ◌+◌, ◌-◌}
use mathlib.Core.Path.{◌≡◌, refl, ap, ap₂, ◌∙◌}
use mathlib.Core.List.{List, [], ◌∷◌, ◌++◌, map}
use lib.IntN.{pos}
use lib.ListN.{length, length-map}
use Rattle.meaning.specs.Value.{less, at_most, equal, at_least, greater, different}
use Rattle.meaning.specs.Arithmetic.{Operator, add, subtract, multiply, divide, remainder, compare, and, or, floored_divide, floored_remainder}
use Rattle.meaning.specs.Expression.{Expression, integer, name, first, next, negation, binary, conditional, fby, Constraint, always, until, left_side, right_side}
use Rattle.meaning.specs.Window.{firsts, side_firsts, all_firsts, all_untils}
use Rattle.sheet.specs.Release.{floored_operator, floored, floored_constraint}
use Rattle.sheet.proofs.Release.{map-parts, floored-left, floored-right}
use Rattle.nodes.specs.Code.{operator_code, floored_kind, relation_code}
use Rattle.nodes.specs.Postfix.{Node, node, postfix, side_nodes, all_nodes, stored_constraint, stored_constraints, kinds_of, values_of, starts_of}

abbrev floored_node : Node → Node
floored_node x = node (floored_kind x.kind) x.value x.start

map_twice : {X Y : Type 0} (g : X → Y) (h : X → X) (f : Y → Y) → ((x : X) → g (h x) ≡ f (g x)) → (l : List X) → map g (map h l) ≡ map f (map g l)
map_twice g h f e [] = refl
map_twice g h f e (x ∷ l) = ap₂ ◌∷◌ (e x) (map_twice g h f e l)

map-kept : {X Y : Type 0} (g : X → Y) (h : X → X) → ((x : X) → g (h x) ≡ g x) → (l : List X) → map g (map h l) ≡ map g l
map-kept g h e [] = refl
map-kept g h e (x ∷ l) = ap₂ ◌∷◌ (e x) (map-kept g h e l)

-- ---- what firsts stand before

floored-firsts : (e : Expression) → firsts (floored e) ≡ map floored (firsts e)
unfolding firsts
floored-firsts (integer z) = refl
floored-firsts (name k) = refl
floored-firsts (first e) = ap (λ l. floored e ∷ l) (floored-firsts e)
floored-firsts (next e) = floored-firsts e
floored-firsts (negation e) = floored-firsts e
floored-firsts (binary o a b) = map-parts floored (firsts a) (firsts b) (floored-firsts a) (floored-firsts b)
floored-firsts (conditional c a b) = map-parts floored (firsts c) (firsts a ++ firsts b) (floored-firsts c) (map-parts floored (firsts a) (firsts b) (floored-firsts a) (floored-firsts b))
floored-firsts (fby a b) = map-parts floored (firsts a) (firsts b) (floored-firsts a) (floored-firsts b)

firsts_count : (e : Expression) → length (firsts (floored e)) ≡ length (firsts e)
firsts_count e = ap length (floored-firsts e) ∙ length-map (firsts e) floored

floored-side_firsts : (c : Constraint) → side_firsts (floored_constraint c) ≡ map floored (side_firsts c)
floored-side_firsts c =
    map-parts floored (firsts (left_side c)) (firsts (right_side c)) (ap firsts (floored-left c) ∙ floored-firsts (left_side c)) (ap firsts (floored-right c) ∙ floored-firsts (right_side c))

floored-all_firsts : (cs : List Constraint) → all_firsts (map floored_constraint cs) ≡ map floored (all_firsts cs)
floored-all_firsts [] = refl
floored-all_firsts (c ∷ cs) = map-parts floored (side_firsts c) (all_firsts cs) (floored-side_firsts c) (floored-all_firsts cs)

pub floored-first-count : (cs : List Constraint) → length (all_firsts (map floored_constraint cs)) ≡ length (all_firsts cs)
floored-first-count cs = ap length (floored-all_firsts cs) ∙ length-map (all_firsts cs) floored

pub floored-until-count : (cs : List Constraint) → length (all_untils (map floored_constraint cs)) ≡ length (all_untils cs)
floored-until-count [] = refl
floored-until-count (always s a b ∷ cs) = floored-until-count cs
floored-until-count (until a b ∷ cs) = ap suc (floored-until-count cs)

-- ---- nodes

operator-floored : (o : Operator) → operator_code (floored_operator o) ≡ floored_kind (operator_code o)
operator-floored add = refl
operator-floored subtract = refl
operator-floored multiply = refl
operator-floored divide = refl
operator-floored remainder = refl
operator-floored (compare less) = refl
operator-floored (compare at_most) = refl
operator-floored (compare equal) = refl
operator-floored (compare at_least) = refl
operator-floored (compare greater) = refl
operator-floored (compare different) = refl
operator-floored and = refl
operator-floored or = refl
operator-floored floored_divide = refl
operator-floored floored_remainder = refl

-- The nodes of b behind those of a, from equal places and numbers on.
behind : (n f : ℕ) (a b : Expression) → ((m g : ℕ) → postfix m g (floored b) ≡ map floored_node (postfix m g b)) → postfix n f (floored a) ≡ map floored_node (postfix n f a)
    → postfix (n + length (postfix n f (floored a))) (f + length (firsts (floored a))) (floored b) ≡ map floored_node (postfix (n + length (postfix n f a)) (f + length (firsts a)) b)
behind n f a b h e =
    ap₂ (λ l m. postfix (n + l) (f + m) (floored b)) (ap length e ∙ length-map (postfix n f a) floored_node) (firsts_count a) ∙ h (n + length (postfix n f a)) (f + length (firsts a))

floored-postfix : (n f : ℕ) (e : Expression) → postfix n f (floored e) ≡ map floored_node (postfix n f e)
unfolding postfix
floored-postfix n f (integer z) = refl
floored-postfix n f (name k) = refl
floored-postfix n f (first e) = map-parts floored_node (postfix n (suc f) e) (node 2 (pos f) n ∷ []) (floored-postfix n (suc f) e) refl
floored-postfix n f (next e) = map-parts floored_node (postfix n f e) (node 3 (pos 0) n ∷ []) (floored-postfix n f e) refl
floored-postfix n f (negation e) = map-parts floored_node (postfix n f e) (node 4 (pos 0) n ∷ []) (floored-postfix n f e) refl
floored-postfix n f (binary o a b) =
    let l = postfix n f a in
    let r = postfix (n + length l) (f + length (firsts a)) b in
    let left = floored-postfix n f a in
    map-parts floored_node l (r ++ (node (operator_code o) (pos 0) n ∷ [])) left
    (map-parts floored_node r (node (operator_code o) (pos 0) n ∷ []) (behind n f a b (λ m g. floored-postfix m g b) left) (ap (λ k. node k (pos 0) n ∷ []) (operator-floored o)))
floored-postfix n f (conditional c a b) =
    let p = postfix n f c in
    let l = postfix (n + length p) (f + length (firsts c)) a in
    let r = postfix (n + length p + length l) (f + length (firsts c) + length (firsts a)) b in
    let condition = floored-postfix n f c in
    let left = floored-postfix (n + length p) (f + length (firsts c)) a in
    let places = ap₂ (λ x y. postfix (n + x) (f + y) (floored a)) (ap length condition ∙ length-map p floored_node) (firsts_count c) in
    let right =
    ap₂ (λ x y. postfix (n + length (postfix n f (floored c)) + x) (f + length (firsts (floored c)) + y) (floored b)) (ap length (places ∙ left) ∙ length-map l floored_node) (firsts_count a)
    ∙ ap₂ (λ x y. postfix (n + x + length l) (f + y + length (firsts a)) (floored b)) (ap length condition ∙ length-map p floored_node) (firsts_count c)
    ∙ floored-postfix (n + length p + length l) (f + length (firsts c) + length (firsts a)) b in
    map-parts floored_node p (l ++ (r ++ (node 5 (pos 0) n ∷ []))) condition
    (map-parts floored_node l (r ++ (node 5 (pos 0) n ∷ [])) (places ∙ left) (map-parts floored_node r (node 5 (pos 0) n ∷ []) right refl))
floored-postfix n f (fby a b) =
    let l = postfix n f a in
    let r = postfix (n + length l) (f + length (firsts a)) b in
    let left = floored-postfix n f a in
    map-parts floored_node l (r ++ (node 6 (pos 0) n ∷ [])) left (map-parts floored_node r (node 6 (pos 0) n ∷ []) (behind n f a b (λ m g. floored-postfix m g b) left) refl)

floored-side_nodes : (n f : ℕ) (c : Constraint) → side_nodes n f (floored_constraint c) ≡ map floored_node (side_nodes n f c)
floored-side_nodes n f c =
    let l = postfix n f (left_side c) in
    let r = postfix (n + length l) (f + length (firsts (left_side c))) (right_side c) in
    let left = floored-postfix n f (left_side c) in
    ap₂ (λ a b. postfix n f a ++ postfix (n + length (postfix n f a)) (f + length (firsts a)) b) (floored-left c) (floored-right c)
    ∙ map-parts floored_node l r left (behind n f (left_side c) (right_side c) (λ m g. floored-postfix m g (right_side c)) left)

side_firsts-count : (c : Constraint) → length (side_firsts (floored_constraint c)) ≡ length (side_firsts c)
side_firsts-count c = ap length (floored-side_firsts c) ∙ length-map (side_firsts c) floored

side_nodes-count : (n f : ℕ) (c : Constraint) → length (side_nodes n f (floored_constraint c)) ≡ length (side_nodes n f c)
side_nodes-count n f c = ap length (floored-side_nodes n f c) ∙ length-map (side_nodes n f c) floored_node

floored-all_nodes : (n f : ℕ) (cs : List Constraint) → all_nodes n f (map floored_constraint cs) ≡ map floored_node (all_nodes n f cs)
unfolding all_nodes
floored-all_nodes n f [] = refl
floored-all_nodes n f (c ∷ cs) =
    let l = side_nodes n f c in
    map-parts floored_node l (all_nodes (n + length l) (f + length (side_firsts c)) cs) (floored-side_nodes n f c)
    (ap₂ (λ x y. all_nodes (n + x) (f + y) (map floored_constraint cs)) (side_nodes-count n f c) (side_firsts-count c) ∙ floored-all_nodes (n + length l) (f + length (side_firsts c)) cs)

-- ---- what is stored of constraints

module _ (cs : List Constraint) where
  abbrev nodes : List Node
  nodes = all_nodes 0 0 cs

  pub floored-kinds : kinds_of (all_nodes 0 0 (map floored_constraint cs)) ≡ map floored_kind (kinds_of nodes)
  floored-kinds = ap kinds_of (floored-all_nodes 0 0 cs) ∙ map_twice (λ x. x.kind) floored_node floored_kind (λ x. refl) nodes

  pub floored-values : values_of (all_nodes 0 0 (map floored_constraint cs)) ≡ values_of nodes
  floored-values = ap values_of (floored-all_nodes 0 0 cs) ∙ map-kept (λ x. x.value) floored_node (λ x. refl) nodes

  pub floored-starts : starts_of (all_nodes 0 0 (map floored_constraint cs)) ≡ starts_of nodes
  floored-starts = ap starts_of (floored-all_nodes 0 0 cs) ∙ map-kept (λ x. x.start) floored_node (λ x. refl) nodes

  pub floored-node-count : length (all_nodes 0 0 (map floored_constraint cs)) ≡ length nodes
  floored-node-count = ap length (floored-all_nodes 0 0 cs) ∙ length-map nodes floored_node

relation-floored : (c : Constraint) → relation_code (floored_constraint c) ≡ relation_code c
relation-floored (always s a b) = refl
relation-floored (until a b) = refl

floored-stored_constraint : (n f : ℕ) (c : Constraint) → stored_constraint n f (floored_constraint c) ≡ stored_constraint n f c
floored-stored_constraint n f c =
    let l = postfix n f (left_side c) in
    let r = postfix (n + length l) (f + length (firsts (left_side c))) (right_side c) in
    let left = floored-postfix n f (left_side c) in
    let left-count : length (postfix n f (left_side (floored_constraint c))) ≡ length l = ap (λ a. length (postfix n f a)) (floored-left c) ∙ ap length left ∙ length-map l floored_node in
    let right-count : length (postfix (n + length (postfix n f (left_side (floored_constraint c)))) (f + length (firsts (left_side (floored_constraint c)))) (right_side (floored_constraint c))) ≡ length r =
    ap₂ (λ a b. length (postfix (n + length (postfix n f a)) (f + length (firsts a)) b)) (floored-left c) (floored-right c)
    ∙ ap length (behind n f (left_side c) (right_side c) (λ m g. floored-postfix m g (right_side c)) left) ∙ length-map r floored_node in
    λ i. record { relation = relation-floored c i; left = n + left-count i - 1; right = n + left-count i + right-count i - 1 }

pub floored-stored_constraints : (n f : ℕ) (cs : List Constraint) → stored_constraints n f (map floored_constraint cs) ≡ stored_constraints n f cs
unfolding stored_constraints
floored-stored_constraints n f [] = refl
floored-stored_constraints n f (c ∷ cs) =
    ap₂ ◌∷◌ (floored-stored_constraint n f c)
    (ap₂ (λ x y. stored_constraints (n + x) (f + y) (map floored_constraint cs)) (side_nodes-count n f c) (side_firsts-count c) ∙ floored-stored_constraints (n + length (side_nodes n f c)) (f + length (side_firsts c)) cs)
