-- Expressions stored as lists of nodes in postfix order, so that every part stands before what it is part of.
use Rattle.std.specs.Prelude.{ℕ, suc, ◌+◌, ◌-◌, List, [], ◌∷◌, ◌++◌, map, ℤ, pos, length}
use Rattle.meaning.specs.Expression.{Expression, integer, name, first, next, negation, binary, conditional, fby, Constraint, left_side, right_side}
use Rattle.meaning.specs.Window.{firsts, side_firsts}
use Rattle.nodes.specs.Code.{operator_code, relation_code}

-- One node: what it is, an integer's value or a stream's or a `first`'s number (else 0), and the place of the first node of its subtree,
-- so that a subtree can be passed over without being evaluated.
pub record Node : Type 0 where
  pub kind : ℕ
  pub value : ℤ
  pub start : ℕ

abbrev pub node : ℕ → ℤ → ℕ → Node
node k v s = record { kind = k; value = v; start = s }

-- The nodes of an expression whose first node has the place n and whose first `first` has the number f, counted in the order of the words in the text.
unfoldable pub postfix : ℕ → ℕ → Expression → List Node
postfix n f (integer z) = node 0 z n ∷ []
postfix n f (name k) = node 1 (pos k) n ∷ []
postfix n f (first e) = postfix n (suc f) e ++ (node 2 (pos f) n ∷ [])
postfix n f (next e) = postfix n f e ++ (node 3 (pos 0) n ∷ [])
postfix n f (negation e) = postfix n f e ++ (node 4 (pos 0) n ∷ [])
postfix n f (binary o a b) =
    let l = postfix n f a in
    let r = postfix (n + length l) (f + length (firsts a)) b in
    l ++ (r ++ (node (operator_code o) (pos 0) n ∷ []))
postfix n f (conditional c a b) =
    let p = postfix n f c in
    let l = postfix (n + length p) (f + length (firsts c)) a in
    let r = postfix (n + length p + length l) (f + length (firsts c) + length (firsts a)) b in
    p ++ (l ++ (r ++ (node 5 (pos 0) n ∷ [])))
postfix n f (fby a b) =
    let l = postfix n f a in
    let r = postfix (n + length l) (f + length (firsts a)) b in
    l ++ (r ++ (node 6 (pos 0) n ∷ []))

-- A stored constraint: its relation and the places of the last node of either side.
pub record StoredConstraint : Type 0 where
  pub relation : ℕ
  pub left : ℕ
  pub right : ℕ

-- The nodes of all constraints, left side before right side, line after line.
abbrev pub side_nodes : ℕ → ℕ → Constraint → List Node
side_nodes n f c =
    let l = postfix n f (left_side c) in
    l ++ postfix (n + length l) (f + length (firsts (left_side c))) (right_side c)

unfoldable pub all_nodes : ℕ → ℕ → List Constraint → List Node
all_nodes n f [] = []
all_nodes n f (c ∷ cs) =
    let l = side_nodes n f c in
    l ++ all_nodes (n + length l) (f + length (side_firsts c)) cs

abbrev pub stored_constraint : ℕ → ℕ → Constraint → StoredConstraint
stored_constraint n f c =
    let l = length (postfix n f (left_side c)) in
    let r = length (postfix (n + l) (f + length (firsts (left_side c))) (right_side c)) in
    record { relation = relation_code c; left = n + l - 1; right = n + l + r - 1 }

unfoldable pub stored_constraints : ℕ → ℕ → List Constraint → List StoredConstraint
stored_constraints n f [] = []
stored_constraints n f (c ∷ cs) = stored_constraint n f c ∷ stored_constraints (n + length (side_nodes n f c)) (f + length (side_firsts c)) cs

-- The three lists in which nodes are stored.
abbrev pub kinds_of : List Node → List ℕ
kinds_of l = map (λ x. x.kind) l

abbrev pub values_of : List Node → List ℤ
values_of l = map (λ x. x.value) l

abbrev pub starts_of : List Node → List ℕ
starts_of l = map (λ x. x.start) l
