-- Where the expressions of a sheet's nodes stand: the last node of an expression is its own.
use Prim.Native.Nat.{ℕ, suc, ◌+◌, ◌-◌, ◌<◌}
use native.Mathlib.Omega.{arith}
use native.Mathlib.Nat.{add-zero}
use mathlib.Core.Path.{◌≡◌, refl, sym, ◌∙◌, ap, subst}
use mathlib.Core.List.{List, [], ◌∷◌, ◌++◌, append_assoc}
use lib.IntN.{pos}
use lib.ListN.{length, get_or, length-append}
use lib.Seq.{get_or-append_seam}
use Rattle.meaning.specs.Expression.{Expression, integer, name, first, next, negation, binary, conditional, fby, Constraint, left_side, right_side}
use Rattle.meaning.specs.Interval.{subexpressions}
use Rattle.spans.specs.Postfix.{in_postfix, node_count, node_expressions}

-- The expressions stand in the list from the place p on.
abbrev pub Stand : List Expression → ℕ → List Expression → Type 0
Stand L p [] = Unit
Stand L p (x ∷ xs) = (get_or L p (integer (pos 0)) ≡ x) × Stand L (suc p) xs

pub Stand-append : (L : List Expression) (p : ℕ) (xs ys : List Expression) → Stand L p (xs ++ ys) → Stand L p xs × Stand L (p + length xs) ys
Stand-append L p [] ys h = (tt, subst (λ k. Stand L k ys) (sym (add-zero p)) h)
Stand-append L p (x ∷ xs) ys h =
    let r = Stand-append L (suc p) xs ys h.1 in
    let e : suc p + length xs ≡ p + suc (length xs) = omega arith in
    ((h.0, r.0), subst (λ k. Stand L k ys) e r.1)

-- Every list stands in itself.
pub stand_self : (L : List Expression) → Stand L 0 L
stand_self L = behind [] L
  where
    behind : (front xs : List Expression) → Stand (front ++ xs) (length front) xs
    behind front [] = tt
    behind front (x ∷ xs) =
        let q : front ++ (x ∷ xs) ≡ (front ++ (x ∷ [])) ++ xs = sym (append_assoc front (x ∷ []) xs) in
        let n : length (front ++ (x ∷ [])) ≡ suc (length front) = length-append front (x ∷ []) ∙ omega arith in
        (get_or-append_seam front x xs (integer (pos 0)), subst (λ L. Stand L (suc (length front)) xs) (sym q) (subst (λ k. Stand ((front ++ (x ∷ [])) ++ xs) k xs) n (behind (front ++ (x ∷ [])) xs)))

-- An expression's nodes end with its own.
record EndsWith (e : Expression) : Type 0 where
  front : List Expression
  is : in_postfix e ≡ front ++ (e ∷ [])

ends_with : (e : Expression) → EndsWith e
unfolding in_postfix
ends_with (integer z) = record { front = []; is = refl }
ends_with (name k) = record { front = []; is = refl }
ends_with (first e) = record { front = in_postfix e; is = refl }
ends_with (next e) = record { front = in_postfix e; is = refl }
ends_with (negation e) = record { front = in_postfix e; is = refl }
ends_with (binary o a b) = record { front = in_postfix a ++ in_postfix b; is = sym (append_assoc (in_postfix a) (in_postfix b) (binary o a b ∷ [])) }
ends_with (conditional c a b) =
    record {
      front = in_postfix c ++ (in_postfix a ++ in_postfix b);
      is = ap (λ l. in_postfix c ++ l) (sym (append_assoc (in_postfix a) (in_postfix b) (conditional c a b ∷ []))) ∙ sym (append_assoc (in_postfix c) (in_postfix a ++ in_postfix b) (conditional c a b ∷ []));
    }
ends_with (fby a b) = record { front = in_postfix a ++ in_postfix b; is = sym (append_assoc (in_postfix a) (in_postfix b) (fby a b ∷ [])) }

pub some-node : (e : Expression) → 0 < node_count e
some-node e = let w = ends_with e in omega (arith, ap length w.is, length-append w.front (e ∷ []))

pub root_at : (L : List Expression) (p : ℕ) (e : Expression) → Stand L p (in_postfix e) → get_or L (p + node_count e - 1) (integer (pos 0)) ≡ e
root_at L p e h =
    let w = ends_with e in
    let n : p + node_count e - 1 ≡ p + length w.front = omega (arith, ap length w.is, length-append w.front (e ∷ [])) in
    ap (λ k. get_or L k (integer (pos 0))) n ∙ (Stand-append L p w.front (e ∷ []) (subst (Stand L p) w.is h)).1.0

-- There is a node for each subexpression.
pub nodes-counted : (e : Expression) → node_count e ≡ length (subexpressions e)
unfolding in_postfix subexpressions
nodes-counted (integer z) = refl
nodes-counted (name k) = refl
nodes-counted (first e) = let h = nodes-counted e in omega (arith, length-append (in_postfix e) (first e ∷ []))
nodes-counted (next e) = let h = nodes-counted e in omega (arith, length-append (in_postfix e) (next e ∷ []))
nodes-counted (negation e) = let h = nodes-counted e in omega (arith, length-append (in_postfix e) (negation e ∷ []))
nodes-counted (binary o a b) =
    let h = nodes-counted a in
    let k = nodes-counted b in
    omega (arith, length-append (in_postfix a) (in_postfix b ++ (binary o a b ∷ [])), length-append (in_postfix b) (binary o a b ∷ []), length-append (subexpressions a) (subexpressions b))
nodes-counted (conditional c a b) =
    let g = nodes-counted c in
    let h = nodes-counted a in
    let k = nodes-counted b in
    omega (arith, length-append (in_postfix c) (in_postfix a ++ (in_postfix b ++ (conditional c a b ∷ []))), length-append (in_postfix a) (in_postfix b ++ (conditional c a b ∷ [])), length-append (in_postfix b) (conditional c a b ∷ []), length-append (subexpressions c) (subexpressions a ++ subexpressions b), length-append (subexpressions a) (subexpressions b))
nodes-counted (fby a b) =
    let h = nodes-counted a in
    let k = nodes-counted b in
    omega (arith, length-append (in_postfix a) (in_postfix b ++ (fby a b ∷ [])), length-append (in_postfix b) (fby a b ∷ []), length-append (subexpressions a) (subexpressions b))

-- The sides of the first of some constraints, and the constraints after it.
pub sides_stand : (L : List Expression) (p : ℕ) (c : Constraint) (cs : List Constraint) → Stand L p (node_expressions (c ∷ cs))
    → Stand L p (in_postfix (left_side c)) × Stand L (p + node_count (left_side c)) (in_postfix (right_side c)) × Stand L (p + node_count (left_side c) + node_count (right_side c)) (node_expressions cs)
unfolding node_expressions
sides_stand L p c cs h =
    let a = Stand-append L p (in_postfix (left_side c) ++ in_postfix (right_side c)) (node_expressions cs) h in
    let b = Stand-append L p (in_postfix (left_side c)) (in_postfix (right_side c)) a.0 in
    let e : p + length (in_postfix (left_side c) ++ in_postfix (right_side c)) ≡ p + node_count (left_side c) + node_count (right_side c) = omega (arith, length-append (in_postfix (left_side c)) (in_postfix (right_side c))) in
    (b.0, b.1, subst (λ k. Stand L k (node_expressions cs)) e a.1)
