-- What refusal 4 says of unknown names, over stored nodes: the tests of `reader::is_unknown`, the nodes before a place of a loop, and that the
-- nodes of constraints have an unknown name exactly where the constraints do. From what a signed number is in the machine (arithmetic), and
-- from the definitions.
use Prim.Native.Nat.{ℕ, suc, ◌+◌, ◌≤◌, ◌<◌}
use mathlib.Core.Path.{◌≡◌, refl, sym, ap, ap₂, ◌∙◌}
use mathlib.Core.Bool.{Bool, true, false, not, ◌&&◌, ◌||◌, or_assoc, or-false}
use mathlib.Core.List.{List, [], ◌∷◌, ◌++◌, map}
use native.Mathlib.Omega.{arith}
use native.Mathlib.Decide.{dec_lt}
use lib.Dec.{leb, ltb}
use lib.IntN.{ℤ, pos, nat_abs}
use lib.ListN.{length, drop, get_or, drop_of_length-le}
use lib.Signed.{le_z}
use borrow.Author.Tests.{eq-eqb, ne_eqb, lt-ltb, le-ltb, le-leb, lt-leb}
use mir.Syntax.{w64}
use mir.Val.{SFits, to_z}
use mir.ValLaws.{to_z-of_z}
use Rattle.meaning.specs.Arithmetic.{Operator, add, subtract, multiply, divide, remainder, compare, and, or, floored_divide, floored_remainder}
use Rattle.meaning.specs.Expression.{Expression, integer, name, first, next, negation, binary, conditional, fby, Constraint, always, until, left_side, right_side}
use Rattle.meaning.specs.Window.{firsts, side_firsts}
use Rattle.sheet.specs.Reading.{any_of, names_below, sides_below}
use Rattle.nodes.specs.Code.{operator_code}
use Rattle.nodes.specs.Postfix.{Node, node, postfix, side_nodes, all_nodes, kinds_of, values_of}
use Rattle.parse.specs.Bounded.{bounded_expression, bounded_constraint}
use Rattle.arithmetic.proofs.Machine.{held, held_both}
use Rattle.reader.specs.Unknown.{is_unknown, some_unknown}
use Rattle.reader.proofs.Elements.{drop-next}

-- ---- one node

module _ (kind : ℕ) (value streams : ℤ) where
  pub name_unknown : SFits w64 value → SFits w64 streams → streams ≡ pos (nat_abs streams) → kind ≡ 1 → le_z (held streams) (held value) ≡ is_unknown kind value (nat_abs streams)
  name_unknown v s p e =
      held_both le_z streams value s v ∙ ap (λ x. le_z x value) p ∙ sym (ap (λ t. t && le_z (pos (nat_abs streams)) value) (eq-eqb kind 1 e))

  pub no_name : (kind ≡ 1 → ⊥) → false ≡ is_unknown kind value (nat_abs streams)
  no_name n = sym (ap (λ t. t && le_z (pos (nat_abs streams)) value) (ne_eqb kind 1 n))

-- The number of streams as a signed number.
pub streams-held : (n : ℕ) → n ≤ 8 → to_z w64 n ≡ pos n
streams-held n h = to_z-of_z w64 (pos n) (record { sfits = omega arith })

pub streams-natural : (n : ℕ) → n ≤ 8 → to_z w64 n ≡ pos (nat_abs (to_z w64 n))
streams-natural n h = streams-held n h ∙ sym (ap (λ z. pos (nat_abs z)) (streams-held n h))

pub unknown_answer : (kind : ℕ) (value : ℤ) (n : ℕ) → n ≤ 8 → SFits w64 value → {r t : Bool} → r ≡ is_unknown kind (held value) (nat_abs (to_z w64 n)) → r ≡ t → is_unknown kind value n ≡ t
unknown_answer kind value n h f e q = sym (ap₂ (is_unknown kind) (to_z-of_z w64 value f) (ap nat_abs (streams-held n h))) ∙ sym e ∙ q

-- ---- the nodes from a place on

module _ (kinds : List ℕ) (values : List ℤ) (streams i : ℕ) where
  module _ (same : length values ≡ length kinds) (h : i < length kinds) {t : Bool} (e : is_unknown (get_or kinds i 0) (get_or values i (pos 0)) streams ≡ t) where
    pub unknown_from : some_unknown (drop i kinds) (drop i values) streams ≡ t || some_unknown (drop (i + 1) kinds) (drop (i + 1) values) streams
    unknown_from =
        ap₂ (λ ks vs. some_unknown ks vs streams) (drop-next kinds i 0 h) (drop-next values i (pos 0) (omega arith))
        ∙ ap (λ t. t || some_unknown (drop (i + 1) kinds) (drop (i + 1) values) streams) e

  pub unknown_end : length kinds ≤ i → some_unknown (drop i kinds) (drop i values) streams ≡ false
  unknown_end h = ap (λ ks. some_unknown ks (drop i values) streams) (drop_of_length-le kinds h)

-- ---- the nodes of expressions and constraints

-- The code of an operator is beyond those of the other nodes.
pub operator-beyond : (o : Operator) → 7 ≤ operator_code o
operator-beyond add = omega arith
operator-beyond subtract = omega arith
operator-beyond multiply = omega arith
operator-beyond divide = omega arith
operator-beyond remainder = omega arith
operator-beyond (compare c) = omega arith
operator-beyond and = omega arith
operator-beyond or = omega arith
operator-beyond floored_divide = omega arith
operator-beyond floored_remainder = omega arith

not-both : (a b : Bool) → not a || not b ≡ not (a && b)
not-both true b = refl
not-both false b = refl

leb_not_ltb : (m n : ℕ) → leb n m ≡ not (ltb m n)
leb_not_ltb m n = by (dec_lt m n)
  where
    by : Dec (m < n) → leb n m ≡ not (ltb m n)
    by (yes h) = lt-leb n m h ∙ sym (ap not (lt-ltb m n h))
    by (no h) = le-leb n m (omega arith) ∙ sym (ap not (le-ltb m n (omega arith)))

module _ (k : ℕ) where
  abbrev unknown_in : List Node → Bool
  unknown_in l = some_unknown (kinds_of l) (values_of l) k

  unknown_append : (xs ys : List Node) → unknown_in (xs ++ ys) ≡ unknown_in xs || unknown_in ys
  unknown_append [] ys = refl
  unknown_append (x ∷ xs) ys = ap (λ t. is_unknown x.kind x.value k || t) (unknown_append xs ys) ∙ sym (or_assoc (is_unknown x.kind x.value k) (unknown_in xs) (unknown_in ys))

  -- A node that is no name's, behind others.
  unknown_last : (l : List Node) (j : ℕ) (v : ℤ) (s : ℕ) → 2 ≤ j → unknown_in (l ++ (node j v s ∷ [])) ≡ unknown_in l
  unknown_last l j v s h =
      unknown_append l (node j v s ∷ [])
      ∙ ap (λ t. unknown_in l || (t && le_z (pos k) v || false)) (ne_eqb j 1 (λ e. omega arith)) ∙ or-false (unknown_in l)

  -- Two parts and the node behind them.
  unknown_pair : (l r : List Node) (j : ℕ) (v : ℤ) (s : ℕ) → 2 ≤ j → (a b : Expression) → unknown_in l ≡ not (names_below k a) → unknown_in r ≡ not (names_below k b)
      → unknown_in (l ++ (r ++ (node j v s ∷ []))) ≡ not (names_below k a && names_below k b)
  unknown_pair l r j v s h a b p q = unknown_append l (r ++ (node j v s ∷ [])) ∙ ap₂ ◌||◌ p (unknown_last r j v s h ∙ q) ∙ not-both (names_below k a) (names_below k b)

  unknown_postfix : (n f : ℕ) (e : Expression) → unknown_in (postfix n f e) ≡ not (names_below k e)
  unfolding postfix
  unknown_postfix n f (integer z) = refl
  unknown_postfix n f (name j) = or-false (leb k j) ∙ leb_not_ltb j k
  unknown_postfix n f (first e) = unknown_last (postfix n (suc f) e) 2 (pos f) n (omega arith) ∙ unknown_postfix n (suc f) e
  unknown_postfix n f (next e) = unknown_last (postfix n f e) 3 (pos 0) n (omega arith) ∙ unknown_postfix n f e
  unknown_postfix n f (negation e) = unknown_last (postfix n f e) 4 (pos 0) n (omega arith) ∙ unknown_postfix n f e
  unknown_postfix n f (binary o a b) =
      let l = postfix n f a in
      let r = postfix (n + length l) (f + length (firsts a)) b in
      let c = operator-beyond o in
      unknown_pair l r (operator_code o) (pos 0) n (omega arith) a b (unknown_postfix n f a) (unknown_postfix (n + length l) (f + length (firsts a)) b)
  unknown_postfix n f (conditional c a b) =
      let p = postfix n f c in
      let l = postfix (n + length p) (f + length (firsts c)) a in
      let r = postfix (n + length p + length l) (f + length (firsts c) + length (firsts a)) b in
      unknown_append p (l ++ (r ++ (node 5 (pos 0) n ∷ [])))
      ∙ ap₂ ◌||◌ (unknown_postfix n f c)
      (unknown_pair l r 5 (pos 0) n (omega arith) a b (unknown_postfix (n + length p) (f + length (firsts c)) a) (unknown_postfix (n + length p + length l) (f + length (firsts c) + length (firsts a)) b))
      ∙ not-both (names_below k c) (names_below k a && names_below k b)
  unknown_postfix n f (fby a b) =
      let l = postfix n f a in
      let r = postfix (n + length l) (f + length (firsts a)) b in
      unknown_pair l r 6 (pos 0) n (omega arith) a b (unknown_postfix n f a) (unknown_postfix (n + length l) (f + length (firsts a)) b)

  unknown_sides : (n f : ℕ) (c : Constraint) → unknown_in (side_nodes n f c) ≡ not (sides_below k c)
  unknown_sides n f c =
      let x = left_side c in
      let y = right_side c in
      let l = postfix n f x in
      unknown_append l (postfix (n + length l) (f + length (firsts x)) y)
      ∙ ap₂ ◌||◌ (unknown_postfix n f x) (unknown_postfix (n + length l) (f + length (firsts x)) y) ∙ not-both (names_below k x) (names_below k y)

-- "a name [..] unknown in a constraint": a node of a name whose number is not below the number of streams.
pub unknown_names : (n f k : ℕ) (cs : List Constraint) → some_unknown (kinds_of (all_nodes n f cs)) (values_of (all_nodes n f cs)) k ≡ any_of (λ c. not (sides_below k c)) cs
unfolding all_nodes
unknown_names n f k [] = refl
unknown_names n f k (c ∷ cs) =
    unknown_append k (side_nodes n f c) (all_nodes (n + length (side_nodes n f c)) (f + length (side_firsts c)) cs)
    ∙ ap₂ ◌||◌ (unknown_sides k n f c) (unknown_names (n + length (side_nodes n f c)) (f + length (side_firsts c)) k cs)

-- ---- names beside integers beyond the bound

bounded-below : (k : ℕ) (e : Expression) → names_below k (bounded_expression e) ≡ names_below k e
unfolding bounded_expression
bounded-below k (integer z) = refl
bounded-below k (name j) = refl
bounded-below k (first e) = bounded-below k e
bounded-below k (next e) = bounded-below k e
bounded-below k (negation e) = bounded-below k e
bounded-below k (binary o a b) = ap₂ ◌&&◌ (bounded-below k a) (bounded-below k b)
bounded-below k (conditional c a b) = ap₂ ◌&&◌ (bounded-below k c) (ap₂ ◌&&◌ (bounded-below k a) (bounded-below k b))
bounded-below k (fby a b) = ap₂ ◌&&◌ (bounded-below k a) (bounded-below k b)

bounded-sides : (k : ℕ) (c : Constraint) → sides_below k (bounded_constraint c) ≡ sides_below k c
bounded-sides k (always s a b) = ap₂ ◌&&◌ (bounded-below k a) (bounded-below k b)
bounded-sides k (until a b) = ap₂ ◌&&◌ (bounded-below k a) (bounded-below k b)

pub bounded-names : (k : ℕ) (cs : List Constraint) → any_of (λ c. not (sides_below k c)) (map bounded_constraint cs) ≡ any_of (λ c. not (sides_below k c)) cs
bounded-names k [] = refl
bounded-names k (c ∷ cs) = ap₂ (λ a b. not a || b) (bounded-sides k c) (bounded-names k cs)
