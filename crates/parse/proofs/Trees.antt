-- How the stored nodes, the `first`s and the integers beyond the bound of a tree come from those of its parts. From the definitions.
use Prim.Native.Nat.{ℕ, suc, ◌+◌, ◌<◌}
use mathlib.Core.Path.{◌≡◌, refl, sym, ap, ap₂, ◌∙◌}
use mathlib.Core.Bool.{Bool, true, false, ◌||◌}
use mathlib.Core.List.{List, [], ◌∷◌, ◌++◌, append_assoc}
use native.Mathlib.Omega.{arith}
use native.Mathlib.Numerals.{add-one}
use lib.IntN.{ℤ, pos}
use lib.ListN.{length, length-append}
use Rattle.nodes.specs.Evaluate.{Nodes}
use Rattle.meaning.specs.Expression.{Expression, integer, name, first, next, negation, binary, conditional, fby}
use Rattle.meaning.specs.Interval.{subexpressions}
use Rattle.meaning.specs.Window.{firsts}
use Rattle.nodes.specs.Code.{operator_code}
use Rattle.nodes.specs.Postfix.{Node, node, postfix}
use Rattle.sheet.specs.Vocabulary.{Infix, pointwise, followed_by, infixed, Prefix, first_prefix, next_prefix, not_prefix, prefixed}
use Rattle.sheet.specs.Reading.{any_of, is_beyond, is_integer_beyond}
use Rattle.vocabulary.specs.Word.{infix_code, prefix_code}
use Rattle.parse.specs.Stored.{store}
use Rattle.parse.specs.Bounded.{zero_beyond, bounded_expression, has_beyond}
use Rattle.parse.specs.Reading.{StoresTree, firsts_inside, prefix_value}
use Rattle.parse.proofs.Store.{store-more}

pub any_of-append : {X : Type 0} (f : X → Bool) (l m : List X) → any_of f (l ++ m) ≡ (any_of f l || any_of f m)
any_of-append f [] m = refl
any_of-append f (x ∷ l) m = ap (λ b. f x || b) (any_of-append f l m) ∙ by (f x)
  where
    by : (b : Bool) → (b || (any_of f l || any_of f m)) ≡ ((b || any_of f l) || any_of f m)
    by true = refl
    by false = refl

-- An integer and a name.
module _ {old new : Nodes} {n f : ℕ} where
  pub stores-integer : (z : ℤ) {b : Bool} → b ≡ is_beyond z → new ≡ store old n (node 0 (zero_beyond z) n ∷ []) → StoresTree (integer z) old new n f (n + 1) f b
  unfolding postfix bounded_expression firsts has_beyond subexpressions
  stores-integer z e h = record { arrays = h; nodes = refl; firsts = omega arith; beyond = e ∙ alone (is_beyond z) }
    where
      alone : (m : Bool) → m ≡ (m || false)
      alone true = refl
      alone false = refl

  pub stores-name : (k : ℕ) → new ≡ store old n (node 1 (pos k) n ∷ []) → StoresTree (name k) old new n f (n + 1) f false
  unfolding postfix bounded_expression firsts has_beyond subexpressions
  stores-name k h = record { arrays = h; nodes = refl; firsts = omega arith; beyond = refl }

-- Every tree has a node.
pub length_last : {X : Type 0} (l m : List X) (x : X) → length (l ++ (m ++ (x ∷ []))) ≡ suc (length l + length m)
length_last l m x = let z = length-append l (m ++ (x ∷ [])) in let w = length-append m (x ∷ []) in omega arith

pub some-node : (n f : ℕ) (e : Expression) → 0 < length (postfix n f e)
unfolding postfix
some-node n f (integer z) = omega arith
some-node n f (name k) = omega arith
some-node n f (first e) = let z = length_last [] (postfix n (suc f) e) (node 2 (pos f) n) in omega arith
some-node n f (next e) = let z = length_last [] (postfix n f e) (node 3 (pos 0) n) in omega arith
some-node n f (negation e) = let z = length_last [] (postfix n f e) (node 4 (pos 0) n) in omega arith
some-node n f (binary o a b) = let z = length_last (postfix n f a) (postfix (n + length (postfix n f a)) (f + length (firsts a)) b) (node (operator_code o) (pos 0) n) in omega arith
some-node n f (conditional c a b) =
    let p = postfix n f c in
    let l = postfix (n + length p) (f + length (firsts c)) a in
    let r = postfix (n + length p + length l) (f + length (firsts c) + length (firsts a)) b in
    let z = length-append p (l ++ (r ++ (node 5 (pos 0) n ∷ []))) in
    let w = length_last l r (node 5 (pos 0) n) in
    omega arith
some-node n f (fby a b) = let z = length_last (postfix n f a) (postfix (n + length (postfix n f a)) (f + length (firsts a)) b) (node 6 (pos 0) n) in omega arith

-- `first`, `next` or `not` before a part.
prefixed-nodes : (p : Prefix) (e : Expression) (n f : ℕ) → postfix n f (bounded_expression (prefixed p e)) ≡ postfix n (firsts_inside (prefix_code p) f) (bounded_expression e) ++ (node (prefix_code p) (prefix_value (prefix_code p) f) n ∷ [])
unfolding postfix bounded_expression
prefixed-nodes first_prefix e n f = ap (λ g. postfix n g (bounded_expression e) ++ (node 2 (pos f) n ∷ [])) (sym (add-one f))
prefixed-nodes next_prefix e n f = refl
prefixed-nodes not_prefix e n f = refl

prefixed-firsts : (p : Prefix) (e : Expression) (f : ℕ) → firsts_inside (prefix_code p) f + length (firsts (bounded_expression e)) ≡ f + length (firsts (bounded_expression (prefixed p e)))
unfolding bounded_expression firsts
prefixed-firsts first_prefix e f = omega arith
prefixed-firsts next_prefix e f = refl
prefixed-firsts not_prefix e f = refl

prefixed-beyond : (p : Prefix) (e : Expression) → has_beyond (prefixed p e) ≡ has_beyond e
unfolding has_beyond subexpressions
prefixed-beyond first_prefix e = refl
prefixed-beyond next_prefix e = refl
prefixed-beyond not_prefix e = refl

length-one : {X : Type 0} (l : List X) (x : X) → length (l ++ (x ∷ [])) ≡ length l + 1
length-one l x = length-append l (x ∷ [])

pub stores-prefix : {old mid new : Nodes} {n f m g k : ℕ} {b : Bool} {e : Expression} {v : ℤ} (p : Prefix) → k ≡ prefix_code p → v ≡ prefix_value k f → StoresTree e old mid n (firsts_inside k f) m g b → new ≡ store mid m (node k v n ∷ [])
    → StoresTree (prefixed p e) old new n f (m + 1) g b
stores-prefix {old} {mid} {new} {n} {f} {m} {g} {k} {b} {e} {v} p q w s h = by k q v w s h
  where
    by : (k' : ℕ) → k' ≡ prefix_code p → (v' : ℤ) → v' ≡ prefix_value k' f → StoresTree e old mid n (firsts_inside k' f) m g b → new ≡ store mid m (node k' v' n ∷ []) → StoresTree (prefixed p e) old new n f (m + 1) g b
    by k' q v' w s h =
        let inner = postfix n (firsts_inside k' f) (bounded_expression e) in
        let last : List Node = node k' v' n ∷ [] in
        let whole : inner ++ last ≡ postfix n f (bounded_expression (prefixed p e)) = (λ i. postfix n (firsts_inside (q i) f) (bounded_expression e) ++ (node (q i) ((w ∙ ap (λ j. prefix_value j f) q) i) n ∷ [])) ∙ sym (prefixed-nodes p e n f) in
        let size = length-one inner (node k' v' n) in
        let count : length (inner ++ last) ≡ length (postfix n f (bounded_expression (prefixed p e))) = ap length whole in
        record {
          arrays = store-more old n inner last s.arrays s.nodes h ∙ ap (store old n) whole;
          nodes = omega (arith, s.nodes);
          firsts = s.firsts ∙ ap (λ j. firsts_inside j f + length (firsts (bounded_expression e))) q ∙ prefixed-firsts p e f;
          beyond = s.beyond ∙ sym (prefixed-beyond p e);
        }

-- Two parts with an operator between them.
joined-nodes : (o : Infix) (a b : Expression) (n f : ℕ) → postfix n f (bounded_expression (infixed o a b)) ≡ postfix n f (bounded_expression a) ++ (postfix (n + length (postfix n f (bounded_expression a))) (f + length (firsts (bounded_expression a))) (bounded_expression b) ++ (node (infix_code o) (pos 0) n ∷ []))
unfolding postfix bounded_expression
joined-nodes (pointwise o) a b n f = refl
joined-nodes followed_by a b n f = refl

joined-firsts : (o : Infix) (a b : Expression) → length (firsts (bounded_expression (infixed o a b))) ≡ length (firsts (bounded_expression a)) + length (firsts (bounded_expression b))
unfolding bounded_expression firsts
joined-firsts (pointwise o) a b = length-append (firsts (bounded_expression a)) (firsts (bounded_expression b))
joined-firsts followed_by a b = length-append (firsts (bounded_expression a)) (firsts (bounded_expression b))

joined-beyond : (o : Infix) (a b : Expression) → has_beyond (infixed o a b) ≡ (has_beyond a || has_beyond b)
unfolding has_beyond subexpressions
joined-beyond (pointwise o) a b = any_of-append is_integer_beyond (subexpressions a) (subexpressions b)
joined-beyond followed_by a b = any_of-append is_integer_beyond (subexpressions a) (subexpressions b)

-- Nodes in a row, of one tree after the other: those from n to m, with the numbers of `first`s from f to g, c of them.
pub record NodesInRow (old new : Nodes) (n f m g : ℕ) (l : List Node) (c : ℕ) : Type 0 where
  pub arrays : new ≡ store old n l
  pub nodes : m ≡ n + length l
  pub firsts : g ≡ f + c

pub row_one : {old new : Nodes} {n f m g : ℕ} {b : Bool} {a : Expression} → StoresTree a old new n f m g b → NodesInRow old new n f m g (postfix n f (bounded_expression a)) (length (firsts (bounded_expression a)))
row_one s = record { arrays = s.arrays; nodes = s.nodes; firsts = s.firsts }

pub row_more : {old mid new : Nodes} {n f m g k h : ℕ} {l : List Node} {c : ℕ} {y : Bool} {b : Expression} → NodesInRow old mid n f m g l c → StoresTree b mid new m g k h y
    → NodesInRow old new n f k h (l ++ postfix (n + length l) (f + c) (bounded_expression b)) (c + length (firsts (bounded_expression b)))
row_more {old} {mid} {n = n} {f = f} {l = l} {c = c} {b = b} r s =
    let others = postfix (n + length l) (f + c) (bounded_expression b) in
    let z = length-append l others in
    let w = s.nodes ∙ (λ i. r.nodes i + length (postfix (r.nodes i) (r.firsts i) (bounded_expression b))) in
    record {
      arrays = store-more old n l others r.arrays refl (s.arrays ∙ (λ i. store mid (r.nodes i) (postfix (r.nodes i) (r.firsts i) (bounded_expression b))));
      nodes = omega arith;
      firsts = omega (arith, r.firsts, s.firsts);
    }

pub row-node : {old mid new : Nodes} {n f m g : ℕ} {l : List Node} {c : ℕ} (x : Node) → NodesInRow old mid n f m g l c → new ≡ store mid m (x ∷ []) → NodesInRow old new n f (m + 1) g (l ++ (x ∷ [])) c
row-node {old} {n = n} {l = l} x r e = let z = length-one l x in record { arrays = store-more old n l (x ∷ []) r.arrays r.nodes e; nodes = omega (arith, r.nodes); firsts = r.firsts }

row-stores : {old new : Nodes} {n f m g : ℕ} {l : List Node} {c : ℕ} {b : Bool} {e : Expression} → NodesInRow old new n f m g l c → l ≡ postfix n f (bounded_expression e) → c ≡ length (firsts (bounded_expression e)) → b ≡ has_beyond e → StoresTree e old new n f m g b
row-stores {old} {n = n} {f = f} r p q w =
    record { arrays = r.arrays ∙ ap (store old n) p; nodes = r.nodes ∙ ap (λ l. n + length l) p; firsts = r.firsts ∙ ap (λ c. f + c) q; beyond = w }

pub stores-joined : {old mid end new : Nodes} {n f m g k h : ℕ} {x y : Bool} {a b : Expression} {c : ℕ} (o : Infix) → c ≡ infix_code o → StoresTree a old mid n f m g x → StoresTree b mid end m g k h y → new ≡ store end k (node c (pos 0) n ∷ [])
    → StoresTree (infixed o a b) old new n f (k + 1) h (x || y)
stores-joined {n = n} {f = f} {a = a} {b = b} {c = c} o q s t e =
    let left = postfix n f (bounded_expression a) in
    let right = postfix (n + length left) (f + length (firsts (bounded_expression a))) (bounded_expression b) in
    let whole : (left ++ right) ++ (node c (pos 0) n ∷ []) ≡ postfix n f (bounded_expression (infixed o a b)) = append_assoc left right (node c (pos 0) n ∷ []) ∙ (λ i. left ++ (right ++ (node (q i) (pos 0) n ∷ []))) ∙ sym (joined-nodes o a b n f) in
    row-stores (row-node (node c (pos 0) n) (row_more (row_one s) t) e) whole (sym (joined-firsts o a b)) (ap₂ ◌||◌ s.beyond t.beyond ∙ sym (joined-beyond o a b))

-- "`if` part `then` part `else` part"
conditional-nodes : (c a b : Expression) (n f : ℕ) →
    let p = postfix n f (bounded_expression c) in
    let q = p ++ postfix (n + length p) (f + length (firsts (bounded_expression c))) (bounded_expression a) in
    (q ++ postfix (n + length q) (f + (length (firsts (bounded_expression c)) + length (firsts (bounded_expression a)))) (bounded_expression b)) ++ (node 5 (pos 0) n ∷ []) ≡ postfix n f (bounded_expression (conditional c a b))
unfolding postfix bounded_expression
conditional-nodes c a b n f =
    let p = postfix n f (bounded_expression c) in
    let l = postfix (n + length p) (f + length (firsts (bounded_expression c))) (bounded_expression a) in
    let z = length-append p l in
    let place : n + length (p ++ l) ≡ n + length p + length l = omega arith in
    let number : f + (length (firsts (bounded_expression c)) + length (firsts (bounded_expression a))) ≡ f + length (firsts (bounded_expression c)) + length (firsts (bounded_expression a)) = omega arith in
    let last : List Node = node 5 (pos 0) n ∷ [] in
    let r = postfix (n + length p + length l) (f + length (firsts (bounded_expression c)) + length (firsts (bounded_expression a))) (bounded_expression b) in
    (λ i. ((p ++ l) ++ postfix (place i) (number i) (bounded_expression b)) ++ last) ∙ append_assoc (p ++ l) r last ∙ append_assoc p l (r ++ last)

conditional-firsts : (c a b : Expression) → length (firsts (bounded_expression c)) + length (firsts (bounded_expression a)) + length (firsts (bounded_expression b)) ≡ length (firsts (bounded_expression (conditional c a b)))
unfolding bounded_expression firsts
conditional-firsts c a b = let z = length-append (firsts (bounded_expression c)) (firsts (bounded_expression a) ++ firsts (bounded_expression b)) in let w = length-append (firsts (bounded_expression a)) (firsts (bounded_expression b)) in omega arith

conditional-beyond : (c a b : Expression) → (has_beyond c || (has_beyond a || has_beyond b)) ≡ has_beyond (conditional c a b)
unfolding has_beyond subexpressions
conditional-beyond c a b =
    sym (any_of-append is_integer_beyond (subexpressions c) (subexpressions a ++ subexpressions b) ∙ ap (λ m. any_of is_integer_beyond (subexpressions c) || m) (any_of-append is_integer_beyond (subexpressions a) (subexpressions b)))

pub stores-conditional : {old mid low end new : Nodes} {n f m g i j k h : ℕ} {x y z : Bool} {c a b : Expression} → StoresTree c old mid n f m g x → StoresTree a mid low m g i j y → StoresTree b low end i j k h z → new ≡ store end k (node 5 (pos 0) n ∷ [])
    → StoresTree (conditional c a b) old new n f (k + 1) h (x || (y || z))
stores-conditional {n = n} {f = f} {c = c} {a = a} {b = b} s t u e =
    row-stores (row-node (node 5 (pos 0) n) (row_more (row_more (row_one s) t) u) e) (conditional-nodes c a b n f) (conditional-firsts c a b)
    (ap₂ ◌||◌ s.beyond (ap₂ ◌||◌ t.beyond u.beyond) ∙ conditional-beyond c a b)
