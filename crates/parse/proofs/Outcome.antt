-- What a constraint's outcome settles: the answer, and the arrays but for what is left open; no more nodes and `first`s than tokens; where
-- the arrays hold what; and that a constraint without an integer beyond the bound is stored as it is. From the definitions.
use Prim.Native.Nat.{ℕ, suc, ◌+◌, ◌≤◌}
use mathlib.Core.Path.{◌≡◌, refl, sym, ap, ap₂, subst, ◌∙◌}
use mathlib.Core.Bool.{Bool, true, false, cond, ◌||◌, true≢false}
use mathlib.Core.List.{List, [], ◌∷◌, ◌++◌}
use mathlib.Core.Option.{some, none-ne-some, some-injective}
use native.Mathlib.Omega.{arith}
use lib.IntN.{pos}
use lib.ListN.{length, take, drop, set, length-append, length-map}
use lib.Seq.{sets, drop-set-lt, sets-eq}
use Rattle.nodes.proofs.Postfix.{length-postfix}
use Rattle.nodes.specs.Evaluate.{Nodes}
use Rattle.text.specs.Bytes.{Token, tokens}
use Rattle.meaning.specs.Expression.{Expression, integer, name, first, next, negation, binary, conditional, fby, Constraint, always, until}
use Rattle.meaning.specs.Interval.{subexpressions}
use Rattle.meaning.specs.Window.{firsts, side_firsts}
use Rattle.nodes.specs.Postfix.{Node, kinds_of, values_of, starts_of, postfix, side_nodes}
use Rattle.sheet.specs.Vocabulary.{Relation, sign, until_sign, related}
use Rattle.sheet.specs.Reading.{any_of, is_beyond, is_integer_beyond}
use Rattle.sheet.specs.Grammar.{ReadsConstraint, is_constraint}
use Rattle.sheet.specs.Parser.{parse_constraint}
use Rattle.sheet.proofs.Grammar.{reads-count}
use Rattle.sheet.proofs.Parser.{parse_constraint-sound}
use Rattle.parse.specs.declared.ConstraintRead.{ConstraintRead}
use Rattle.parse.specs.Stored.{store, SameBelow}
use Rattle.parse.specs.Bounded.{bounded_expression, bounded_constraint, constraint_beyond}
use Rattle.parse.specs.Reading.{constraint_read, StartsOutcome, are_kept, are_stored, ConstraintOutcome, is_too_long, is_no_constraint, is_read}
use Rattle.parse.proofs.Store.{below_refl, below-store}
use Rattle.parse.proofs.Trees.{any_of-append}

below_sym : {n : ℕ} {a b : Nodes} → SameBelow n a b → SameBelow n b a
below_sym s = record { kinds = sym s.kinds; values = sym s.values; starts = sym s.starts }

below_both : {n : ℕ} {a b c : Nodes} → SameBelow n a c → SameBelow n b c → SameBelow n a b
below_both s t = record { kinds = s.kinds ∙ sym t.kinds; values = s.values ∙ sym t.values; starts = s.starts ∙ sym t.starts }

-- The answer is settled, the arrays are where the answer is a constraint or the line is too long, and they are below n in any case.
pub record Settled (n : ℕ) (new new' : Nodes) (r r' : ConstraintRead) : Type 0 where
  pub answer : r ≡ r'
  pub read : r.ok ≡ true → new ≡ new'
  pub too_long : r.fits ≡ false → new ≡ new'
  pub below : SameBelow n new new'

same-arrays : {n : ℕ} {new new' : Nodes} {r r' : ConstraintRead} → r ≡ r' → new ≡ new' → Settled n new new' r r'
same-arrays {n} {new} e h = record { answer = e; read = λ t. h; too_long = λ t. h; below = subst (SameBelow n new) h (below_refl n new) }

pub outcome_unique : {names line : List ℕ} {n f : ℕ} {old new new' : Nodes} {r r' : ConstraintRead} → ConstraintOutcome names line n f old new r → ConstraintOutcome names line n f old new' r' → Settled n new new' r r'
outcome_unique (is_too_long u e h) (is_too_long u' e' h') = same-arrays (e ∙ sym e') (h ∙ sym h')
outcome_unique (is_too_long u e h) (is_no_constraint w p e' h') = absurd (u w)
outcome_unique (is_too_long u e h) (is_read w p e' h') = absurd (u w)
outcome_unique (is_no_constraint w p e h) (is_too_long u e' h') = absurd (u w)
outcome_unique (is_no_constraint w p e h) (is_no_constraint w' p' e' h') =
    record { answer = e ∙ sym e'; read = λ t. absurd (true≢false (sym t ∙ ap (λ a. a.ok) e)); too_long = λ t. absurd (true≢false (sym (ap (λ a. a.fits) e) ∙ t)); below = below_both h h' }
outcome_unique (is_no_constraint w p e h) (is_read {c} w' p' e' h') = absurd (none-ne-some c (sym p ∙ p'))
outcome_unique (is_read w p e h) (is_too_long u e' h') = absurd (u w)
outcome_unique (is_read {c} w p e h) (is_no_constraint w' p' e' h') = absurd (none-ne-some c (sym p' ∙ p))
outcome_unique {n = n} {f = f} {old = old} (is_read {c} w p e h) (is_read {c = c'} w' p' e' h') =
    let same : c ≡ c' = some-injective c c' (sym p ∙ p') in
    same-arrays (e ∙ ap (constraint_read n f) same ∙ sym e') (h ∙ ap (λ d. store old n (side_nodes n f (bounded_constraint d))) same ∙ sym h')

-- The token starts are settled in any case.
pub starts_unique : {line : List ℕ} {n f : ℕ} {old new new' : List ℕ} → StartsOutcome line n f old new → StartsOutcome line n f old new' → new ≡ new'
starts_unique (are_kept u e) (are_kept u' e') = e ∙ sym e'
starts_unique (are_kept u e) (are_stored w e') = absurd (u w)
starts_unique (are_stored w e) (are_kept u e') = absurd (u w)
starts_unique (are_stored w e) (are_stored w' e') = e ∙ sym e'

-- In any case the arrays hold below n what they held.
pub outcome-below : {names line : List ℕ} {n f : ℕ} {old new : Nodes} {r : ConstraintRead} → ConstraintOutcome names line n f old new r → SameBelow n new old
outcome-below {n = n} {old = old} {new = new} (is_too_long u e h) = subst (SameBelow n new) h (below_refl n new)
outcome-below (is_no_constraint w p e h) = h
outcome-below {n = n} {f = f} {old = old} (is_read {c} w p e h) = below-store old n (side_nodes n f (bounded_constraint c)) h

-- Integers beyond the bound are replaced one by one.
bounded-count : (e : Expression) → length (subexpressions (bounded_expression e)) ≡ length (subexpressions e)
unfolding bounded_expression subexpressions
bounded-count (integer z) = refl
bounded-count (name k) = refl
bounded-count (first e) = ap suc (bounded-count e)
bounded-count (next e) = ap suc (bounded-count e)
bounded-count (negation e) = ap suc (bounded-count e)
bounded-count (binary o a b) =
    let x = bounded-count a in
    let y = bounded-count b in
    let z = length-append (subexpressions (bounded_expression a)) (subexpressions (bounded_expression b)) in
    let w = length-append (subexpressions a) (subexpressions b) in
    omega arith
bounded-count (conditional c a b) =
    let s = bounded-count c in
    let x = bounded-count a in
    let y = bounded-count b in
    let t = length-append (subexpressions (bounded_expression c)) (subexpressions (bounded_expression a) ++ subexpressions (bounded_expression b)) in
    let z = length-append (subexpressions (bounded_expression a)) (subexpressions (bounded_expression b)) in
    let u = length-append (subexpressions c) (subexpressions a ++ subexpressions b) in
    let w = length-append (subexpressions a) (subexpressions b) in
    omega arith
bounded-count (fby a b) =
    let x = bounded-count a in
    let y = bounded-count b in
    let z = length-append (subexpressions (bounded_expression a)) (subexpressions (bounded_expression b)) in
    let w = length-append (subexpressions a) (subexpressions b) in
    omega arith

-- The `first`s stay where integers beyond the bound are replaced, and there are no more of them than expressions.
pub bounded-firsts : (e : Expression) → length (firsts (bounded_expression e)) ≡ length (firsts e)
unfolding bounded_expression firsts
bounded-firsts (integer z) = refl
bounded-firsts (name k) = refl
bounded-firsts (first e) = ap suc (bounded-firsts e)
bounded-firsts (next e) = bounded-firsts e
bounded-firsts (negation e) = bounded-firsts e
bounded-firsts (binary o a b) = length-append (firsts (bounded_expression a)) (firsts (bounded_expression b)) ∙ ap₂ ◌+◌ (bounded-firsts a) (bounded-firsts b) ∙ sym (length-append (firsts a) (firsts b))
bounded-firsts (conditional c a b) =
    length-append (firsts (bounded_expression c)) (firsts (bounded_expression a) ++ firsts (bounded_expression b))
    ∙ ap₂ ◌+◌ (bounded-firsts c) (length-append (firsts (bounded_expression a)) (firsts (bounded_expression b)) ∙ ap₂ ◌+◌ (bounded-firsts a) (bounded-firsts b) ∙ sym (length-append (firsts a) (firsts b)))
    ∙ sym (length-append (firsts c) (firsts a ++ firsts b))
bounded-firsts (fby a b) = length-append (firsts (bounded_expression a)) (firsts (bounded_expression b)) ∙ ap₂ ◌+◌ (bounded-firsts a) (bounded-firsts b) ∙ sym (length-append (firsts a) (firsts b))

firsts-few : (e : Expression) → length (firsts e) ≤ length (subexpressions e)
unfolding firsts subexpressions
firsts-few (integer z) = omega arith
firsts-few (name k) = omega arith
firsts-few (first e) = let z = firsts-few e in omega arith
firsts-few (next e) = let z = firsts-few e in omega arith
firsts-few (negation e) = let z = firsts-few e in omega arith
firsts-few (binary o a b) = let x = firsts-few a in let y = firsts-few b in let z = length-append (firsts a) (firsts b) in let w = length-append (subexpressions a) (subexpressions b) in omega arith
firsts-few (conditional c a b) =
    let s = firsts-few c in
    let x = firsts-few a in
    let y = firsts-few b in
    let t = length-append (firsts c) (firsts a ++ firsts b) in
    let z = length-append (firsts a) (firsts b) in
    let u = length-append (subexpressions c) (subexpressions a ++ subexpressions b) in
    let w = length-append (subexpressions a) (subexpressions b) in
    omega arith
firsts-few (fby a b) = let x = firsts-few a in let y = firsts-few b in let z = length-append (firsts a) (firsts b) in let w = length-append (subexpressions a) (subexpressions b) in omega arith

-- A line has at least as many tokens as its constraint has nodes, and as it has `first`s, so that what fits at first fits line after line.
pub record Few (ts : List Token) (n f : ℕ) (c : Constraint) : Type 0 where
  pub nodes : length (side_nodes n f (bounded_constraint c)) ≤ length ts
  pub firsts : length (side_firsts (bounded_constraint c)) ≤ length ts

module _ (ts : List Token) (n f : ℕ) (a b : Expression) (h : length (subexpressions a) + length (subexpressions b) ≤ length ts) where
  abbrev left : List Node
  left = postfix n f (bounded_expression a)

  abbrev right : List Node
  right = postfix (n + length left) (f + length (firsts (bounded_expression a))) (bounded_expression b)

  sides_nodes : length (left ++ right) ≤ length ts
  sides_nodes =
      let z = length-append left right in
      let x = length-postfix n f (bounded_expression a) in
      let y = length-postfix (n + length left) (f + length (firsts (bounded_expression a))) (bounded_expression b) in
      let p = bounded-count a in
      let q = bounded-count b in
      omega arith

  sides_firsts : length (firsts (bounded_expression a) ++ firsts (bounded_expression b)) ≤ length ts
  sides_firsts =
      let z = length-append (firsts (bounded_expression a)) (firsts (bounded_expression b)) in
      let x = bounded-firsts a in
      let y = bounded-firsts b in
      let p = firsts-few a in
      let q = firsts-few b in
      omega arith

  sides_few : (r : Relation) → Few ts n f (related r a b)
  sides_few (sign s) = record { nodes = sides_nodes; firsts = sides_firsts }
  sides_few until_sign = record { nodes = sides_nodes; firsts = sides_firsts }

pub constraint-few : (names line : List ℕ) (n f : ℕ) {c : Constraint} → parse_constraint (tokens names) (tokens line) ≡ some c → Few (tokens line) n f c
constraint-few names line n f {c} e = by (parse_constraint-sound (tokens names) (tokens line) c e)
  where
    by : {ts : List Token} {d : Constraint} → ReadsConstraint (tokens names) ts d → Few ts n f d
    by (is_constraint {ts} {us} t {r} {a} {b} p q k) =
        let x = reads-count p in
        let y = reads-count k in
        let z = length-append ts (t ∷ us) in
        sides_few (ts ++ (t ∷ us)) n f a b (omega arith) r

-- Where nodes were stored the arrays hold below n and from the last node on what they held, and the nodes between.
module _ {A : Type 0} where
  sets_after : (x : List A) (n m : ℕ) (vs : List A) → n + length vs ≤ m → drop m (sets x n vs) ≡ drop m x
  sets_after x n m [] h = refl
  sets_after x n m (v ∷ vs) h = sets_after (set x n v) (suc n) m vs (omega arith) ∙ drop-set-lt m x n v (omega arith)

pub record SameFrom (m : ℕ) (a b : Nodes) : Type 0 where
  pub kinds : drop m a.kinds ≡ drop m b.kinds
  pub values : drop m a.values ≡ drop m b.values
  pub starts : drop m a.starts ≡ drop m b.starts

pub store-after : (a : Nodes) {b : Nodes} (n : ℕ) (l : List Node) → b ≡ store a n l → SameFrom (n + length l) b a
unfolding store
store-after a n l e =
    record {
      kinds = ap (λ x. drop (n + length l) x.kinds) e ∙ sets_after a.kinds n (n + length l) (kinds_of l) (omega (arith, length-map l (λ x. x.kind)));
      values = ap (λ x. drop (n + length l) x.values) e ∙ sets_after a.values n (n + length l) (values_of l) (omega (arith, length-map l (λ x. x.value)));
      starts = ap (λ x. drop (n + length l) x.starts) e ∙ sets_after a.starts n (n + length l) (starts_of l) (omega (arith, length-map l (λ x. x.start)));
    }

-- An array with values in its middle.
abbrev pub pasted : {A : Type 0} → List A → ℕ → List A → List A
pasted x n vs = take n x ++ vs ++ drop (n + length vs) x

pub record Holds (n : ℕ) (l : List Node) (a b : Nodes) : Type 0 where
  pub kinds : b.kinds ≡ pasted a.kinds n (kinds_of l)
  pub values : b.values ≡ pasted a.values n (values_of l)
  pub starts : b.starts ≡ pasted a.starts n (starts_of l)

pub store-holds : (a : Nodes) {b : Nodes} (n : ℕ) (l : List Node) → b ≡ store a n l → n + length l ≤ length a.kinds → n + length l ≤ length a.values → n + length l ≤ length a.starts → Holds n l a b
unfolding store
store-holds a n l e h i j =
    record {
      kinds = ap (λ x. x.kinds) e ∙ sets-eq (kinds_of l) a.kinds n (omega (arith, length-map l (λ x. x.kind)));
      values = ap (λ x. x.values) e ∙ sets-eq (values_of l) a.values n (omega (arith, length-map l (λ x. x.value)));
      starts = ap (λ x. x.starts) e ∙ sets-eq (starts_of l) a.starts n (omega (arith, length-map l (λ x. x.start)));
    }

-- Without an integer beyond the bound nothing is replaced.
or_none : (b c : Bool) → (b || c) ≡ false → (b ≡ false) × (c ≡ false)
or_none true c e = absurd (true≢false e)
or_none false c e = (refl, e)

any_none : (l m : List Expression) → any_of is_integer_beyond (l ++ m) ≡ false → (any_of is_integer_beyond l ≡ false) × (any_of is_integer_beyond m ≡ false)
any_none l m e = or_none (any_of is_integer_beyond l) (any_of is_integer_beyond m) (sym (any_of-append is_integer_beyond l m) ∙ e)

pub bounded-same : (e : Expression) → any_of is_integer_beyond (subexpressions e) ≡ false → bounded_expression e ≡ e
unfolding bounded_expression subexpressions
bounded-same (integer z) h = ap (λ b. integer (cond b (pos 0) z)) (or_none (is_beyond z) false h).0
bounded-same (name k) h = refl
bounded-same (first e) h = ap first (bounded-same e h)
bounded-same (next e) h = ap next (bounded-same e h)
bounded-same (negation e) h = ap negation (bounded-same e h)
bounded-same (binary o a b) h = let (p, q) = any_none (subexpressions a) (subexpressions b) h in ap₂ (binary o) (bounded-same a p) (bounded-same b q)
bounded-same (conditional c a b) h =
    let (p, q) = any_none (subexpressions c) (subexpressions a ++ subexpressions b) h in
    let (r, s) = any_none (subexpressions a) (subexpressions b) q in
    λ i. conditional (bounded-same c p i) (bounded-same a r i) (bounded-same b s i)
bounded-same (fby a b) h = let (p, q) = any_none (subexpressions a) (subexpressions b) h in ap₂ fby (bounded-same a p) (bounded-same b q)

pub constraint-same : (c : Constraint) → constraint_beyond c ≡ false → bounded_constraint c ≡ c
constraint-same (always s a b) h = let (p, q) = any_none (subexpressions a) (subexpressions b) h in ap₂ (always s) (bounded-same a p) (bounded-same b q)
constraint-same (until a b) h = let (p, q) = any_none (subexpressions a) (subexpressions b) h in ap₂ until (bounded-same a p) (bounded-same b q)
