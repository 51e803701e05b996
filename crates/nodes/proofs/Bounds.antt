-- On stored expressions the summary of a node is what the expression's definitions give: its interval, where no interval inside it leaves the
-- bound, its reach, its back and its firsts. Reach, back and the number of firsts are below the number of nodes, so they are not cut.
use Prim.Native.Nat.{ℕ, suc, ◌≤◌, ◌<◌, max}
use native.Mathlib.Omega.{arith}
use mathlib.Core.Path.{◌≡◌, refl, sym, ◌∙◌, ap, ap₂}
use mathlib.Core.Bool.{Bool, true, false, cond, ◌&&◌}
use mathlib.Core.List.{List, [], ◌∷◌, ◌++◌}
use lib.Dec.{le→leb}
use lib.IntN.{ℤ, pos, negsuc, neg_ℤ, nat_abs}
use lib.ListN.{length, length-append, length-map}
use lib.Signed.{◌≤ℤ◌, ≤ℤ_refl, le_z_yes}
use borrow.Author.Tests.{leb-true, lt-ltb, le-leb}
use mathlib.Core.Logic.{◌↔◌}
use Rattle.std.specs.Prelude.{Option, Some, is_some}
use Rattle.basics.proofs.Lists.{All-map, get_d_map}
use Rattle.basics.specs.Lists.{All}
use Rattle.meaning.specs.Arithmetic.{Operator, Interval, hull, truth_interval, operator_interval}
use Rattle.meaning.specs.Expression.{Expression, integer, name, first, next, negation, binary, conditional, fby, Stream, absent_stream, range_of}
use Rattle.meaning.specs.Interval.{interval, subexpressions, NamesBelow}
use Rattle.meaning.specs.Window.{reach, back, firsts, largest_over}
use Rattle.meaning.specs.Situation.{all}
use Rattle.meaning.proofs.Interval.{subexpressions-below, interval-ordered}
use Rattle.sheet.specs.Refusal.{magnitude_bound, InBounds}
use Rattle.nodes.specs.Code.{operator_code}
use Rattle.nodes.specs.Postfix.{Node}
use Rattle.nodes.specs.Bounded.{in_bound}
use Rattle.nodes.specs.Evaluate.{Nodes, nodes_of, kind_of, left_end}
use Rattle.nodes.specs.Bounds.{no_range, range_within, combined, truth_range, operator_range, branch_range, stream_range, count_limit, leaf_summary, first_summary, next_summary, negation_summary, operator_summary, conditional_summary, fby_summary, summary_by_kind, summary_before, node_summary, ends_in_bound, bounded_interval, summary_of, lows_of, highs_of}
use Rattle.nodes.specs.declared.Range.{Range}
use Rattle.nodes.specs.declared.Summary.{Summary}
use Rattle.nodes.proofs.Parts.{and_true_left, and_true_right}
use Rattle.nodes.proofs.Postfix.{NodeAt, StoredAt, stored_integer, stored_name, stored_first, stored_next, stored_negation, stored_binary, stored_conditional, stored_fby, left_end-stored}
use Rattle.nodes.proofs.Meaning.{operator_code-coded}
use Rattle.nodes.proofs.Accepted.{in_bounds-small}
use Rattle.nodes.proofs.Summing.{summary-path, summary_before-node}

-- ---- intervals

abbrev known : Interval → Option Range
known I = Some (record { low = I.low; high = I.high })

all_append : {X : Type 0} (p : X → Bool) (xs ys : List X) → all p (xs ++ ys) ≡ (all p xs && all p ys)
all_append p [] ys = refl
all_append p (x ∷ xs) ys = ap (λ b. p x && b) (all_append p xs ys) ∙ sym (and_assoc (p x) (all p xs) (all p ys))
  where
    and_assoc : (a b c : Bool) → ((a && b) && c) ≡ (a && (b && c))
    and_assoc true b c = refl
    and_assoc false b c = refl

-- A range that is there only if its ends are within the bound.
abbrev shown : Bool → Interval → Option Range
shown b I = cond b (known I) no_range

joined-shown : (f : Interval → Interval → Interval) (a b : Bool) (I J : Interval) → (a ≡ true → ends_in_bound I ≡ true) → (b ≡ true → ends_in_bound J ≡ true)
    → combined f (shown a I) (shown b J) ≡ shown (ends_in_bound (f I J) && (a && b)) (f I J)
joined-shown f a b I J ha hb = both a b ha hb
  where
    fold : (t : Bool) (r : Option Range) → cond t r no_range ≡ cond (t && true) r no_range
    fold true r = refl
    fold false r = refl

    none : (t : Bool) (r : Option Range) → no_range ≡ cond (t && false) r no_range
    none true r = refl
    none false r = refl

    both : (a b : Bool) → (a ≡ true → ends_in_bound I ≡ true) → (b ≡ true → ends_in_bound J ≡ true) → combined f (shown a I) (shown b J) ≡ shown (ends_in_bound (f I J) && (a && b)) (f I J)
    both true true p q = simp (p refl, q refl) (fold (ends_in_bound (f I J)) (known (f I J)))
    both true false p q = (none (ends_in_bound (f I J)) (known (f I J)))
    both false b p q = none (ends_in_bound (f I J)) (known (f I J))

module _ (ss : List Stream) where
  abbrev inside : Expression → Bool
  inside f = ends_in_bound (interval ss f)

  abbrev all_inside : Expression → Bool
  all_inside e = all inside (subexpressions e)

  -- An expression is among its own subexpressions.
  self : (e : Expression) → all_inside e ≡ true → inside e ≡ true
  unfolding subexpressions
  self (integer z) h = and_true_left (inside (integer z)) _ h
  self (name k) h = and_true_left (inside (name k)) _ h
  self (first e) h = and_true_left (inside (first e)) _ h
  self (next e) h = and_true_left (inside (next e)) _ h
  self (negation e) h = and_true_left (inside (negation e)) _ h
  self (binary o a b) h = and_true_left (inside (binary o a b)) _ h
  self (conditional c a b) h = and_true_left (inside (conditional c a b)) _ h
  self (fby a b) h = and_true_left (inside (fby a b)) _ h

  -- What each kind of expression has, from its parts.
  leaf_range : (e : Expression) → subexpressions e ≡ e ∷ [] → range_within (interval ss e) ≡ bounded_interval ss e
  leaf_range e q = sym (ap (λ l. shown (all inside l) (interval ss e)) q ∙ by (inside e))
    where
      by : (t : Bool) → shown (t && true) (interval ss e) ≡ shown t (interval ss e)
      by true = refl
      by false = refl

  -- An expression with the interval of its only part, and all of whose other subexpressions are the part's.
  part-range : (e f : Expression) → subexpressions f ≡ f ∷ subexpressions e → interval ss f ≡ interval ss e → bounded_interval ss e ≡ bounded_interval ss f
  part-range e f q i = sym (ap₂ (λ l I. shown (all inside l) I) q i ∙ ap (λ I. shown (ends_in_bound I && all_inside e) (interval ss e)) i ∙ by (all_inside e) refl)
    where
      by : (t : Bool) → all_inside e ≡ t → shown (inside e && t) (interval ss e) ≡ shown t (interval ss e)
      by true h = ap (λ b. shown (b && true) (interval ss e)) (self e h)
      by false h = absorb (inside e)
        where
          absorb : (b : Bool) → shown (b && false) (interval ss e) ≡ no_range
          absorb true = refl
          absorb false = refl

  truth-range : (e f : Expression) → subexpressions f ≡ f ∷ subexpressions e → interval ss f ≡ truth_interval → truth_range (bounded_interval ss e) ≡ bounded_interval ss f
  truth-range e f q i = by (all_inside e) ∙ sym (ap₂ (λ l I. shown (all inside l) I) q i ∙ ap (λ I. shown (ends_in_bound I && all_inside e) truth_interval) i)
    where
      by : (t : Bool) → truth_range (shown t (interval ss e)) ≡ shown t truth_interval
      by true = refl
      by false = refl

  pair-range : (g : Interval → Interval → Interval) (a b f : Expression) → subexpressions f ≡ f ∷ (subexpressions a ++ subexpressions b) → interval ss f ≡ g (interval ss a) (interval ss b)
      → combined g (bounded_interval ss a) (bounded_interval ss b) ≡ bounded_interval ss f
  pair-range g a b f q i =
      joined-shown g (all_inside a) (all_inside b) (interval ss a) (interval ss b) (self a) (self b)
      ∙ sym (ap₂ (λ l I. shown (all inside l) I) q i ∙ ap₂ (λ I t. shown (ends_in_bound I && t) (g (interval ss a) (interval ss b))) i (all_append inside (subexpressions a) (subexpressions b)))

  branch_range_lem : (c a b f : Expression) → subexpressions f ≡ f ∷ (subexpressions c ++ (subexpressions a ++ subexpressions b)) → interval ss f ≡ hull (interval ss a) (interval ss b)
      → branch_range (bounded_interval ss c) (bounded_interval ss a) (bounded_interval ss b) ≡ bounded_interval ss f
  branch_range_lem c a b f q i =
      let H = hull (interval ss a) (interval ss b) in
      split (all_inside c)
      ∙ ap (λ r. cond (all_inside c) r no_range) (joined-shown hull (all_inside a) (all_inside b) (interval ss a) (interval ss b) (self a) (self b))
      ∙ by (all_inside c) (ends_in_bound H) (all_inside a && all_inside b)
      ∙ sym (ap₂ (λ l I. shown (all inside l) I) q i
      ∙ ap₂ (λ I t. shown (ends_in_bound I && t) H) i (all_append inside (subexpressions c) (subexpressions a ++ subexpressions b) ∙ ap (λ t. all_inside c && t) (all_append inside (subexpressions a) (subexpressions b))))
    where
      split : (u : Bool) → branch_range (shown u (interval ss c)) (bounded_interval ss a) (bounded_interval ss b) ≡ cond u (combined hull (bounded_interval ss a) (bounded_interval ss b)) no_range
      split true = refl
      split false = refl

      by : (u e t : Bool) → cond u (shown (e && t) (hull (interval ss a) (interval ss b))) no_range ≡ shown (e && (u && t)) (hull (interval ss a) (interval ss b))
      by true e t = refl
      by false true t = refl
      by false false t = refl

  stream-range : (k : ℕ) → k < length ss → stream_range (lows_of ss) (highs_of ss) (pos k) ≡ range_within (range_of ss k)
  stream-range k h =
      simp (lt-ltb k (length (lows_of ss)) (omega (arith, length-map ss (λ (s : Stream). s.range.low))), lt-ltb k (length (highs_of ss)) (omega (arith, length-map ss (λ (s : Stream). s.range.high))))
      (ap₂ (λ l r. range_within (record { low = l; high = r })) (get_d_map (λ (s : Stream). s.range.low) ss k absent_stream (pos 0) h) (get_d_map (λ (s : Stream). s.range.high) ss k absent_stream (pos 0) h))

-- ---- counts

abbrev node_count : Expression → ℕ
node_count e = length (subexpressions e)

-- Reach, back and firsts are fewer than the nodes.
pub counts-below : (e : Expression) → (reach e < node_count e) × (back e < node_count e) × (length (firsts e) < node_count e)
unfolding subexpressions reach back firsts
counts-below (integer z) = (omega arith, omega arith, omega arith)
counts-below (name k) = (omega arith, omega arith, omega arith)
counts-below (first e) = let h = counts-below e in (omega arith, omega arith, omega arith)
counts-below (next e) = let h = counts-below e in (omega arith, omega arith, omega arith)
counts-below (negation e) = let h = counts-below e in (omega arith, omega arith, omega arith)
counts-below (binary o a b) =
    let h = counts-below a in
    let k = counts-below b in
    let n = length-append (subexpressions a) (subexpressions b) in
    let m = length-append (firsts a) (firsts b) in
    (omega arith, omega arith, omega arith)
counts-below (conditional c a b) =
    let g = counts-below c in
    let h = counts-below a in
    let k = counts-below b in
    let n = length-append (subexpressions a) (subexpressions b) in
    let n' = length-append (subexpressions c) (subexpressions a ++ subexpressions b) in
    let m = length-append (firsts a) (firsts b) in
    let m' = length-append (firsts c) (firsts a ++ firsts b) in
    (omega arith, omega arith, omega arith)
counts-below (fby a b) =
    let h = counts-below a in
    let k = counts-below b in
    let n = length-append (subexpressions a) (subexpressions b) in
    let m = length-append (firsts a) (firsts b) in
    (omega arith, omega arith, omega arith)

pub largest_over-append : (xs ys : List Expression) → largest_over reach (xs ++ ys) ≡ max (largest_over reach xs) (largest_over reach ys)
largest_over-append [] ys = omega arith
largest_over-append (x ∷ xs) ys = let h = largest_over-append xs ys in omega arith

-- ---- the summaries of the kinds of expressions, from those of the parts

module _ (ss : List Stream) where
  first-is : (e : Expression) → node_count (first e) ≤ count_limit → first_summary (summary_of ss e) ≡ summary_of ss (first e)
  unfolding subexpressions interval reach back firsts
  first-is e h = let c = counts-below e in summary-path (part-range ss e (first e) refl refl) refl refl (omega arith) refl

  next-is : (e : Expression) → node_count (next e) ≤ count_limit → next_summary (summary_of ss e) ≡ summary_of ss (next e)
  unfolding subexpressions interval reach back firsts
  next-is e h = let c = counts-below e in summary-path (part-range ss e (next e) refl refl) (omega arith) refl refl refl

  negation-is : (e : Expression) → negation_summary (summary_of ss e) ≡ summary_of ss (negation e)
  unfolding subexpressions interval reach back firsts
  negation-is e = summary-path (truth-range ss e (negation e) refl refl) refl refl refl refl

  operator-range : (o : Operator) (a b : Option Range) → operator_range (operator_code o) a b ≡ combined (operator_interval o) a b
  operator-range o a b = let c = operator_code-coded o in simp (c.range, c.names)

  binary-is : (o : Operator) (a b : Expression) → node_count (binary o a b) ≤ count_limit → operator_summary (operator_code o) (summary_of ss a) (summary_of ss b) ≡ summary_of ss (binary o a b)
  unfolding subexpressions interval reach back firsts
  binary-is o a b h =
      let c = counts-below (binary o a b) in
      summary-path (operator-range o (bounded_interval ss a) (bounded_interval ss b) ∙ pair-range ss (operator_interval o) a b (binary o a b) refl refl) refl refl
      (omega (arith, length-append (firsts a) (firsts b))) (sym (largest_over-append (firsts a) (firsts b)))

  conditional-is : (c a b : Expression) → node_count (conditional c a b) ≤ count_limit
      → conditional_summary (summary_of ss c) (summary_of ss a) (summary_of ss b) ≡ summary_of ss (conditional c a b)
  unfolding subexpressions interval reach back firsts
  conditional-is c a b h =
      let k = counts-below (conditional c a b) in
      summary-path (branch_range_lem ss c a b (conditional c a b) refl refl) refl refl
      (omega (arith, length-append (firsts c) (firsts a ++ firsts b), length-append (firsts a) (firsts b)))
      (omega (arith, largest_over-append (firsts c) (firsts a ++ firsts b), largest_over-append (firsts a) (firsts b)))

  fby-is : (a b : Expression) → node_count (fby a b) ≤ count_limit → fby_summary (summary_of ss a) (summary_of ss b) ≡ summary_of ss (fby a b)
  unfolding subexpressions interval reach back firsts
  fby-is a b h =
      let c = counts-below (fby a b) in
      let d = counts-below b in
      let n = length-append (subexpressions a) (subexpressions b) in
      summary-path (pair-range ss hull a b (fby a b) refl refl) refl (omega arith) (omega (arith, length-append (firsts a) (firsts b))) (sym (largest_over-append (firsts a) (firsts b)))

  -- ---- stored expressions

  module _ (N : Nodes) where
    abbrev before : ℕ → Summary
    before = summary_before N (lows_of ss) (highs_of ss)

    by-node : {m s k : ℕ} {v : ℤ} {x : Summary} → NodeAt N m k v s → summary_by_kind N (lows_of ss) (highs_of ss) (kind_of k) before m ≡ x → before (suc m) ≡ x
    by-node {m} {s} {k} {v} {x} n e =
        summary_before-node N (lows_of ss) (highs_of ss) m ∙ ap (λ j. summary_by_kind N (lows_of ss) (highs_of ss) (kind_of j) before m) n.kind ∙ e

    pub summary-stored : {n f m : ℕ} {e : Expression} → StoredAt N n f e m → NamesBelow (length ss) e → node_count e ≤ count_limit → before m ≡ summary_of ss e
    unfolding subexpressions interval reach back firsts
    summary-stored (stored_integer {z = z} x) b h =
        by-node x (ap (λ z. leaf_summary (range_within (record { low = z; high = z }))) x.value ∙ summary-path (leaf_range ss (integer z) refl) refl refl refl refl)
    summary-stored (stored_name {k = k} x) b h =
        by-node x (ap (λ z. leaf_summary (stream_range (lows_of ss) (highs_of ss) z)) x.value ∙ summary-path (stream-range ss k b ∙ leaf_range ss (name k) refl) refl refl refl refl)
    summary-stored (stored_first {e = e} s x) b h = by-node x (ap first_summary (summary-stored s b (omega arith)) ∙ first-is e h)
    summary-stored (stored_next {e = e} s x) b h = by-node x (ap next_summary (summary-stored s b (omega arith)) ∙ next-is e h)
    summary-stored (stored_negation {e = e} s x) b h = by-node x (ap negation_summary (summary-stored s b (omega arith)) ∙ negation-is e)
    summary-stored (stored_binary {m = m} {o = o} {a = a} {b = c} s t x) b h =
        let n = length-append (subexpressions a) (subexpressions c) in
        by-node x
        (ap (λ j. summary_by_kind N (lows_of ss) (highs_of ss) j before m) (operator_code-coded o).kind
        ∙ ap (λ j. operator_summary j (before (left_end N.starts m)) (before m)) x.kind
        ∙ ap₂ (operator_summary (operator_code o)) (ap before (left_end-stored t) ∙ summary-stored s b.0 (omega arith)) (summary-stored t b.1 (omega arith)) ∙ binary-is o a c h)
    summary-stored (stored_conditional {m = m} {c = c} {a = a} {b = d} r s t x) b h =
        let n = length-append (subexpressions a) (subexpressions d) in
        let k = length-append (subexpressions c) (subexpressions a ++ subexpressions d) in
        by-node x
        (ap (λ y. conditional_summary y (before (left_end N.starts m)) (before m))
        (ap before (ap (left_end N.starts) (left_end-stored t) ∙ left_end-stored s) ∙ summary-stored r b.0 (omega arith))
        ∙ ap₂ (conditional_summary (summary_of ss c)) (ap before (left_end-stored t) ∙ summary-stored s b.1 (omega arith)) (summary-stored t b.2 (omega arith)) ∙ conditional-is c a d h)
    summary-stored (stored_fby {a = a} {b = c} s t x) b h =
        let n = length-append (subexpressions a) (subexpressions c) in
        by-node x (ap₂ fby_summary (ap before (left_end-stored t) ∙ summary-stored s b.0 (omega arith)) (summary-stored t b.1 (omega arith)) ∙ fby-is a c h)

  -- Where a list of nodes stores an expression, the summary of its last node is the expression's.
  pub node_summary-summary_of : (l : List Node) {n f i : ℕ} {e : Expression} → StoredAt (nodes_of l) n f e (suc i) → i < length l → NamesBelow (length ss) e → node_count e ≤ count_limit
      → node_summary (nodes_of l) (lows_of ss) (highs_of ss) i ≡ summary_of ss e
  unfolding node_summary
  node_summary-summary_of l {i = i} s h b c =
      simp (
        lt-ltb i (length (nodes_of l).kinds) (omega (arith, length-map l (λ (x : Node). x.kind))),
        lt-ltb i (length (nodes_of l).values) (omega (arith, length-map l (λ (x : Node). x.value))),
        lt-ltb i (length (nodes_of l).starts) (omega (arith, length-map l (λ (x : Node). x.start))),
      ) (summary-stored (nodes_of l) s b c)

-- ---- refusal 6

in_bound-ends : (x : ℤ) → in_bound x ≡ true → (neg_ℤ (pos magnitude_bound) ≤ℤ x) × (x ≤ℤ pos magnitude_bound)
in_bound-ends (pos n) e = (le_z_yes tt, le_z_yes (le→leb n magnitude_bound (leb-true n magnitude_bound e)))
in_bound-ends (negsuc n) e = let h = leb-true (suc n) magnitude_bound e in (le_z_yes (le→leb n 999999999 (omega arith)), le_z_yes tt)

-- An interval within the bound has both ends within it, where its low is not above its high.
pub in_bounds-ends : (I : Interval) → I.low ≤ℤ I.high → InBounds I → ends_in_bound I ≡ true
in_bounds-ends I h b =
    let l = in_bounds-small b (record { above = ≤ℤ_refl I.low; below = h }) in
    let u = in_bounds-small b (record { above = h; below = ≤ℤ_refl I.high }) in
    simp (le-leb (nat_abs I.low) magnitude_bound l, le-leb (nat_abs I.high) magnitude_bound u)

pub ends-in_bounds : (I : Interval) → ends_in_bound I ≡ true → InBounds I
ends-in_bounds I e =
    record {
      above = (in_bound-ends I.low (and_true_left (in_bound I.low) (in_bound I.high) e)).0;
      below = (in_bound-ends I.high (and_true_right (in_bound I.low) (in_bound I.high) e)).1;
    }

module _ (ss : List Stream) (ordered : (k : ℕ) → k < length ss → (range_of ss k).low ≤ℤ (range_of ss k).high) where
  -- "6: an expression's interval leaves ±1,000,000,000": the range is there exactly if no interval in the expression does.
  pub bounded-in_bounds : (e : Expression) → NamesBelow (length ss) e → (is_some (bounded_interval ss e) ≡ true) ↔ All (λ f. InBounds (interval ss f)) (subexpressions e)
  bounded-in_bounds e n = (
    λ h. All-map (subexpressions e) (λ f t. ends-in_bounds (interval ss f) t) (all-All (subexpressions e) (ok_true (all (λ f. ends_in_bound (interval ss f)) (subexpressions e)) (interval ss e) h)),
    λ h. shown_ok _ (interval ss e) (All-all (subexpressions e) (both (subexpressions e) (subexpressions-below (length ss) e n) h)),
  )
    where
      ok_true : (b : Bool) (I : Interval) → is_some (shown b I) ≡ true → b ≡ true
      ok_true true I h = refl
      ok_true false I h = h

      shown_ok : (b : Bool) (I : Interval) → b ≡ true → is_some (shown b I) ≡ true
      shown_ok b I h = ap (λ t. is_some (shown t I)) h

      all-All : (es : List Expression) → all (λ f. ends_in_bound (interval ss f)) es ≡ true → All (λ f. ends_in_bound (interval ss f) ≡ true) es
      all-All [] h = tt
      all-All (x ∷ xs) h = (and_true_left (ends_in_bound (interval ss x)) _ h, all-All xs (and_true_right (ends_in_bound (interval ss x)) _ h))

      both : (es : List Expression) → All (NamesBelow (length ss)) es → All (λ f. InBounds (interval ss f)) es → All (λ f. ends_in_bound (interval ss f) ≡ true) es
      both [] p q = tt
      both (x ∷ xs) p q = (in_bounds-ends (interval ss x) (interval-ordered ss ordered x p.0) q.0, both xs p.1 q.1)

      All-all : (es : List Expression) → All (λ f. ends_in_bound (interval ss f) ≡ true) es → all (λ f. ends_in_bound (interval ss f)) es ≡ true
      All-all [] h = refl
      All-all (x ∷ xs) h = ap₂ ◌&&◌ h.0 (All-all xs h.1)
