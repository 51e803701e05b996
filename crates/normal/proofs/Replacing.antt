-- Which records mark the text that their stream replaces: each whole `next` and `fby` of the constraints has one with its span, and a record that marks a
-- span has a stream that stands for a whole `next` or `fby`. By recursion on expressions, as their rows are made.
use Prim.Native.Nat.{ℕ, suc, ◌+◌, ◌-◌, ◌≤◌, ◌<◌}
use native.Mathlib.Omega.{arith}
use native.Mathlib.Decide.{dec_lt, ℕ_discrete}
use mathlib.Core.Path.{◌≡◌, refl, sym, ◌∙◌, ap, subst}
use mathlib.Core.Bool.{false, cond}
use mathlib.Core.List.{List, [], ◌∷◌, ◌++◌, map}
use mathlib.Core.Logic.{inl, inr}
use borrow.Author.Tests.{ne_eqb, lt-ltb, le-ltb}
use lib.Dec.{T, ltb}
use lib.IntN.{pos}
use lib.ListN.{length, get_or, length-append}
use Rattle.basics.proofs.Lists.{All-append, Some-left, Some-mapped, Some-right}
use Rattle.basics.specs.Lists.{All, Some}
use Rattle.meaning.specs.Expression.{Expression, integer, name, first, next, negation, binary, conditional, fby, Constraint, always, until, left_side, right_side, Sheet}
use Rattle.spans.specs.Token.{span}
use Rattle.spans.specs.Postfix.{in_postfix, node_count, node_expressions}
use Rattle.spans.specs.Spans.{spans_in}
use Rattle.normal_entries.specs.Row.{Row}
use Rattle.normal.specs.Rows.{rewriting, Line, line_at, rewriting_lines, own_rows, added_rows}
use Rattle.normal_entries.specs.Fields.{replaces_in, left_behind}
use Rattle.normal.specs.Encoded.{expression_at, span_before, normal_rows, entry_record, normal_entries}
use Rattle.normal.specs.Says.{stands_for, is_replaced, Replaces}
use Rattle.normal.proofs.Decoding.{always-line}
use Rattle.normal.proofs.Places.{Stand, Stand-append, stand_self, root_at, sides_stand}
use Rattle.normal.proofs.Ranges.{stream-left, rows_stand}

-- The row marks the node i.
record Marks (i : ℕ) (r : Row) : Type 0 where
  source : r.source ≡ suc i
  marked : replaces_in r.kind r.left r.right ≡ 1

module _ (L : List Expression) where
  abbrev at : ℕ → Expression
  at i = get_or L i (integer (pos 0))

  -- The last node of an expression that is no `next` and no `fby` is none.
  at_root : (p i : ℕ) (e : Expression) → Stand L p (in_postfix e) → p ≤ i → i < p + node_count e → (i < p + node_count e - 1 → ⊥) → T (is_replaced (at i)) → T (is_replaced e)
  at_root p i e h l k n t = let q : i ≡ p + node_count e - 1 = omega arith in subst (λ x. T (is_replaced x)) (ap at q ∙ root_at L p e h) t

  rows_mark : (p : ℕ) (e : Expression) (n i : ℕ) → Stand L p (in_postfix e) → p ≤ i → i < p + node_count e → T (is_replaced (at i)) → Some (Marks i) ((rewriting p e).rows n)
  unfolding rewriting in_postfix
  rows_mark p (integer z) n i h l k t = absurd (at_root p i (integer z) h l k (λ q. omega arith) t)
  rows_mark p (name j) n i h l k t = absurd (at_root p i (name j) h l k (λ q. omega arith) t)
  rows_mark p (first e) n i h l k t = by (dec_lt i (p + node_count e)) (rows_mark p e n i (Stand-append L p (in_postfix e) (first e ∷ []) h).0 l)
    where
      by : Dec (i < p + node_count e) → (i < p + node_count e → T (is_replaced (at i)) → Some (Marks i) ((rewriting p e).rows n)) → Some (Marks i) ((rewriting p e).rows n)
      by (yes q) f = f q t
      by (no q) f = absurd (at_root p i (first e) h l k (λ m. q (omega (arith, length-append (in_postfix e) (first e ∷ [])))) t)
  rows_mark p (next e) n i h l k t = by (dec_lt i (p + node_count e)) (rows_mark p e (suc (suc n)) i (Stand-append L p (in_postfix e) (next e ∷ []) h).0 l)
    where
      by : Dec (i < p + node_count e) → (i < p + node_count e → T (is_replaced (at i)) → Some (Marks i) ((rewriting p e).rows (suc (suc n)))) → Some (Marks i) ((rewriting p (next e)).rows n)
      by (yes q) f = inr (inr (f q t))
      by (no q) f = inr (inl (record { source = omega (arith, length-append (in_postfix e) (next e ∷ [])); marked = ap (λ b. cond b 1 0) (lt-ltb n (suc n) (omega arith)) }))
  rows_mark p (negation e) n i h l k t = by (dec_lt i (p + node_count e)) (rows_mark p e n i (Stand-append L p (in_postfix e) (negation e ∷ []) h).0 l)
    where
      by : Dec (i < p + node_count e) → (i < p + node_count e → T (is_replaced (at i)) → Some (Marks i) ((rewriting p e).rows n)) → Some (Marks i) ((rewriting p e).rows n)
      by (yes q) f = f q t
      by (no q) f = absurd (at_root p i (negation e) h l k (λ m. q (omega (arith, length-append (in_postfix e) (negation e ∷ [])))) t)
  rows_mark p (binary o a b) n i h l k t =
      let g = Stand-append L p (in_postfix a) (in_postfix b ++ (binary o a b ∷ [])) h in
      let j = Stand-append L (p + node_count a) (in_postfix b) (binary o a b ∷ []) g.1 in
      by (dec_lt i (p + node_count a)) (dec_lt i (p + node_count a + node_count b)) (rows_mark p a n i g.0 l) (rows_mark (p + node_count a) b (n + (rewriting p a).added) i j.0)
    where
      by : Dec (i < p + node_count a) → Dec (i < p + node_count a + node_count b) → (i < p + node_count a → T (is_replaced (at i)) → Some (Marks i) ((rewriting p a).rows n))
          → (p + node_count a ≤ i → i < p + node_count a + node_count b → T (is_replaced (at i)) → Some (Marks i) ((rewriting (p + node_count a) b).rows (n + (rewriting p a).added))) → Some (Marks i) ((rewriting p (binary o a b)).rows n)
      by (yes q) d f g = Some-left (Marks i) ((rewriting p a).rows n) _ (f q t)
      by (no q) (yes d) f g = Some-right (Marks i) ((rewriting p a).rows n) _ (g (omega arith) d t)
      by (no q) (no d) f g = absurd (at_root p i (binary o a b) h l k (λ m. d (omega (arith, length-append (in_postfix a) (in_postfix b ++ (binary o a b ∷ [])), length-append (in_postfix b) (binary o a b ∷ [])))) t)
  rows_mark p (conditional c a b) n i h l k t =
      let g = Stand-append L p (in_postfix c) (in_postfix a ++ (in_postfix b ++ (conditional c a b ∷ []))) h in
      let j = Stand-append L (p + node_count c) (in_postfix a) (in_postfix b ++ (conditional c a b ∷ [])) g.1 in
      let m = Stand-append L (p + node_count c + node_count a) (in_postfix b) (conditional c a b ∷ []) j.1 in
      by (dec_lt i (p + node_count c)) (dec_lt i (p + node_count c + node_count a)) (dec_lt i (p + node_count c + node_count a + node_count b)) (rows_mark p c n i g.0 l) (rows_mark (p + node_count c) a (n + (rewriting p c).added) i j.0)
      (rows_mark (p + node_count c + node_count a) b (n + (rewriting p c).added + (rewriting (p + node_count c) a).added) i m.0)
    where
      by : Dec (i < p + node_count c) → Dec (i < p + node_count c + node_count a) → Dec (i < p + node_count c + node_count a + node_count b) → (i < p + node_count c → T (is_replaced (at i)) → Some (Marks i) ((rewriting p c).rows n))
          → (p + node_count c ≤ i → i < p + node_count c + node_count a → T (is_replaced (at i)) → Some (Marks i) ((rewriting (p + node_count c) a).rows (n + (rewriting p c).added)))
          → (p + node_count c + node_count a ≤ i → i < p + node_count c + node_count a + node_count b → T (is_replaced (at i)) → Some (Marks i) ((rewriting (p + node_count c + node_count a) b).rows (n + (rewriting p c).added + (rewriting (p + node_count c) a).added)))
          → Some (Marks i) ((rewriting p (conditional c a b)).rows n)
      by (yes q) d e f g w = Some-left (Marks i) ((rewriting p c).rows n) _ (f q t)
      by (no q) (yes d) e f g w = Some-right (Marks i) ((rewriting p c).rows n) _ (Some-left (Marks i) ((rewriting (p + node_count c) a).rows (n + (rewriting p c).added)) _ (g (omega arith) d t))
      by (no q) (no d) (yes e) f g w = Some-right (Marks i) ((rewriting p c).rows n) _ (Some-right (Marks i) ((rewriting (p + node_count c) a).rows (n + (rewriting p c).added)) _ (w (omega arith) e t))
      by (no q) (no d) (no e) f g w =
          absurd (at_root p i (conditional c a b) h l k (λ m. e (omega (arith, length-append (in_postfix c) (in_postfix a ++ (in_postfix b ++ (conditional c a b ∷ []))), length-append (in_postfix a) (in_postfix b ++ (conditional c a b ∷ [])), length-append (in_postfix b) (conditional c a b ∷ [])))) t)
  rows_mark p (fby a b) n i h l k t =
      let g = Stand-append L p (in_postfix a) (in_postfix b ++ (fby a b ∷ [])) h in
      let j = Stand-append L (p + node_count a) (in_postfix b) (fby a b ∷ []) g.1 in
      by (dec_lt i (p + node_count a)) (dec_lt i (p + node_count a + node_count b)) (rows_mark p a n i g.0 l) (rows_mark (p + node_count a) b (suc (suc (suc (n + (rewriting p a).added)))) i j.0)
    where
      by : Dec (i < p + node_count a) → Dec (i < p + node_count a + node_count b) → (i < p + node_count a → T (is_replaced (at i)) → Some (Marks i) ((rewriting p a).rows n))
          → (p + node_count a ≤ i → i < p + node_count a + node_count b → T (is_replaced (at i)) → Some (Marks i) ((rewriting (p + node_count a) b).rows (suc (suc (suc (n + (rewriting p a).added)))))) → Some (Marks i) ((rewriting p (fby a b)).rows n)
      by (yes q) d f g = Some-left (Marks i) ((rewriting p a).rows n) _ (f q t)
      by (no q) (yes d) f g = Some-right (Marks i) ((rewriting p a).rows n) _ (inr (inr (inr (inr (g (omega arith) d t)))))
      by (no q) (no d) f g =
          Some-right (Marks i) ((rewriting p a).rows n) _
          (inr (inr (inl (record { source = omega (arith, length-append (in_postfix a) (in_postfix b ++ (fby a b ∷ [])), length-append (in_postfix b) (fby a b ∷ [])); marked = refl }))))

  line_marks : (p : ℕ) (c : Constraint) (n i : ℕ) → Stand L p (in_postfix (left_side c)) → Stand L (p + node_count (left_side c)) (in_postfix (right_side c)) → p ≤ i → i < p + node_count (left_side c) + node_count (right_side c) → T (is_replaced (at i))
      → Some (Marks i) ((line_at p c).adds.rows n)
  line_marks p (always z a b) n i ha hb l k t =
      let w = always-line z (p + node_count a) (p + node_count a + node_count b) (rewriting p a) (rewriting (p + node_count a) b) in
      subst (λ (m : Line). Some (Marks i) (m.adds.rows n)) (sym w) (by (dec_lt i (p + node_count a)))
    where
      by : Dec (i < p + node_count a) → Some (Marks i) ((rewriting p a).rows n ++ (rewriting (p + node_count a) b).rows (n + (rewriting p a).added))
      by (yes q) = Some-left (Marks i) ((rewriting p a).rows n) _ (rows_mark p a n i ha l q t)
      by (no q) = Some-right (Marks i) ((rewriting p a).rows n) _ (rows_mark (p + node_count a) b (n + (rewriting p a).added) i hb (omega arith) k t)
  line_marks p (until a b) n i ha hb l k t = by (dec_lt i (p + node_count a))
    where
      by : Dec (i < p + node_count a) → Some (Marks i) ((line_at p (until a b)).adds.rows n)
      by (yes q) = Some-left (Marks i) ((rewriting p a).rows n) _ (rows_mark p a n i ha l q t)
      by (no q) = Some-right (Marks i) ((rewriting p a).rows n) _ (inr (inr (rows_mark (p + node_count a) b (suc (suc (n + (rewriting p a).added))) i hb (omega arith) k t)))

  lines_mark : (p : ℕ) (cs : List Constraint) (n i : ℕ) → Stand L p (node_expressions cs) → p ≤ i → i < p + length (node_expressions cs) → T (is_replaced (at i)) → Some (Marks i) (added_rows n (rewriting_lines p cs))
  unfolding rewriting_lines added_rows node_expressions
  lines_mark p [] n i h l k t = absurd (omega arith)
  lines_mark p (c ∷ cs) n i h l k t =
      let g = sides_stand L p c cs h in
      by (dec_lt i (p + node_count (left_side c) + node_count (right_side c))) (line_marks p c n i g.0 g.1 l)
      (lines_mark (p + node_count (left_side c) + node_count (right_side c)) cs (n + (line_at p c).adds.added) i g.2)
    where
      total : length ((in_postfix (left_side c) ++ in_postfix (right_side c)) ++ node_expressions cs) ≡ node_count (left_side c) + node_count (right_side c) + length (node_expressions cs)
      total = length-append (in_postfix (left_side c) ++ in_postfix (right_side c)) (node_expressions cs) ∙ ap (λ m. m + length (node_expressions cs)) (length-append (in_postfix (left_side c)) (in_postfix (right_side c)))

      by : Dec (i < p + node_count (left_side c) + node_count (right_side c)) → (i < p + node_count (left_side c) + node_count (right_side c) → T (is_replaced (at i)) → Some (Marks i) ((line_at p c).adds.rows n))
          → (p + node_count (left_side c) + node_count (right_side c) ≤ i → i < p + node_count (left_side c) + node_count (right_side c) + length (node_expressions cs) → T (is_replaced (at i)) → Some (Marks i) (added_rows (n + (line_at p c).adds.added) (rewriting_lines (p + node_count (left_side c) + node_count (right_side c)) cs)))
          → Some (Marks i) ((line_at p c).adds.rows n ++ added_rows (n + (line_at p c).adds.added) (rewriting_lines (p + node_count (left_side c) + node_count (right_side c)) cs))
      by (yes q) f g = Some-left (Marks i) ((line_at p c).adds.rows n) _ (f q t)
      by (no q) f g = Some-right (Marks i) ((line_at p c).adds.rows n) _ (g (omega arith) (omega (arith, total)) t)

marked-kind : (r : Row) → replaces_in r.kind r.left r.right ≡ 1 → 2 ≤ r.kind
marked-kind r h = by (ℕ_discrete r.kind 0) (ℕ_discrete r.kind 1)
  where
    by : Dec (r.kind ≡ 0) → Dec (r.kind ≡ 1) → 2 ≤ r.kind
    by (yes e) d = let none : replaces_in r.kind r.left r.right ≡ 0 = ap (λ k. replaces_in k r.left r.right) e in absurd (omega arith)
    by (no n) (yes e) = let none : replaces_in r.kind r.left r.right ≡ 0 = ap (λ k. replaces_in k r.left r.right) e in absurd (omega arith)
    by (no n) (no m) = omega arith

-- A row that marks a node has a stream at its left.
marked-behind : (r : Row) → replaces_in r.kind r.left r.right ≡ 1 → left_behind r ≡ r.source
marked-behind r h = let k = marked-kind r h in ap (λ b. cond b (suc r.left) r.source) (ne_eqb r.kind 1 (λ e. omega arith))

-- Each whole `next` and `fby` has a record that marks its span.
pub operators_replaced : (text : List ℕ) (s : Sheet) (i : ℕ) → i < length (node_expressions s.constraints) → T (is_replaced (expression_at s i)) → Some (λ e. Replaces e (get_or (spans_in text) i (span 0 0))) (normal_entries text s)
operators_replaced text s i h t =
    let n = length s.streams in
    Some-mapped (λ e. Replaces e (get_or (spans_in text) i (span 0 0))) (entry_record text s)
    (λ r m. let q : left_behind r ≡ suc i = marked-behind r m.marked ∙ m.source in
    record { marked = m.marked; begin = ap (λ k. (span_before (spans_in text) k).start) q; end = ap (λ k. (span_before (spans_in text) k).end) q }) (normal_rows s)
    (Some-right (Marks i) (own_rows n (rewriting_lines 0 s.constraints)) (added_rows n (rewriting_lines 0 s.constraints))
    (lines_mark (node_expressions s.constraints) 0 s.constraints n i (stand_self (node_expressions s.constraints)) (omega arith) (omega arith) t))

-- ---- and no other

module _ (L : List Expression) where
  -- What a row marks is a whole `next` or `fby`.
  record Proper (r : Row) : Type 0 where
    replaced : replaces_in r.kind r.left r.right ≡ 1 → T (is_replaced (get_or L (r.source - 1) (integer (pos 0))))

  -- A row that marks nothing.
  plain : {r : Row} → replaces_in r.kind r.left r.right ≡ 0 → Proper r
  plain h = record { replaced = λ e. absurd (omega arith) }

  root_proper : (p : ℕ) (e : Expression) {r : Row} → Stand L p (in_postfix e) → r.source ≡ p + node_count e → T (is_replaced e) → Proper r
  root_proper p e {r} h q t =
      let k : r.source - 1 ≡ p + node_count e - 1 = omega arith in
      record { replaced = λ m. subst (λ x. T (is_replaced x)) (sym (ap (λ i. get_or L i (integer (pos 0))) k ∙ root_at L p e h)) t }

  rows_proper : (p : ℕ) (e : Expression) (n : ℕ) → Stand L p (in_postfix e) → All Proper ((rewriting p e).rows n)
  unfolding rewriting in_postfix
  rows_proper p (integer z) n h = tt
  rows_proper p (name j) n h = tt
  rows_proper p (first e) n h = rows_proper p e n (Stand-append L p (in_postfix e) (first e ∷ []) h).0
  rows_proper p (next e) n h =
      (plain refl, (root_proper p (next e) h (omega (arith, length-append (in_postfix e) (next e ∷ []))) tt, rows_proper p e (suc (suc n)) (Stand-append L p (in_postfix e) (next e ∷ []) h).0))
  rows_proper p (negation e) n h = rows_proper p e n (Stand-append L p (in_postfix e) (negation e ∷ []) h).0
  rows_proper p (binary o a b) n h =
      let g = Stand-append L p (in_postfix a) (in_postfix b ++ (binary o a b ∷ [])) h in
      let j = Stand-append L (p + node_count a) (in_postfix b) (binary o a b ∷ []) g.1 in
      (All-append Proper ((rewriting p a).rows n) _).1 (rows_proper p a n g.0, rows_proper (p + node_count a) b (n + (rewriting p a).added) j.0)
  rows_proper p (conditional c a b) n h =
      let g = Stand-append L p (in_postfix c) (in_postfix a ++ (in_postfix b ++ (conditional c a b ∷ []))) h in
      let j = Stand-append L (p + node_count c) (in_postfix a) (in_postfix b ++ (conditional c a b ∷ [])) g.1 in
      let m = Stand-append L (p + node_count c + node_count a) (in_postfix b) (conditional c a b ∷ []) j.1 in
      (All-append Proper ((rewriting p c).rows n) _).1 (
        rows_proper p c n g.0,
        (All-append Proper ((rewriting (p + node_count c) a).rows (n + (rewriting p c).added)) _).1 (rows_proper (p + node_count c) a (n + (rewriting p c).added) j.0, rows_proper (p + node_count c + node_count a) b (n + (rewriting p c).added + (rewriting (p + node_count c) a).added) m.0),
      )
  rows_proper p (fby a b) n h =
      let g = Stand-append L p (in_postfix a) (in_postfix b ++ (fby a b ∷ [])) h in
      let j = Stand-append L (p + node_count a) (in_postfix b) (fby a b ∷ []) g.1 in
      let x = n + (rewriting p a).added in
      let count : node_count (fby a b) ≡ suc (node_count a + node_count b) = omega (arith, length-append (in_postfix a) (in_postfix b ++ (fby a b ∷ [])), length-append (in_postfix b) (fby a b ∷ [])) in
      let after : ltb (suc (suc x)) x ≡ false = le-ltb (suc (suc x)) x (omega arith) in
      (All-append Proper ((rewriting p a).rows n) _).1 (
        rows_proper p a n g.0,
        (plain refl, (plain refl, (root_proper p (fby a b) h (omega arith) tt, (plain (ap (λ m. cond m 1 0) after), rows_proper (p + node_count a) b (suc (suc (suc x))) j.0)))),
      )

  line_proper : (p : ℕ) (c : Constraint) (n : ℕ) → Stand L p (in_postfix (left_side c)) → Stand L (p + node_count (left_side c)) (in_postfix (right_side c)) → Proper ((line_at p c).own n) × All Proper ((line_at p c).adds.rows n)
  line_proper p (always z a b) n ha hb =
      let w = always-line z (p + node_count a) (p + node_count a + node_count b) (rewriting p a) (rewriting (p + node_count a) b) in (
        subst (λ (m : Line). Proper (m.own n)) (sym w) (plain refl),
        subst (λ (m : Line). All Proper (m.adds.rows n)) (sym w) ((All-append Proper ((rewriting p a).rows n) _).1 (rows_proper p a n ha, rows_proper (p + node_count a) b (n + (rewriting p a).added) hb)),
      )
  line_proper p (until a b) n ha hb = (
    plain refl,
    (All-append Proper ((rewriting p a).rows n) _).1 (rows_proper p a n ha, (plain refl, (plain refl, rows_proper (p + node_count a) b (suc (suc (n + (rewriting p a).added))) hb))),
  )

  lines_proper : (p n : ℕ) (cs : List Constraint) → Stand L p (node_expressions cs) → All Proper (own_rows n (rewriting_lines p cs)) × All Proper (added_rows n (rewriting_lines p cs))
  unfolding rewriting_lines own_rows added_rows
  lines_proper p n [] h = (tt, tt)
  lines_proper p n (c ∷ cs) h =
      let g = sides_stand L p c cs h in
      let one = line_proper p c n g.0 g.1 in
      let more = lines_proper (p + node_count (left_side c) + node_count (right_side c)) (n + (line_at p c).adds.added) cs g.2 in
      ((one.0, more.0), (All-append Proper ((line_at p c).adds.rows n) _).1 (one.1, more.1))

-- The row marks a node only where its stream stands for a whole `next` or `fby`.
rows-mark_operators : (s : Sheet) → All (Proper (node_expressions s.constraints)) (normal_rows s)
rows-mark_operators s =
    let n = length s.streams in
    (All-append (Proper (node_expressions s.constraints)) (own_rows n (rewriting_lines 0 s.constraints)) (added_rows n (rewriting_lines 0 s.constraints))).1 (lines_proper (node_expressions s.constraints) 0 n s.constraints (stand_self (node_expressions s.constraints)))

-- A record that marks its left span has a stream that stands for a whole `next` or `fby`.
pub only_operators : (text : List ℕ) (s : Sheet) → All (λ e. e.replaces ≡ 1 → T (is_replaced (stands_for s e.left))) (normal_entries text s)
only_operators text s = by (normal_rows s) (rows-mark_operators s) (rows_stand s)
  where
    by : (rows : List Row) → All (Proper (node_expressions s.constraints)) rows → All (λ r. 2 ≤ r.kind → (0 < r.source) × (expression_at s (r.source - 1) ≡ stands_for s r.left)) rows
        → All (λ e. e.replaces ≡ 1 → T (is_replaced (stands_for s e.left))) (map (entry_record text s) rows)
    by [] g h = tt
    by (r ∷ rows) g h = (
      λ m. let k = marked-kind r m in subst (λ x. T (is_replaced x)) ((h.0 k).1 ∙ ap (stands_for s) (sym (stream-left r k))) (g.0.replaced m),
      by rows g.1 h.1,
    )
