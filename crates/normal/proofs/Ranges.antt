-- Every entry that names a stream by its left number has that stream's range in the normal form, and every added stream is named by an entry. So
-- the ranges of all added streams can be read from the entries.
use Prim.Native.Nat.{ℕ, zero, suc, ◌+◌, ◌-◌, ◌≤◌, ◌<◌}
use native.Mathlib.Omega.{arith}
use native.Mathlib.Decide.{ℕ_discrete, dec_lt}
use mathlib.Core.Path.{◌≡◌, refl, sym, ◌∙◌, ap, subst}
use mathlib.Core.Bool.{cond}
use mathlib.Core.List.{List, [], ◌∷◌, ◌++◌, map}
use mathlib.Core.Logic.{inl, inr}
use borrow.Author.Tests.{ne_eqb}
use lib.IntN.{pos}
use lib.ListN.{length, get_or, length-append, length-map}
use lib.Seq.{get_or-append-add}
use Rattle.basics.proofs.Lists.{All-append, All-map, All-mapped, Some-left, Some-mapped, Some-right}
use Rattle.basics.specs.Lists.{All, Some}
use Rattle.meaning.specs.Expression.{Expression, integer, name, first, next, negation, binary, conditional, fby, Constraint, always, until, left_side, right_side, set_kind, Stream, Sheet, absent_stream, range_of}
use Rattle.meaning.specs.Interval.{interval}
use Rattle.meaning.specs.NormalForm.{added, added_count, added_by, all_added, normal_form}
use Rattle.meaning.proofs.NormalForm.{range-added}
use Rattle.meaning.proofs.NormalForm.Names.{streams-length}
use Rattle.nodes.specs.Code.{stream_kind_code}
use Rattle.spans.specs.Postfix.{in_postfix, node_count, node_expressions}
use Rattle.normal_entries.specs.Row.{Row}
use Rattle.normal.specs.Rows.{rewriting, Line, line_at, rewriting_lines, own_rows, added_rows, streams_after}
use Rattle.normal.specs.Encoded.{expression_at, source_interval, normal_rows, entry_record, normal_entries}
use Rattle.normal_entries.specs.Fields.{left_is_node}
use Rattle.normal.specs.Says.{stands_for}
use Rattle.normal.specs.Solved.{range_in}
use Rattle.normal_entries.specs.declared.Entry.{Entry}
use Rattle.normal.proofs.Decoding.{added-counted, always-line, line-count, streams-counted}
use Rattle.normal.proofs.Places.{Stand, Stand-append, stand_self, some-node, root_at, sides_stand}

-- ---- every added stream is named

-- The row's left number is k, and it names a stream.
pub record NamesStream (k : ℕ) (r : Row) : Type 0 where
  pub kind : 2 ≤ r.kind
  pub left : r.left ≡ k

rows_cover : (p : ℕ) (e : Expression) (n k : ℕ) → n ≤ k → k < n + (rewriting p e).added → Some (NamesStream k) ((rewriting p e).rows n)
unfolding rewriting
rows_cover p (integer z) n k l h = absurd (omega arith)
rows_cover p (name j) n k l h = absurd (omega arith)
rows_cover p (first e) n k l h = rows_cover p e n k l h
rows_cover p (next e) n k l h = by (ℕ_discrete k n) (ℕ_discrete k (suc n)) (rows_cover p e (suc (suc n)) k)
  where
    by : Dec (k ≡ n) → Dec (k ≡ suc n) → (suc (suc n) ≤ k → k < suc (suc n) + (rewriting p e).added → Some (NamesStream k) ((rewriting p e).rows (suc (suc n)))) → Some (NamesStream k) ((rewriting p (next e)).rows n)
    by (yes q) c r = inr (inl (record { kind = omega arith; left = sym q }))
    by (no b) (yes q) r = inl (record { kind = omega arith; left = sym q })
    by (no b) (no c) r = inr (inr (r (omega arith) (omega arith)))
rows_cover p (negation e) n k l h = rows_cover p e n k l h
rows_cover p (binary o a b) n k l h = by (dec_lt k (n + (rewriting p a).added)) (rows_cover p a n k l) (rows_cover (p + node_count a) b (n + (rewriting p a).added) k)
  where
    m : ℕ
    m = n + (rewriting p a).added

    by : Dec (k < n + (rewriting p a).added) → (k < n + (rewriting p a).added → Some (NamesStream k) ((rewriting p a).rows n))
        → (n + (rewriting p a).added ≤ k → k < n + (rewriting p a).added + (rewriting (p + node_count a) b).added → Some (NamesStream k) ((rewriting (p + node_count a) b).rows (n + (rewriting p a).added)))
        → Some (NamesStream k) ((rewriting p (binary o a b)).rows n)
    by (yes q) f g = Some-left (NamesStream k) ((rewriting p a).rows n) _ (f q)
    by (no q) f g = Some-right (NamesStream k) ((rewriting p a).rows n) _ (g (omega arith) (omega arith))
rows_cover p (conditional c a b) n k l h =
    by (dec_lt k (n + (rewriting p c).added)) (dec_lt k (n + (rewriting p c).added + (rewriting (p + node_count c) a).added))
    (rows_cover p c n k l) (rows_cover (p + node_count c) a (n + (rewriting p c).added) k) (rows_cover (p + node_count c + node_count a) b (n + (rewriting p c).added + (rewriting (p + node_count c) a).added) k)
  where
    by : Dec (k < n + (rewriting p c).added) → Dec (k < n + (rewriting p c).added + (rewriting (p + node_count c) a).added) → (k < n + (rewriting p c).added → Some (NamesStream k) ((rewriting p c).rows n))
        → (n + (rewriting p c).added ≤ k → k < n + (rewriting p c).added + (rewriting (p + node_count c) a).added → Some (NamesStream k) ((rewriting (p + node_count c) a).rows (n + (rewriting p c).added)))
        → (n + (rewriting p c).added + (rewriting (p + node_count c) a).added ≤ k → k < n + (rewriting p c).added + (rewriting (p + node_count c) a).added + (rewriting (p + node_count c + node_count a) b).added
        → Some (NamesStream k) ((rewriting (p + node_count c + node_count a) b).rows (n + (rewriting p c).added + (rewriting (p + node_count c) a).added)))
        → Some (NamesStream k) ((rewriting p (conditional c a b)).rows n)
    by (yes q) d f g w = Some-left (NamesStream k) ((rewriting p c).rows n) _ (f q)
    by (no q) (yes d) f g w = Some-right (NamesStream k) ((rewriting p c).rows n) _ (Some-left (NamesStream k) ((rewriting (p + node_count c) a).rows (n + (rewriting p c).added)) _ (g (omega arith) d))
    by (no q) (no d) f g w = Some-right (NamesStream k) ((rewriting p c).rows n) _ (Some-right (NamesStream k) ((rewriting (p + node_count c) a).rows (n + (rewriting p c).added)) _ (w (omega arith) (omega arith)))
rows_cover p (fby a b) n k l h =
    by (dec_lt k (n + (rewriting p a).added)) (ℕ_discrete k (n + (rewriting p a).added)) (ℕ_discrete k (suc (n + (rewriting p a).added))) (ℕ_discrete k (suc (suc (n + (rewriting p a).added))))
    (rows_cover p a n k l) (rows_cover (p + node_count a) b (suc (suc (suc (n + (rewriting p a).added)))) k)
  where
    by : Dec (k < n + (rewriting p a).added) → Dec (k ≡ n + (rewriting p a).added) → Dec (k ≡ suc (n + (rewriting p a).added)) → Dec (k ≡ suc (suc (n + (rewriting p a).added)))
        → (k < n + (rewriting p a).added → Some (NamesStream k) ((rewriting p a).rows n))
        → (suc (suc (suc (n + (rewriting p a).added))) ≤ k → k < suc (suc (suc (n + (rewriting p a).added))) + (rewriting (p + node_count a) b).added → Some (NamesStream k) ((rewriting (p + node_count a) b).rows (suc (suc (suc (n + (rewriting p a).added))))))
        → Some (NamesStream k) ((rewriting p (fby a b)).rows n)
    by (yes q) c d e f g = Some-left (NamesStream k) ((rewriting p a).rows n) _ (f q)
    by (no q) (yes c) d e f g = Some-right (NamesStream k) ((rewriting p a).rows n) _ (inr (inr (inl (record { kind = omega arith; left = sym c }))))
    by (no q) (no c) (yes d) e f g = Some-right (NamesStream k) ((rewriting p a).rows n) _ (inl (record { kind = omega arith; left = sym d }))
    by (no q) (no c) (no d) (yes e) f g = Some-right (NamesStream k) ((rewriting p a).rows n) _ (inr (inl (record { kind = omega arith; left = sym e })))
    by (no q) (no c) (no d) (no e) f g = Some-right (NamesStream k) ((rewriting p a).rows n) _ (inr (inr (inr (inr (g (omega arith) (omega arith))))))

line_cover : (p : ℕ) (c : Constraint) (n k : ℕ) → n ≤ k → k < n + (line_at p c).adds.added → Some (NamesStream k) ((line_at p c).adds.rows n)
line_cover p (always t a b) n k l h =
    let w = always-line t (p + node_count a) (p + node_count a + node_count b) (rewriting p a) (rewriting (p + node_count a) b) in
    subst (λ (m : Line). Some (NamesStream k) (m.adds.rows n)) (sym w) (by (dec_lt k (n + (rewriting p a).added)) (subst (λ (m : Line). k < n + m.adds.added) w h))
  where
    by : Dec (k < n + (rewriting p a).added) → k < n + ((rewriting p a).added + (rewriting (p + node_count a) b).added) → Some (NamesStream k) ((rewriting p a).rows n ++ (rewriting (p + node_count a) b).rows (n + (rewriting p a).added))
    by (yes q) h = Some-left (NamesStream k) ((rewriting p a).rows n) _ (rows_cover p a n k l q)
    by (no q) h = Some-right (NamesStream k) ((rewriting p a).rows n) _ (rows_cover (p + node_count a) b (n + (rewriting p a).added) k (omega arith) (omega arith))
line_cover p (until a b) n k l h = by (dec_lt k (n + (rewriting p a).added)) (ℕ_discrete k (n + (rewriting p a).added)) (ℕ_discrete k (suc (n + (rewriting p a).added)))
  where
    by : Dec (k < n + (rewriting p a).added) → Dec (k ≡ n + (rewriting p a).added) → Dec (k ≡ suc (n + (rewriting p a).added)) → Some (NamesStream k) ((line_at p (until a b)).adds.rows n)
    by (yes q) c d = Some-left (NamesStream k) ((rewriting p a).rows n) _ (rows_cover p a n k l q)
    by (no q) (yes c) d = Some-right (NamesStream k) ((rewriting p a).rows n) _ (inl (record { kind = omega arith; left = sym c }))
    by (no q) (no c) (yes d) = Some-right (NamesStream k) ((rewriting p a).rows n) _ (inr (inl (record { kind = omega arith; left = sym d })))
    by (no q) (no c) (no d) = Some-right (NamesStream k) ((rewriting p a).rows n) _ (inr (inr (rows_cover (p + node_count a) b (suc (suc (n + (rewriting p a).added))) k (omega arith) (omega arith))))

lines_cover : (p : ℕ) (cs : List Constraint) (n k : ℕ) → n ≤ k → k < streams_after n (rewriting_lines p cs) → Some (NamesStream k) (added_rows n (rewriting_lines p cs))
unfolding rewriting_lines added_rows streams_after
lines_cover p [] n k l h = absurd (omega arith)
lines_cover p (c ∷ cs) n k l h = by (dec_lt k (n + (line_at p c).adds.added)) (lines_cover (p + node_count (left_side c) + node_count (right_side c)) cs (n + (line_at p c).adds.added) k)
  where
    by : Dec (k < n + (line_at p c).adds.added) → (n + (line_at p c).adds.added ≤ k → k < streams_after (n + (line_at p c).adds.added) (rewriting_lines (p + node_count (left_side c) + node_count (right_side c)) cs) → Some (NamesStream k) (added_rows (n + (line_at p c).adds.added) (rewriting_lines (p + node_count (left_side c) + node_count (right_side c)) cs)))
        → Some (NamesStream k) ((line_at p c).adds.rows n ++ added_rows (n + (line_at p c).adds.added) (rewriting_lines (p + node_count (left_side c) + node_count (right_side c)) cs))
    by (yes q) r = Some-left (NamesStream k) ((line_at p c).adds.rows n) _ (line_cover p c n k l q)
    by (no q) r = Some-right (NamesStream k) ((line_at p c).adds.rows n) _ (r (omega arith) h)

-- From kind 2 on the left is a stream.
pub stream-left : (r : Row) → 2 ≤ r.kind → cond (left_is_node r.kind) 0 r.left ≡ r.left
stream-left r h = ap (λ b. cond b 0 r.left) (ne_eqb r.kind 1 (λ e. omega arith))

-- The entry names stream k.
pub record NamedBy (k : ℕ) (e : Entry) : Type 0 where
  pub kind : 2 ≤ e.kind
  pub left : e.left ≡ k

-- Every added stream is the left of some entry.
pub streams-named : (text : List ℕ) (s : Sheet) (k : ℕ) → length s.streams ≤ k → k < length (normal_form s).streams → Some (NamedBy k) (normal_entries text s)
streams-named text s k l h =
    let total = streams-counted s 0 (length s.streams) s.constraints (stand_self (node_expressions s.constraints)) ∙ sym (streams-length s) in
    Some-mapped (NamedBy k) (entry_record text s) (λ r p. record { kind = p.kind; left = stream-left r p.kind ∙ p.left }) (normal_rows s)
    (Some-right (NamesStream k) (own_rows (length s.streams) (rewriting_lines 0 s.constraints)) (added_rows (length s.streams) (rewriting_lines 0 s.constraints)) (lines_cover 0 s.constraints (length s.streams) k l (omega arith)))

-- ---- the ranges of named streams

module _ (s : Sheet) where
  abbrev L : List Expression
  L = node_expressions s.constraints

  abbrev total : ℕ
  total = length s.streams + length (all_added s.constraints)

  -- What each stream stands for, by its number; the sheet's own streams stand for nothing.
  abbrev Streamed : List Expression
  Streamed = map (λ (x : Stream). integer (pos 0)) s.streams ++ all_added s.constraints

  abbrev streamed : ℕ → Expression
  streamed k = get_or Streamed k (integer (pos 0))

  -- The row's left is an added stream, which stands for the expression of the row's source; or the row is a rewritten constraint.
  record Ranged (r : Row) : Type 0 where
    low : 2 ≤ r.kind → length s.streams ≤ r.left
    high : 2 ≤ r.kind → r.left < total
    source : 2 ≤ r.kind → 0 < r.source
    stands : 2 ≤ r.kind → streamed r.left ≡ expression_at s (r.source - 1)

  ranged : {r : Row} → length s.streams ≤ r.left → r.left < total → 0 < r.source → streamed r.left ≡ expression_at s (r.source - 1) → Ranged r
  ranged a b c d = record { low = λ _. a; high = λ _. b; source = λ _. c; stands = λ _. d }

  some-place : (p : ℕ) (e : Expression) → Stand L p (in_postfix e) → 0 < p + node_count e
  some-place p e h = omega (arith, some-node e)

  at_count : (p : ℕ) (a : Expression) (n : ℕ) (b : Expression) → All Ranged ((rewriting (p + node_count a) b).rows (n + added_count a)) → All Ranged ((rewriting (p + node_count a) b).rows (n + (rewriting p a).added))
  at_count p a n b h = subst (λ m. All Ranged ((rewriting (p + node_count a) b).rows (n + m))) (sym (added-counted p a)) h

  rows-ranged : (p : ℕ) (e : Expression) (n : ℕ) → Stand L p (in_postfix e) → Stand Streamed n (added e) → length s.streams ≤ n → n + added_count e ≤ total → All Ranged ((rewriting p e).rows n)
  unfolding rewriting in_postfix added
  rows-ranged p (integer z) n h k l t = tt
  rows-ranged p (name j) n h k l t = tt
  rows-ranged p (first e) n h k l t = rows-ranged p e n (Stand-append L p (in_postfix e) (first e ∷ []) h).0 k l t
  rows-ranged p (next e) n h k l t =
      let g = (Stand-append L p (in_postfix e) (next e ∷ []) h).0 in
      let i : suc (p + node_count e) - 1 ≡ p + node_count (next e) - 1 = omega (arith, length-append (in_postfix e) (next e ∷ [])) in (
        ranged (omega arith) (omega arith) (omega (arith, some-place p e g)) (k.1.0 ∙ sym (root_at L p e g)),
        (
          ranged (omega arith) (omega arith) (omega arith) (k.0 ∙ sym (ap (expression_at s) i ∙ root_at L p (next e) h)),
          rows-ranged p e (suc (suc n)) g k.1.1 (omega arith) (omega arith),
        ),
      )
  rows-ranged p (negation e) n h k l t = rows-ranged p e n (Stand-append L p (in_postfix e) (negation e ∷ []) h).0 k l t
  rows-ranged p (binary o a b) n h k l t =
      let g = Stand-append L p (in_postfix a) (in_postfix b ++ (binary o a b ∷ [])) h in
      let f = Stand-append L (p + node_count a) (in_postfix b) (binary o a b ∷ []) g.1 in
      let d = Stand-append Streamed n (added a) (added b) k in
      let z = length-append (added a) (added b) in
      (All-append Ranged ((rewriting p a).rows n) _).1
      (rows-ranged p a n g.0 d.0 l (omega arith), at_count p a n b (rows-ranged (p + node_count a) b (n + added_count a) f.0 d.1 (omega arith) (omega arith)))
  rows-ranged p (conditional c a b) n h k l t =
      let f = Stand-append L p (in_postfix c) (in_postfix a ++ (in_postfix b ++ (conditional c a b ∷ []))) h in
      let g = Stand-append L (p + node_count c) (in_postfix a) (in_postfix b ++ (conditional c a b ∷ [])) f.1 in
      let i = Stand-append L (p + node_count c + node_count a) (in_postfix b) (conditional c a b ∷ []) g.1 in
      let d = Stand-append Streamed n (added c) (added a ++ added b) k in
      let e = Stand-append Streamed (n + added_count c) (added a) (added b) d.1 in
      let y = length-append (added c) (added a ++ added b) in
      let z = length-append (added a) (added b) in
      let cc' = added-counted p c in
      let ca = added-counted (p + node_count c) a in
      (All-append Ranged ((rewriting p c).rows n) _).1 (
        rows-ranged p c n f.0 d.0 l (omega arith),
        (All-append Ranged ((rewriting (p + node_count c) a).rows (n + (rewriting p c).added)) _).1 (
          at_count p c n a (rows-ranged (p + node_count c) a (n + added_count c) g.0 e.0 (omega arith) (omega arith)),
          subst (λ m. All Ranged ((rewriting (p + node_count c + node_count a) b).rows m)) (let q : n + added_count c + added_count a ≡ n + (rewriting p c).added + (rewriting (p + node_count c) a).added = omega arith in q)
              (rows-ranged (p + node_count c + node_count a) b (n + added_count c + added_count a) i.0 e.1 (omega arith) (omega arith)),
        ),
      )
  rows-ranged p (fby a b) n h k l t =
      let g = Stand-append L p (in_postfix a) (in_postfix b ++ (fby a b ∷ [])) h in
      let f = Stand-append L (p + node_count a) (in_postfix b) (fby a b ∷ []) g.1 in
      let d = Stand-append Streamed n (added a) (fby a b ∷ a ∷ b ∷ added b) k in
      let z = length-append (added a) (fby a b ∷ a ∷ b ∷ added b) in
      let ca = added-counted p a in
      let i : suc (p + node_count a + node_count b) - 1 ≡ p + node_count (fby a b) - 1 = omega (arith, length-append (in_postfix a) (in_postfix b ++ (fby a b ∷ [])), length-append (in_postfix b) (fby a b ∷ [])) in
      let ra = root_at L p a g.0 in
      let rb = root_at L (p + node_count a) b f.0 in
      let re = ap (expression_at s) i ∙ root_at L p (fby a b) h in
      let x : n + added_count a ≡ n + (rewriting p a).added = omega arith in
      let s0 : streamed (n + (rewriting p a).added) ≡ fby a b = ap streamed (sym x) ∙ d.1.0 in
      let s1 : streamed (suc (n + (rewriting p a).added)) ≡ a = ap (λ m. streamed (suc m)) (sym x) ∙ d.1.1.0 in
      let s2 : streamed (suc (suc (n + (rewriting p a).added))) ≡ b = ap (λ m. streamed (suc (suc m))) (sym x) ∙ d.1.1.1.0 in
      let pa = some-place p a g.0 in
      let pb = some-place (p + node_count a) b f.0 in
      (All-append Ranged ((rewriting p a).rows n) _).1 (
        rows-ranged p a n g.0 d.0 l (omega arith),
        (
          ranged (omega arith) (omega arith) (omega arith) (s1 ∙ sym ra),
          (
            ranged (omega arith) (omega arith) (omega arith) (s2 ∙ sym rb),
            (
              ranged (omega arith) (omega arith) (omega arith) (s0 ∙ sym re),
              (
                ranged (omega arith) (omega arith) (omega arith) (s2 ∙ sym rb),
                subst (λ m. All Ranged ((rewriting (p + node_count a) b).rows (suc (suc (suc m))))) x (rows-ranged (p + node_count a) b (suc (suc (suc (n + added_count a)))) f.0 d.1.1.1.1 (omega arith) (omega arith)),
              ),
            ),
          ),
        ),
      )

  -- ---- constraints

  line-ranged : (p : ℕ) (c : Constraint) (n : ℕ) → Stand L p (in_postfix (left_side c)) → Stand L (p + node_count (left_side c)) (in_postfix (right_side c)) → Stand Streamed n (added_by c) → length s.streams ≤ n → n + length (added_by c) ≤ total
      → Ranged ((line_at p c).own n) × All Ranged ((line_at p c).adds.rows n)
  unfolding added_by
  line-ranged p (always t a b) n ha hb k l u =
      let w = always-line t (p + node_count a) (p + node_count a + node_count b) (rewriting p a) (rewriting (p + node_count a) b) in
      let d = Stand-append Streamed n (added a) (added b) k in
      let z = length-append (added a) (added b) in (
        subst (λ (m : Line). Ranged (m.own n)) (sym w) (record { low = λ i. absurd (omega arith); high = λ i. absurd (omega arith); source = λ i. absurd (omega arith); stands = λ i. absurd (omega arith) }),
        subst (λ (m : Line). All Ranged (m.adds.rows n)) (sym w)
            ((All-append Ranged ((rewriting p a).rows n) _).1 (rows-ranged p a n ha d.0 l (omega arith), at_count p a n b (rows-ranged (p + node_count a) b (n + added_count a) hb d.1 (omega arith) (omega arith)))),
      )
  line-ranged p (until a b) n ha hb k l u =
      let d = Stand-append Streamed n (added a) (a ∷ b ∷ added b) k in
      let z = length-append (added a) (a ∷ b ∷ added b) in
      let ca = added-counted p a in
      let ra = root_at L p a ha in
      let rb = root_at L (p + node_count a) b hb in
      let x : n + added_count a ≡ n + (rewriting p a).added = omega arith in
      let s0 : streamed (n + (rewriting p a).added) ≡ a = ap streamed (sym x) ∙ d.1.0 in
      let s1 : streamed (suc (n + (rewriting p a).added)) ≡ b = ap (λ m. streamed (suc m)) (sym x) ∙ d.1.1.0 in
      let pa = some-place p a ha in
      let pb = some-place (p + node_count a) b hb in (
        ranged (omega arith) (omega arith) (omega arith) (s0 ∙ sym ra),
        (All-append Ranged ((rewriting p a).rows n) _).1 (
          rows-ranged p a n ha d.0 l (omega arith),
          (
            ranged (omega arith) (omega arith) (omega arith) (s0 ∙ sym ra),
            (
              ranged (omega arith) (omega arith) (omega arith) (s1 ∙ sym rb),
              subst (λ m. All Ranged ((rewriting (p + node_count a) b).rows (suc (suc m)))) x (rows-ranged (p + node_count a) b (suc (suc (n + added_count a))) hb d.1.1.1 (omega arith) (omega arith)),
            ),
          ),
        ),
      )

  lines-ranged : (p n : ℕ) (cs : List Constraint) → Stand L p (node_expressions cs) → Stand Streamed n (all_added cs) → length s.streams ≤ n → n + length (all_added cs) ≤ total
      → All Ranged (own_rows n (rewriting_lines p cs)) × All Ranged (added_rows n (rewriting_lines p cs))
  unfolding rewriting_lines own_rows added_rows all_added
  lines-ranged p n [] h k l u = (tt, tt)
  lines-ranged p n (c ∷ cs) h k l u =
      let g = sides_stand L p c cs h in
      let d = Stand-append Streamed n (added_by c) (all_added cs) k in
      let z = length-append (added_by c) (all_added cs) in
      let one = line-ranged p c n g.0 g.1 d.0 l (omega arith) in
      let e = line-count s p c g.0 g.1 in
      let more = lines-ranged (p + node_count (left_side c) + node_count (right_side c)) (n + length (added_by c)) cs g.2 d.1 (omega arith) (omega arith) in
      let more' = subst (λ m. All Ranged (own_rows (n + m) (rewriting_lines (p + node_count (left_side c) + node_count (right_side c)) cs)) × All Ranged (added_rows (n + m) (rewriting_lines (p + node_count (left_side c) + node_count (right_side c)) cs))) (sym e) more in
      ((one.0, more'.0), (All-append Ranged ((line_at p c).adds.rows n) _).1 (one.1, more'.1))

  streamed-added : Stand Streamed (length s.streams) (all_added s.constraints)
  streamed-added =
      let pad = map (λ (x : Stream). integer (pos 0)) s.streams in
      let e : 0 + length pad ≡ length s.streams = omega (arith, length-map s.streams (λ (x : Stream). integer (pos 0))) in
      subst (λ k. Stand Streamed k (all_added s.constraints)) e (Stand-append Streamed 0 pad (all_added s.constraints) (stand_self Streamed)).1

  source-interval : (e : ℕ) → 0 < e → source_interval s e ≡ interval s.streams (expression_at s (e - 1))
  source-interval zero h = absurd (omega arith)
  source-interval (suc i) h = let q : i ≡ suc i - 1 = omega arith in ap (λ k. interval s.streams (expression_at s k)) q

  row-range : (r : Row) → Ranged r → 2 ≤ r.kind → source_interval s r.source ≡ range_of (normal_form s).streams r.left
  row-range r h k =
      let pad = map (λ (x : Stream). integer (pos 0)) s.streams in
      let len = length-map s.streams (λ (x : Stream). integer (pos 0)) in
      let low = h.low k in
      let high = h.high k in
      let j = r.left - length s.streams in
      let at : r.left ≡ length s.streams + j = omega arith in
      let at' : r.left ≡ length pad + j = omega arith in
      source-interval r.source (h.source k)
      ∙ ap (interval s.streams) (sym (h.stands k) ∙ ap streamed at' ∙ get_or-append-add pad (all_added s.constraints) j (integer (pos 0)))
      ∙ sym (ap (range_of (normal_form s).streams) at ∙ range-added s j (omega arith))

  -- A row with a stream at its left has a source, the expression that the stream stands for.
  row-stands : (r : Row) → Ranged r → 2 ≤ r.kind → (0 < r.source) × (expression_at s (r.source - 1) ≡ stands_for s r.left)
  row-stands r h k =
      let pad = map (λ (x : Stream). integer (pos 0)) s.streams in
      let len = length-map s.streams (λ (x : Stream). integer (pos 0)) in
      let low = h.low k in
      let j = r.left - length s.streams in
      let at : r.left ≡ length pad + j = omega arith in
      (h.source k, sym (h.stands k) ∙ ap streamed at ∙ get_or-append-add pad (all_added s.constraints) j (integer (pos 0)))

all-ranged : (s : Sheet) → All (Ranged s) (normal_rows s)
all-ranged s =
    let n = length s.streams in
    let h = lines-ranged s 0 n s.constraints (stand_self (node_expressions s.constraints)) (streamed-added s) (omega arith) (omega arith) in
    (All-append (Ranged s) (own_rows n (rewriting_lines 0 s.constraints)) (added_rows n (rewriting_lines 0 s.constraints))).1 h

-- What the streams at the left of the rows stand for.
pub rows_stand : (s : Sheet) → All (λ r. 2 ≤ r.kind → (0 < r.source) × (expression_at s (r.source - 1) ≡ stands_for s r.left)) (normal_rows s)
rows_stand s = All-map (normal_rows s) (λ r k. row-stands s r k) (all-ranged s)

-- The entry names a stream only with that stream's range.
abbrev pub HasRange : Sheet → Entry → Type 0
HasRange s e = 2 ≤ e.kind → range_in e ≡ range_of (normal_form s).streams e.left

pub entries-ranged : (text : List ℕ) (s : Sheet) → All (HasRange s) (normal_entries text s)
entries-ranged text s =
    All-mapped (HasRange s) (entry_record text s) (λ r h k. row-range s r h k ∙ ap (range_of (normal_form s).streams) (sym (stream-left r k))) (normal_rows s) (all-ranged s)

-- The stream that an entry names is one of the normal form's.
abbrev pub LeftBelow : Sheet → Entry → Type 0
LeftBelow s e = 2 ≤ e.kind → e.left < length (normal_form s).streams

pub entries_below : (text : List ℕ) (s : Sheet) → All (LeftBelow s) (normal_entries text s)
entries_below text s =
    All-mapped (LeftBelow s) (entry_record text s) (λ r h k. let high = h.high k in let left = stream-left r k in omega (arith, streams-length s)) (normal_rows s) (all-ranged s)

-- ---- the kinds of named streams

-- "an added one is `set`" (document 02, S-6)
added-set : (s : Sheet) (k : ℕ) → length s.streams ≤ k → (get_or (normal_form s).streams k absent_stream).kind ≡ set_kind
unfolding normal_form
added-set s k h =
    let j = k - length s.streams in
    let at : k ≡ length s.streams + j = omega arith in
    let f : Expression → Stream = λ e. record { name = []; kind = set_kind; range = interval s.streams e } in
    ap (λ n. (get_or (s.streams ++ map f (all_added s.constraints)) n absent_stream).kind) at
    ∙ ap (λ (x : Stream). x.kind) (get_or-append-add s.streams (map f (all_added s.constraints)) j absent_stream) ∙ go (all_added s.constraints) j
  where
    go : (es : List Expression) (j : ℕ) → (get_or (map (λ (e : Expression). record { name = []; kind = set_kind; range = interval s.streams e }) es) j absent_stream).kind ≡ set_kind
    go [] j = refl
    go (e ∷ es) zero = refl
    go (e ∷ es) (suc j) = go es j

-- The entry names a stream only with that stream's kind.
abbrev pub HasKind : Sheet → Entry → Type 0
HasKind s e = 2 ≤ e.kind → e.stream_kind ≡ stream_kind_code (get_or (normal_form s).streams e.left absent_stream).kind

pub entries-kinds : (text : List ℕ) (s : Sheet) → All (HasKind s) (normal_entries text s)
entries-kinds text s =
    All-mapped (HasKind s) (entry_record text s) (λ r h k. sym (ap stream_kind_code (ap (λ i. (get_or (normal_form s).streams i absent_stream).kind) (stream-left r k) ∙ added-set s r.left (h.low k)))) (normal_rows s) (all-ranged s)
