-- On the stored nodes of a sheet the stored lines are the sheet's lines, and an accepted sheet's entries and streams have room.
use Prim.Native.Nat.{ℕ, suc, ◌+◌, ◌*◌, ◌-◌, ◌≤◌, ◌<◌}
use native.Mathlib.Omega.{arith}
use mathlib.Core.Path.{◌≡◌, refl, sym, ◌∙◌, ap, ap₂, subst}
use mathlib.Core.List.{List, [], ◌∷◌, ◌++◌, append-nil}
use lib.IntN.{ℤ}
use lib.ListN.{length, length-append}
use Rattle.meaning.specs.Expression.{Expression, integer, name, first, next, negation, binary, conditional, fby, Constraint, always, until, left_side, right_side, Sheet}
use Rattle.meaning.specs.Interval.{subexpressions}
use Rattle.meaning.specs.Window.{firsts, side_firsts}
use Rattle.sheet.specs.Reading.{all_expressions}
use Rattle.nodes.specs.Code.{relation_code}
use Rattle.nodes.specs.Postfix.{postfix, side_nodes, all_nodes, stored_constraint, stored_constraints}
use Rattle.nodes.specs.Evaluate.{Nodes, nodes_of, kind_of, left_end}
use Rattle.nodes.proofs.Meaning.{operator_code-coded}
use Rattle.nodes.proofs.Postfix.{NodeAt, StoredAt, stored_integer, stored_name, stored_first, stored_next, stored_negation, stored_binary, stored_conditional, stored_fby, stored-ends, left_end-stored, Holds, Holds-append, nodes_hold, postfix-stored, length-postfix}
use Rattle.reader.specs.Stored.{relations_of, lefts_of, rights_of}
use Rattle.sheet.specs.Accepted.{Accepted}
use Rattle.spans.specs.Postfix.{in_postfix, node_count}
use Rattle.normal.specs.Rows.{fby_entries, until_entries, own_rows, all_rows, Rewriting, both_rewritings, next_rewriting, fby_rewriting, rewriting, Line, relation_line, line_at, rewriting_lines, added_rows, streams_after}
use Rattle.normal.specs.Stored.{rewriting_by_kind, rewriting_before, stored_line, stored_lines}
use Rattle.normal.proofs.Recursion.{rewriting_before-node}
use Rattle.normal_entries.specs.Entries.{row_bound}
use Rattle.normal.specs.Table.{LinesHaveRoom}
use Rattle.normal.proofs.Lines.{length-own_rows}
use Rattle.normal.proofs.Decoding.{always-line}
use Rattle.normal.proofs.Places.{nodes-counted}

-- ---- stored expressions

pub stored-end : {N : Nodes} {n f m : ℕ} {e : Expression} → StoredAt N n f e m → m ≡ n + node_count e
unfolding in_postfix
stored-end (stored_integer x) = omega arith
stored-end (stored_name x) = omega arith
stored-end (stored_first {e = e} s x) = let h = stored-end s in omega (arith, length-append (in_postfix e) (first e ∷ []))
stored-end (stored_next {e = e} s x) = let h = stored-end s in omega (arith, length-append (in_postfix e) (next e ∷ []))
stored-end (stored_negation {e = e} s x) = let h = stored-end s in omega (arith, length-append (in_postfix e) (negation e ∷ []))
stored-end (stored_binary {o = o} {a = a} {b = b} s t x) =
    let h = stored-end s in
    let k = stored-end t in
    omega (arith, length-append (in_postfix a) (in_postfix b ++ (binary o a b ∷ [])), length-append (in_postfix b) (binary o a b ∷ []))
stored-end (stored_conditional {c = c} {a = a} {b = b} r s t x) =
    let g = stored-end r in
    let h = stored-end s in
    let k = stored-end t in
    omega (arith, length-append (in_postfix c) (in_postfix a ++ (in_postfix b ++ (conditional c a b ∷ []))), length-append (in_postfix a) (in_postfix b ++ (conditional c a b ∷ [])), length-append (in_postfix b) (conditional c a b ∷ []))
stored-end (stored_fby {a = a} {b = b} s t x) =
    let h = stored-end s in
    let k = stored-end t in
    omega (arith, length-append (in_postfix a) (in_postfix b ++ (fby a b ∷ [])), length-append (in_postfix b) (fby a b ∷ []))

-- ---- how many nodes a constraint has

pub side-count : (n f : ℕ) (c : Constraint) → length (side_nodes n f c) ≡ node_count (left_side c) + node_count (right_side c)
side-count n f c =
    let l = postfix n f (left_side c) in
    let r = postfix (n + length l) (f + length (firsts (left_side c))) (right_side c) in
    length-append l r ∙ omega (arith, length-postfix n f (left_side c), length-postfix (n + length l) (f + length (firsts (left_side c))) (right_side c), nodes-counted (left_side c), nodes-counted (right_side c))

module _ (N : Nodes) where
  abbrev before : ℕ → Rewriting
  before = rewriting_before N.kinds N.starts

  by-node : {m s k : ℕ} {v : ℤ} {x : Rewriting} → NodeAt N m k v s → rewriting_by_kind N.starts (kind_of k) before m ≡ x → before (suc m) ≡ x
  by-node {m} {s} {k} {v} {x} n e =
      rewriting_before-node N.kinds N.starts m ∙ ap (λ j. rewriting_by_kind N.starts (kind_of j) before m) n.kind ∙ e

  -- What a stored expression adds.
  pub rewriting-stored : {n f m : ℕ} {e : Expression} → StoredAt N n f e m → before m ≡ rewriting n e
  unfolding rewriting
  rewriting-stored (stored_integer x) = by-node x refl
  rewriting-stored (stored_name x) = by-node x refl
  rewriting-stored (stored_first s x) = by-node x (rewriting-stored s)
  rewriting-stored (stored_next s x) = by-node x (ap₂ next_rewriting (stored-end s) (rewriting-stored s))
  rewriting-stored (stored_negation s x) = by-node x (rewriting-stored s)
  rewriting-stored (stored_binary {m = m} {o = o} {b = b} s t x) =
      by-node x
      (ap (λ j. rewriting_by_kind N.starts j before m) (operator_code-coded o).kind
      ∙ ap₂ both_rewritings (ap before (left_end-stored t) ∙ rewriting-stored s) (rewriting-stored t ∙ ap (λ k. rewriting k b) (stored-end s)))
  rewriting-stored (stored_conditional {c = c} {a = a} {b = b} r s t x) =
      let g = stored-end r in
      by-node x
      (ap₂ both_rewritings (ap before (ap (left_end N.starts) (left_end-stored t) ∙ left_end-stored s) ∙ rewriting-stored r)
      (ap₂ both_rewritings (ap before (left_end-stored t) ∙ rewriting-stored s ∙ ap (λ k. rewriting k a) g) (rewriting-stored t ∙ ap (λ k. rewriting k b) (stored-end s ∙ ap (λ k. k + node_count a) g))))
  rewriting-stored (stored_fby {n = n} {l = l} {m = m} {a = a} {b = b} s t x) =
      let ea = stored-end s in
      let eb : m ≡ n + node_count a + node_count b = stored-end t ∙ ap (λ k. k + node_count b) ea in
      let ra : before (left_end N.starts m) ≡ rewriting n a = ap before (left_end-stored t) ∙ rewriting-stored s in
      let rb : before m ≡ rewriting (n + node_count a) b = rewriting-stored t ∙ ap (λ k. rewriting k b) ea in
      by-node x (λ i. fby_rewriting ((left_end-stored t ∙ ea) i) (eb i) (ra i) (rb i))

  -- ---- stored constraints

  line-stored : (n f : ℕ) (c : Constraint) → Holds N n (side_nodes n f c)
      → stored_line N.kinds N.starts (stored_constraint n f c).relation (stored_constraint n f c).left (stored_constraint n f c).right
      ≡ relation_line (relation_code c) (n + node_count (left_side c)) (n + node_count (left_side c) + node_count (right_side c)) (rewriting n (left_side c)) (rewriting (n + node_count (left_side c)) (right_side c))
  line-stored n f c h =
      let l = postfix n f (left_side c) in
      let r = postfix (n + length l) (f + length (firsts (left_side c))) (right_side c) in
      let p = Holds-append N n l r h in
      let s = postfix-stored N n f (left_side c) p.0 in
      let t = postfix-stored N (n + length l) (f + length (firsts (left_side c))) (right_side c) p.1 in
      let i : suc (n + length l - 1) ≡ n + length l = let e = stored-ends s in omega arith in
      let j : suc (n + length l + length r - 1) ≡ n + length l + length r = let e = stored-ends t in omega arith in
      let el = i ∙ stored-end s in
      let er : suc (n + length l + length r - 1) ≡ n + node_count (left_side c) + node_count (right_side c) = j ∙ stored-end t ∙ ap (λ k. k + node_count (right_side c)) (stored-end s) in
      let ra : before (suc (n + length l - 1)) ≡ rewriting n (left_side c) = ap before i ∙ rewriting-stored s in
      let rb : before (suc (n + length l + length r - 1)) ≡ rewriting (n + node_count (left_side c)) (right_side c) = ap before j ∙ rewriting-stored t ∙ ap (λ k. rewriting k (right_side c)) (stored-end s) in
      λ k. relation_line (relation_code c) (el k) (er k) (ra k) (rb k)

  pub lines_stored : (n f : ℕ) (cs : List Constraint) → Holds N n (all_nodes n f cs)
      → stored_lines N.kinds N.starts (relations_of (stored_constraints n f cs)) (lefts_of (stored_constraints n f cs)) (rights_of (stored_constraints n f cs)) ≡ rewriting_lines n cs
  unfolding all_nodes stored_constraints stored_lines rewriting_lines
  lines_stored n f [] h = refl
  lines_stored n f (c ∷ cs) h =
      let g = Holds-append N n (side_nodes n f c) (all_nodes (n + length (side_nodes n f c)) (f + length (side_firsts c)) cs) h in
      let e : n + length (side_nodes n f c) ≡ n + node_count (left_side c) + node_count (right_side c) = omega (arith, side-count n f c) in
      ap₂ ◌∷◌ (line-stored n f c g.0) (lines_stored (n + length (side_nodes n f c)) (f + length (side_firsts c)) cs g.1 ∙ ap (λ k. rewriting_lines k cs) e)

-- The nodes of a sheet's constraints hold them.
pub sheet-holds : (cs : List Constraint) → Holds (nodes_of (all_nodes 0 0 cs)) 0 (all_nodes 0 0 cs)
sheet-holds cs = subst (λ l. Holds (nodes_of l) 0 (all_nodes 0 0 cs)) (append-nil (all_nodes 0 0 cs)) (nodes_hold [] (all_nodes 0 0 cs) [])

-- ---- room

-- An expression adds fewer than three streams and four entries for each node.
pub rewriting-few : (p : ℕ) (e : Expression) → ((rewriting p e).added < 3 * node_count e) × ((n : ℕ) → length ((rewriting p e).rows n) < 4 * node_count e)
unfolding rewriting in_postfix
rewriting-few p (integer z) = (omega arith, λ n. omega arith)
rewriting-few p (name k) = (omega arith, λ n. omega arith)
rewriting-few p (first e) = let h = rewriting-few p e in let k = length-append (in_postfix e) (first e ∷ []) in (omega arith, λ n. omega (arith, h.1 n))
rewriting-few p (next e) = let h = rewriting-few p e in let k = length-append (in_postfix e) (next e ∷ []) in (omega arith, λ n. omega (arith, h.1 (suc (suc n))))
rewriting-few p (negation e) = let h = rewriting-few p e in let k = length-append (in_postfix e) (negation e ∷ []) in (omega arith, λ n. omega (arith, h.1 n))
rewriting-few p (binary o a b) =
    let h = rewriting-few p a in
    let k = rewriting-few (p + node_count a) b in
    let u = length-append (in_postfix a) (in_postfix b ++ (binary o a b ∷ [])) in
    let v = length-append (in_postfix b) (binary o a b ∷ []) in
    (omega arith, λ n. omega (arith, h.1 n, k.1 (n + (rewriting p a).added), length-append ((rewriting p a).rows n) ((rewriting (p + node_count a) b).rows (n + (rewriting p a).added))))
rewriting-few p (conditional c a b) =
    let g = rewriting-few p c in
    let h = rewriting-few (p + node_count c) a in
    let k = rewriting-few (p + node_count c + node_count a) b in
    let t = length-append (in_postfix c) (in_postfix a ++ (in_postfix b ++ (conditional c a b ∷ []))) in
    let u = length-append (in_postfix a) (in_postfix b ++ (conditional c a b ∷ [])) in
    let v = length-append (in_postfix b) (conditional c a b ∷ []) in
    let A = rewriting (p + node_count c) a in
    let B = rewriting (p + node_count c + node_count a) b in
    (omega arith, λ n. let m = n + (rewriting p c).added in omega (arith, g.1 n, h.1 m, k.1 (m + A.added), length-append ((rewriting p c).rows n) (A.rows m ++ B.rows (m + A.added)), length-append (A.rows m) (B.rows (m + A.added))))
rewriting-few p (fby a b) =
    let h = rewriting-few p a in
    let k = rewriting-few (p + node_count a) b in
    let u = length-append (in_postfix a) (in_postfix b ++ (fby a b ∷ [])) in
    let v = length-append (in_postfix b) (fby a b ∷ []) in
    let l = p + node_count a in
    (omega arith, λ n. let x = n + (rewriting p a).added in omega (arith, h.1 n, k.1 (suc (suc (suc x))), length-append ((rewriting p a).rows n) (fby_entries l (l + node_count b) n x ++ (rewriting l b).rows (suc (suc (suc x))))))

abbrev pub side_node_count : Constraint → ℕ
side_node_count c = node_count (left_side c) + node_count (right_side c)

line-few : (p : ℕ) (c : Constraint) → ((line_at p c).adds.added ≤ 3 * side_node_count c) × ((n : ℕ) → length ((line_at p c).adds.rows n) ≤ 4 * side_node_count c)
line-few p (always t a b) =
    let l = p + node_count a in
    let h = rewriting-few p a in
    let k = rewriting-few l b in
    let q = always-line t l (l + node_count b) (rewriting p a) (rewriting l b) in (
      subst (λ (m : Line). m.adds.added ≤ 3 * (node_count a + node_count b)) (sym q) (omega arith),
      λ n. subst (λ (m : Line). length (m.adds.rows n) ≤ 4 * (node_count a + node_count b)) (sym q)
          (omega (arith, h.1 n, k.1 (n + (rewriting p a).added), length-append ((rewriting p a).rows n) ((rewriting l b).rows (n + (rewriting p a).added)))),
    )
line-few p (until a b) =
    let l = p + node_count a in
    let h = rewriting-few p a in
    let k = rewriting-few l b in (
      omega arith,
      λ n. let x = n + (rewriting p a).added in omega (arith, h.1 n, k.1 (suc (suc x)), length-append ((rewriting p a).rows n) (until_entries l (l + node_count b) n x ++ (rewriting l b).rows (suc (suc x)))),
    )

pub expressions_counted : (c : Constraint) (cs : List Constraint) → length (all_expressions (c ∷ cs)) ≡ side_node_count c + length (all_expressions cs)
expressions_counted c cs =
    length-append (subexpressions (left_side c) ++ subexpressions (right_side c)) (all_expressions cs)
    ∙ omega (arith, length-append (subexpressions (left_side c)) (subexpressions (right_side c)), nodes-counted (left_side c), nodes-counted (right_side c))

-- The lines add at most three streams and four entries for each expression of the sheet.
pub lines_few : (p n : ℕ) (cs : List Constraint) → (streams_after n (rewriting_lines p cs) ≤ n + 3 * length (all_expressions cs)) × (length (added_rows n (rewriting_lines p cs)) ≤ 4 * length (all_expressions cs))
unfolding rewriting_lines streams_after added_rows
lines_few p n [] = (omega arith, omega arith)
lines_few p n (c ∷ cs) =
    let r = p + node_count (left_side c) + node_count (right_side c) in
    let m = n + (line_at p c).adds.added in
    let h = line-few p c in
    let k = lines_few r m cs in
    let e = expressions_counted c cs in
    (omega arith, omega (arith, h.1 n, length-append ((line_at p c).adds.rows n) (added_rows m (rewriting_lines r cs))))

pub length_lines_of : (p : ℕ) (cs : List Constraint) → length (rewriting_lines p cs) ≡ length cs
unfolding rewriting_lines
length_lines_of p [] = refl
length_lines_of p (c ∷ cs) = ap suc (length_lines_of (p + node_count (left_side c) + node_count (right_side c)) cs)

-- There is a node for each expression of the sheet.
pub nodes-total : (n f : ℕ) (cs : List Constraint) → length (all_nodes n f cs) ≡ length (all_expressions cs)
unfolding all_nodes
nodes-total n f [] = refl
nodes-total n f (c ∷ cs) =
    length-append (side_nodes n f c) (all_nodes (n + length (side_nodes n f c)) (f + length (side_firsts c)) cs)
    ∙ omega (arith, side-count n f c, nodes-total (n + length (side_nodes n f c)) (f + length (side_firsts c)) cs, expressions_counted c cs)

-- An accepted sheet's entries and streams have room.
module _ {s : Sheet} (ok : Accepted s) where
  pub sheet-room : LinesHaveRoom (rewriting_lines 0 s.constraints) (length s.constraints) (length s.streams)
  sheet-room =
      let h = lines_few 0 (length s.streams) s.constraints in
      let c = ok.constraint_count in
      let t = ok.expression_count in
      let n = ok.streams.stream_count in
      record { rows = omega arith; streams = omega arith }

  pub rows_few : length (all_rows (length s.streams) (rewriting_lines 0 s.constraints)) ≤ row_bound
  rows_few =
      let h = sheet-room in
      omega (arith, h.rows, length-append (own_rows (length s.streams) (rewriting_lines 0 s.constraints)) (added_rows (length s.streams) (rewriting_lines 0 s.constraints)), length-own_rows (length s.streams) (rewriting_lines 0 s.constraints), length_lines_of 0 s.constraints)
