-- The ranges that the rows of an accepted sheet's entries name are the intervals of the expressions that their streams stand for, and their sides are
-- nodes of the sheet.
use Prim.Native.Nat.{ℕ, suc, ◌+◌, ◌-◌, ◌≤◌, ◌<◌}
use native.Mathlib.Omega.{arith}
use mathlib.Core.Path.{◌≡◌, refl, sym, ◌∙◌, ap, subst}
use mathlib.Core.Bool.{Bool, true, false, cond, false≢true}
use mathlib.Core.List.{List, [], ◌∷◌, ◌++◌}
use lib.IntN.{ℤ}
use Rattle.std.specs.Prelude.{Some, is_some}
use lib.ListN.{length, get_or, length-append}
use lib.Signed.{◌≤ℤ◌, le_z_yes}
use Rattle.basics.proofs.Lists.{All-append, member-All}
use Rattle.basics.specs.Lists.{All}
use Rattle.meaning.specs.Arithmetic.{Interval}
use Rattle.meaning.specs.Expression.{Expression, integer, name, first, next, negation, binary, conditional, fby, Constraint, always, until, left_side, right_side, absent_stream, range_of, Sheet}
use Rattle.meaning.specs.Interval.{interval, subexpressions, NamesBelow}
use Rattle.meaning.specs.Window.{firsts, side_firsts}
use Rattle.meaning.proofs.Facts.{get_or-member}
use Rattle.sheet.specs.Refusal.{InBounds, on_left, on_right}
use Rattle.sheet.specs.Accepted.{Accepted}
use Rattle.nodes.specs.Postfix.{postfix, side_nodes, all_nodes}
use Rattle.nodes.specs.Evaluate.{Nodes, nodes_of}
use Rattle.meaning.specs.Situation.{all}
use Rattle.nodes.specs.Bounds.{no_range, ends_in_bound}
use Rattle.nodes.specs.declared.Summary.{Summary}
use Rattle.nodes.proofs.Bounds.{node_summary-summary_of, bounded-in_bounds}
use Rattle.nodes.proofs.Postfix.{StoredAt, stored_integer, stored_name, stored_first, stored_next, stored_negation, stored_binary, stored_conditional, stored_fby, stored-ends, Holds, Holds-append, postfix-stored}
use Rattle.spans.specs.Postfix.{in_postfix, node_count, node_expressions}
use Rattle.normal_entries.specs.Row.{Row}
use Rattle.normal.specs.Rows.{rewriting, Line, line_at, rewriting_lines, own_rows, added_rows}
use Rattle.normal.specs.Table.{ends_of}
use Rattle.normal.specs.Encoded.{expression_at, source_interval, normal_rows}
use Rattle.normal.specs.Outcome.{sheet_range}
use Rattle.normal.proofs.Decoding.{always-line}
use Rattle.normal.proofs.Places.{Stand, Stand-append, stand_self, some-node, root_at, nodes-counted, sides_stand}
use Rattle.normal.proofs.SheetRows.{stored-end, side-count, sheet-holds, nodes-total}

abbrev pub ends_of_interval : Interval → List ℤ
ends_of_interval I = I.low ∷ I.high ∷ []

-- A range that is there has the ends of its interval.
known-ends : (b : Bool) (I : Interval) → is_some (cond b (Some (record { low = I.low; high = I.high })) no_range) ≡ true
    → ends_of (cond b (Some (record { low = I.low; high = I.high })) no_range) ≡ ends_of_interval I
known-ends true I h = refl
known-ends false I h = absurd (false≢true h)

-- The forms that rows have: sides are nodes, of which there are N, and all else is streams.
pub data RowForm (N : ℕ) : Row → Type 0 where
  is_constraint : {relation a m b n : ℕ} → a < N → b < N → RowForm N (record { kind = 1; relation = relation; left = a; left_added = m; right = b; right_added = n; source = 0 })
  is_until : {x y e : ℕ} → RowForm N (record { kind = 2; relation = 7; left = x; left_added = 0; right = y; right_added = 0; source = e })
  is_equation : {x b n e : ℕ} → b < N → RowForm N (record { kind = 3; relation = 2; left = x; left_added = 0; right = b; right_added = n; source = e })
  is_next : {x y e : ℕ} → RowForm N (record { kind = 4; relation = 2; left = x; left_added = 0; right = y; right_added = 0; source = e })
  is_first : {x y e : ℕ} → RowForm N (record { kind = 5; relation = 2; left = x; left_added = 0; right = y; right_added = 0; source = e })

module _ (s : Sheet) where
  -- The range that a row names is the interval of what its stream stands for, and its nodes are the sheet's.
  pub record Sound (r : Row) : Type 0 where
    pub ends : ends_of (sheet_range s r.source) ≡ ends_of_interval (source_interval s r.source)
    pub form : RowForm (length (all_nodes 0 0 s.constraints)) r
    pub source : r.source ≤ length (all_nodes 0 0 s.constraints)
    pub bounds : InBounds (source_interval s r.source)

  -- The range of the part that ends before a place is its expression's interval, which is within the bounds.
  record Good (e : ℕ) : Type 0 where
    within : e ≤ length (all_nodes 0 0 s.constraints)
    ends : ends_of (sheet_range s e) ≡ ends_of_interval (source_interval s e)
    bounds : InBounds (source_interval s e)

  abbrev N : Nodes
  N = nodes_of (all_nodes 0 0 s.constraints)

  abbrev L : List Expression
  L = node_expressions s.constraints

  -- Every name is known, and no interval leaves the bounds.
  record Fine (e : Expression) : Type 0 where
    below : NamesBelow (length s.streams) e
    bounds : All (λ f. InBounds (interval s.streams f)) (subexpressions e)

  own-bounds : (e : Expression) → All (λ f. InBounds (interval s.streams f)) (subexpressions e) → InBounds (interval s.streams e)
  unfolding subexpressions
  own-bounds (integer z) h = h.0
  own-bounds (name k) h = h.0
  own-bounds (first e) h = h.0
  own-bounds (next e) h = h.0
  own-bounds (negation e) h = h.0
  own-bounds (binary o a b) h = h.0
  own-bounds (conditional c a b) h = h.0
  own-bounds (fby a b) h = h.0

  module _ (ok : Accepted s) where
    abbrev nodes : ℕ
    nodes = length (all_nodes 0 0 s.constraints)

    ordered : (k : ℕ) → k < length s.streams → (range_of s.streams k).low ≤ℤ (range_of s.streams k).high
    ordered k h = ok.streams.ranges_ordered (get_or s.streams k absent_stream) (get_or-member s.streams k absent_stream h)

    node_good : {p f : ℕ} (i : ℕ) (e : Expression) → StoredAt N p f e (suc i) → Stand L p (in_postfix e) → Fine e → suc i ≤ nodes → Good (suc i)
    node_good {p} {f} i e t h g l =
        let few : length (subexpressions e) ≤ 65535 = omega (arith, ok.expression_count, nodes-total 0 0 s.constraints, stored-end t, nodes-counted e) in
        let at : i ≡ p + node_count e - 1 = omega (arith, stored-end t) in
        let is : expression_at s i ≡ e = ap (expression_at s) at ∙ root_at L p e h in
        let ends =
        ap (λ (x : Summary). ends_of x.range) (node_summary-summary_of s.streams (all_nodes 0 0 s.constraints) t l g.below few)
        ∙ known-ends (all (λ f. ends_in_bound (interval s.streams f)) (subexpressions e)) (interval s.streams e) ((bounded-in_bounds s.streams ordered e g.below).1 g.bounds)
        ∙ ap (λ x. ends_of_interval (interval s.streams x)) (sym is) in
        record { within = l; ends = ends; bounds = subst (λ x. InBounds (interval s.streams x)) (sym is) (own-bounds e g.bounds) }

    part_good : {p f m : ℕ} {e : Expression} → StoredAt N p f e m → Stand L p (in_postfix e) → Fine e → m ≤ nodes → Good m
    part_good {p} {f} {m} {e} t h g l =
        let q : suc (m - 1) ≡ m = omega (arith, stored-ends t) in
        subst Good q (node_good (m - 1) e (subst (StoredAt N p f e) (sym q) t) h g (omega arith))

    row : {r : Row} → Good r.source → RowForm nodes r → Sound r
    row g f = record { ends = g.ends; form = f; source = g.within; bounds = g.bounds }

    -- ---- expressions

    rows-sound : {p f m : ℕ} {e : Expression} → StoredAt N p f e m → Stand L p (in_postfix e) → Fine e → m ≤ nodes → (n : ℕ) → All Sound ((rewriting p e).rows n)
    unfolding rewriting in_postfix subexpressions
    rows-sound (stored_integer x) h g l n = tt
    rows-sound (stored_name x) h g l n = tt
    rows-sound {p} (stored_first {e = e} t x) h g l n = rows-sound t (Stand-append L p (in_postfix e) (first e ∷ []) h).0 (record { below = g.below; bounds = g.bounds.1 }) (omega arith) n
    rows-sound {p} (stored_next {e = e} t x) h g l n =
        let k = (Stand-append L p (in_postfix e) (next e ∷ []) h).0 in
        let i : Fine e = record { below = g.below; bounds = g.bounds.1 } in (
          row (subst Good (stored-end t) (part_good t k i (omega arith))) (is_equation (omega (arith, stored-end t, some-node e))),
          (row (subst (λ j. Good (suc j)) (stored-end t) (part_good (stored_next t x) h g l)) is_next, rows-sound t k i (omega arith) (suc (suc n))),
        )
    rows-sound {p} (stored_negation {e = e} t x) h g l n = rows-sound t (Stand-append L p (in_postfix e) (negation e ∷ []) h).0 (record { below = g.below; bounds = g.bounds.1 }) (omega arith) n
    rows-sound {p} (stored_binary {o = o} {a = a} {b = b} t u x) h g l n =
        let k = Stand-append L p (in_postfix a) (in_postfix b ++ (binary o a b ∷ [])) h in
        let j = Stand-append L (p + node_count a) (in_postfix b) (binary o a b ∷ []) k.1 in
        let c = (All-append (λ f. InBounds (interval s.streams f)) (subexpressions a) (subexpressions b)).0 g.bounds.1 in
        let ia : Fine a = record { below = g.below.0; bounds = c.0 } in
        let ib : Fine b = record { below = g.below.1; bounds = c.1 } in
        (All-append Sound ((rewriting p a).rows n) _).1
        (rows-sound t k.0 ia (omega (arith, stored-ends u)) n, subst (λ q. All Sound ((rewriting q b).rows (n + (rewriting p a).added))) (stored-end t) (rows-sound u (subst (λ q. Stand L q (in_postfix b)) (sym (stored-end t)) j.0) ib (omega arith) (n + (rewriting p a).added)))
    rows-sound {p} (stored_conditional {k = kc} {l = la} {c = c} {a = a} {b = b} r t u x) h g l n =
        let k = Stand-append L p (in_postfix c) (in_postfix a ++ (in_postfix b ++ (conditional c a b ∷ []))) h in
        let j = Stand-append L (p + node_count c) (in_postfix a) (in_postfix b ++ (conditional c a b ∷ [])) k.1 in
        let i = Stand-append L (p + node_count c + node_count a) (in_postfix b) (conditional c a b ∷ []) j.1 in
        let d = (All-append (λ f. InBounds (interval s.streams f)) (subexpressions c) (subexpressions a ++ subexpressions b)).0 g.bounds.1 in
        let e = (All-append (λ f. InBounds (interval s.streams f)) (subexpressions a) (subexpressions b)).0 d.1 in
        let ec = stored-end r in
        let ea : la ≡ p + node_count c + node_count a = stored-end t ∙ ap (λ q. q + node_count a) ec in
        let m = n + (rewriting p c).added in
        (All-append Sound ((rewriting p c).rows n) _).1 (
          rows-sound r k.0 (record { below = g.below.0; bounds = d.0 }) (omega (arith, stored-ends u, stored-ends t)) n,
          (All-append Sound ((rewriting (p + node_count c) a).rows m) _).1 (
            subst (λ q. All Sound ((rewriting q a).rows m)) ec (rows-sound t (subst (λ q. Stand L q (in_postfix a)) (sym ec) j.0) (record { below = g.below.1; bounds = e.0 }) (omega (arith, stored-ends u)) m),
            subst (λ q. All Sound ((rewriting q b).rows (m + (rewriting (p + node_count c) a).added))) ea (rows-sound u (subst (λ q. Stand L q (in_postfix b)) (sym ea) i.0) (record { below = g.below.2; bounds = e.1 }) (omega arith) (m + (rewriting (p + node_count c) a).added)),
          ),
        )
    rows-sound {p} (stored_fby {l = la} {m = mb} {a = a} {b = b} t u x) h g l n =
        let k = Stand-append L p (in_postfix a) (in_postfix b ++ (fby a b ∷ [])) h in
        let j = Stand-append L (p + node_count a) (in_postfix b) (fby a b ∷ []) k.1 in
        let c = (All-append (λ f. InBounds (interval s.streams f)) (subexpressions a) (subexpressions b)).0 g.bounds.1 in
        let ia : Fine a = record { below = g.below.0; bounds = c.0 } in
        let ib : Fine b = record { below = g.below.1; bounds = c.1 } in
        let ea = stored-end t in
        let eb : mb ≡ p + node_count a + node_count b = stored-end u ∙ ap (λ q. q + node_count b) ea in
        let sb = subst (λ q. Stand L q (in_postfix b)) (sym ea) j.0 in
        let ga = subst Good ea (part_good t k.0 ia (omega (arith, stored-ends u))) in
        let gb = subst Good eb (part_good u sb ib (omega arith)) in
        let ge = subst (λ q. Good (suc q)) eb (part_good (stored_fby t u x) h g l) in
        let y = n + (rewriting p a).added in
        (All-append Sound ((rewriting p a).rows n) _).1 (
          rows-sound t k.0 ia (omega (arith, stored-ends u)) n,
          (
            row ga (is_equation (omega (arith, ea, stored-ends u, some-node a))),
            (
              row gb (is_equation (omega (arith, eb, some-node b))),
              (
                row ge is_first,
                (
                  row gb is_next,
                  subst (λ q. All Sound ((rewriting q b).rows (suc (suc (suc y))))) ea (rows-sound u sb ib (omega arith) (suc (suc (suc y)))),
                ),
              ),
            ),
          ),
        )

    -- ---- constraints

    line-sound : (p f : ℕ) (c : Constraint) → Holds N p (side_nodes p f c) → Stand L p (in_postfix (left_side c)) → Stand L (p + node_count (left_side c)) (in_postfix (right_side c)) → Fine (left_side c) → Fine (right_side c)
        → p + node_count (left_side c) + node_count (right_side c) ≤ nodes → (n : ℕ) → Sound ((line_at p c).own n) × All Sound ((line_at p c).adds.rows n)
    line-sound p f c hold ha hb ia ib l n =
        let left = postfix p f (left_side c) in
        let right = postfix (p + length left) (f + length (firsts (left_side c))) (right_side c) in
        let q = Holds-append N p left right hold in
        let t = postfix-stored N p f (left_side c) q.0 in
        let u = postfix-stored N (p + length left) (f + length (firsts (left_side c))) (right_side c) q.1 in
        let ea = stored-end t in
        let sb = subst (λ k. Stand L k (in_postfix (right_side c))) (sym ea) hb in
        let la : p + length left ≤ nodes = omega arith in
        let lb : p + length left + length right ≤ nodes = omega (arith, stored-end u) in
        let ga = subst Good ea (part_good t ha ia la) in
        let gb = subst Good (stored-end u ∙ ap (λ k. k + node_count (right_side c)) ea) (part_good u sb ib lb) in
        by-sides c l ga gb (rows-sound t ha ia la) (λ m. subst (λ k. All Sound ((rewriting k (right_side c)).rows m)) ea (rows-sound u sb ib lb m))
      where
        by-sides : (c : Constraint) → p + node_count (left_side c) + node_count (right_side c) ≤ nodes → Good (p + node_count (left_side c)) → Good (p + node_count (left_side c) + node_count (right_side c)) → ((m : ℕ) → All Sound ((rewriting p (left_side c)).rows m)) → ((m : ℕ) → All Sound ((rewriting (p + node_count (left_side c)) (right_side c)).rows m))
            → Sound ((line_at p c).own n) × All Sound ((line_at p c).adds.rows n)
        by-sides (always t a b) k ga gb ra rb =
            let w = always-line t (p + node_count a) (p + node_count a + node_count b) (rewriting p a) (rewriting (p + node_count a) b) in (
              subst (λ (m : Line). Sound (m.own n)) (sym w) (record { ends = refl; form = is_constraint (omega (arith, some-node a)) (omega (arith, some-node b)); source = omega arith; bounds = record { above = le_z_yes tt; below = le_z_yes tt } }),
              subst (λ (m : Line). All Sound (m.adds.rows n)) (sym w) ((All-append Sound ((rewriting p a).rows n) _).1 (ra n, rb (n + (rewriting p a).added))),
            )
        by-sides (until a b) k ga gb ra rb =
            let x = n + (rewriting p a).added in (
              row ga is_until,
              (All-append Sound ((rewriting p a).rows n) _).1 (ra n, (row ga (is_equation (omega (arith, some-node a))), (row gb (is_equation (omega (arith, some-node b))), rb (suc (suc x))))),
            )

    abbrev AllFine : List Constraint → Type 0
    AllFine cs = All (λ c. Fine (left_side c) × Fine (right_side c)) cs

    lines-sound : (p f n : ℕ) (cs : List Constraint) → Holds N p (all_nodes p f cs) → Stand L p (node_expressions cs) → AllFine cs → p + length (all_nodes p f cs) ≤ nodes
        → All Sound (own_rows n (rewriting_lines p cs)) × All Sound (added_rows n (rewriting_lines p cs))
    unfolding all_nodes rewriting_lines own_rows added_rows
    lines-sound p f n [] hold h fine l = (tt, tt)
    lines-sound p f n (c ∷ cs) hold h fine l =
        let side = side_nodes p f c in
        let rest = all_nodes (p + length side) (f + length (side_firsts c)) cs in
        let q = Holds-append N p side rest hold in
        let g = sides_stand L p c cs h in
        let e : p + length side ≡ p + node_count (left_side c) + node_count (right_side c) = omega (arith, side-count p f c) in
        let m = n + (line_at p c).adds.added in
        let z = length-append side rest in
        let one = line-sound p f c q.0 g.0 g.1 fine.0.0 fine.0.1 (omega arith) n in
        let more = lines-sound (p + length side) (f + length (side_firsts c)) m cs q.1 (subst (λ k. Stand L k (node_expressions cs)) (sym e) g.2) fine.1 (omega arith) in
        let more' = subst (λ k. All Sound (own_rows m (rewriting_lines k cs)) × All Sound (added_rows m (rewriting_lines k cs))) e more in
        ((one.0, more'.0), (All-append Sound ((line_at p c).adds.rows n) _).1 (one.1, more'.1))

    all_fine : AllFine s.constraints
    all_fine = member-All (λ c. Fine (left_side c) × Fine (right_side c)) s.constraints (λ c m.
        let k = ok.names_known c m in (
          record { below = k.left; bounds = member-All (λ f. InBounds (interval s.streams f)) (subexpressions (left_side c)) (λ f i. ok.intervals_in_bounds f (on_left m i)) },
          record { below = k.right; bounds = member-All (λ f. InBounds (interval s.streams f)) (subexpressions (right_side c)) (λ f i. ok.intervals_in_bounds f (on_right m i)) },
        ))

    pub sheet-sound : All Sound (normal_rows s)
    sheet-sound =
        let h = lines-sound 0 0 (length s.streams) s.constraints (sheet-holds s.constraints) (stand_self L) all_fine (omega arith) in
        (All-append Sound (own_rows (length s.streams) (rewriting_lines 0 s.constraints)) (added_rows (length s.streams) (rewriting_lines 0 s.constraints))).1 h
