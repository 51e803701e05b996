-- The kinds of rows: those of the rewritten constraints are 1 and 2, those of the added entries 3 to 5. From how the rows are made.
use Prim.Native.Nat.{ℕ, suc, ◌+◌, ◌≤◌}
use native.Mathlib.Omega.{arith}
use mathlib.Core.Bool.{Bool, true, false, cond}
use mathlib.Core.List.{List, [], ◌∷◌}
use lib.Dec.{eqb}
use Rattle.basics.specs.Lists.{All}
use Rattle.basics.proofs.Lists.{All-append}
use Rattle.meaning.specs.Expression.{Expression, integer, name, first, next, negation, binary, conditional, fby, Constraint, left_side, right_side}
use Rattle.nodes.specs.Code.{relation_code}
use Rattle.spans.specs.Postfix.{node_count}
use Rattle.normal_entries.specs.Row.{Row}
use Rattle.normal.specs.Rows.{Rewriting, rewriting, until_line, always_line, line_at, rewriting_lines, own_rows, added_rows}

-- The row of a rewritten constraint, and that of an added entry.
abbrev pub IsLine : Row → Type 0
IsLine r = r.kind ≤ 2

abbrev pub IsAdded : Row → Type 0
IsAdded r = 3 ≤ r.kind

rows-added : (p : ℕ) (e : Expression) (n : ℕ) → All IsAdded ((rewriting p e).rows n)
unfolding rewriting
rows-added p (integer z) n = tt
rows-added p (name k) n = tt
rows-added p (first e) n = rows-added p e n
rows-added p (next e) n = (omega arith, (omega arith, rows-added p e (suc (suc n))))
rows-added p (negation e) n = rows-added p e n
rows-added p (binary o a b) n = (All-append IsAdded ((rewriting p a).rows n) _).1 (rows-added p a n, rows-added (p + node_count a) b _)
rows-added p (conditional c a b) n =
    (All-append IsAdded ((rewriting p c).rows n) _).1
    (rows-added p c n, (All-append IsAdded ((rewriting (p + node_count c) a).rows _) _).1 (rows-added (p + node_count c) a _, rows-added (p + node_count c + node_count a) b _))
rows-added p (fby a b) n =
    (All-append IsAdded ((rewriting p a).rows n) _).1 (rows-added p a n, (omega arith, (omega arith, (omega arith, (omega arith, rows-added (p + node_count a) b _)))))

-- The line with one of the signs or with `until`.
module _ (relation l r : ℕ) (a b : Rewriting) (n : ℕ) where
  own-kind : (u : Bool) → IsLine ((cond u (until_line l r a b) (always_line relation l r a b)).own n)
  own-kind true = omega arith
  own-kind false = omega arith

  adds-kinds : ((m : ℕ) → All IsAdded (a.rows m)) → ((m : ℕ) → All IsAdded (b.rows m)) → (u : Bool) → All IsAdded ((cond u (until_line l r a b) (always_line relation l r a b)).adds.rows n)
  adds-kinds f g true = (All-append IsAdded (a.rows n) _).1 (f n, (omega arith, (omega arith, g _)))
  adds-kinds f g false = (All-append IsAdded (a.rows n) _).1 (f n, g _)

-- The line of a constraint.
module _ (p : ℕ) (c : Constraint) (n : ℕ) where
  abbrev l : ℕ
  l = p + node_count (left_side c)

  own_line : IsLine ((line_at p c).own n)
  own_line = own-kind (relation_code c) l (l + node_count (right_side c)) (rewriting p (left_side c)) (rewriting l (right_side c)) n (eqb (relation_code c) 7)

  adds-line : All IsAdded ((line_at p c).adds.rows n)
  adds-line =
      adds-kinds (relation_code c) l (l + node_count (right_side c)) (rewriting p (left_side c)) (rewriting l (right_side c)) n
      (rows-added p (left_side c)) (rows-added l (right_side c)) (eqb (relation_code c) 7)

pub own-lines : (p n : ℕ) (cs : List Constraint) → All IsLine (own_rows n (rewriting_lines p cs))
unfolding rewriting_lines own_rows
own-lines p n [] = tt
own-lines p n (c ∷ cs) = (own_line p c n, own-lines (p + node_count (left_side c) + node_count (right_side c)) _ cs)

pub adds-added : (p n : ℕ) (cs : List Constraint) → All IsAdded (added_rows n (rewriting_lines p cs))
unfolding rewriting_lines added_rows
adds-added p n [] = tt
adds-added p n (c ∷ cs) = (All-append IsAdded ((line_at p c).adds.rows n) _).1 (adds-line p c n, adds-added (p + node_count (left_side c) + node_count (right_side c)) _ cs)
