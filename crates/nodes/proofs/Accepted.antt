-- The nodes of an accepted sheet have the values of the sheet's sides: the intervals of all subexpressions are within the bound, and every number lies
-- in its interval.
use Prim.Native.Nat.{ℕ, zero, suc, ◌+◌, ◌-◌, ◌≤◌, ◌<◌, min}
use native.Mathlib.Omega.{arith}
use native.Mathlib.Nat.{not-suc-le-zero}
use mathlib.Core.Path.{◌≡◌, sym, ◌∙◌, ap, subst}
use mathlib.Core.Bool.{true, false}
use mathlib.Core.List.{List, [], ◌∷◌, ◌++◌, map}
use lib.Dec.{leb→le}
use lib.IntN.{ℤ, pos, negsuc, neg_ℤ}
use lib.ListN.{length, get_or, length-append}
use lib.Signed.{◌≤ℤ◌, ≤ℤ_refl}
use Rattle.basics.proofs.Lists.{All-append, member-All}
use Rattle.basics.specs.Lists.{All}
use Rattle.meaning.specs.Value.{Value, absent, number, Streams}
use Rattle.meaning.specs.Arithmetic.{Interval, Within, AnyWithin}
use Rattle.meaning.specs.Expression.{Expression, integer, name, first, next, negation, binary, conditional, fby, Constraint, left_side, right_side, Stream, Sheet, range_of, value}
use Rattle.meaning.specs.Interval.{interval, subexpressions, NamesBelow}
use Rattle.meaning.specs.Window.{reach, back, firsts}
use Rattle.meaning.specs.Evaluation.{window_value}
use Rattle.meaning.proofs.Arithmetic.{negated-within, any_right, hull-chosen, operator-within}
use Rattle.meaning.proofs.Order.{≤ℤ_trans}
use Rattle.meaning.proofs.Interval.{interval-sound}
use Rattle.meaning.proofs.Facts.{get_or-member}
use Rattle.meaning.proofs.Window.{value-near}
use Rattle.sheet.specs.Refusal.{magnitude_bound, on_left, on_right, InBounds}
use Rattle.sheet.specs.Accepted.{Accepted}
use Rattle.nodes.specs.Postfix.{Node, StoredConstraint, all_nodes, stored_constraints}
use Rattle.nodes.specs.Bounded.{Small, SmallValue, value_in, stored_value}
use Rattle.nodes.specs.Evaluate.{nodes_of, View, places, node_value}
use Rattle.nodes.proofs.Postfix.{StoredAt, firsts_before, all_nodes-stored, sides-inside}
use Rattle.nodes.proofs.Meaning.{Shows, Met, WindowMet, node_value-value, node_value-window_value}

-- ---- intervals within the bound

between-small : (x : ℤ) → neg_ℤ (pos magnitude_bound) ≤ℤ x → x ≤ℤ pos magnitude_bound → Small x
between-small (pos n) h k = leb→le n magnitude_bound k.le
between-small (negsuc n) h k = let l = leb→le n 999999999 h.le in omega arith

-- A value in an interval within the bound is within the bound.
pub in_bounds-small : {I : Interval} {x : ℤ} → InBounds I → Within I x → Small x
in_bounds-small {I} {x} b h = between-small x (≤ℤ_trans b.above h.above) (≤ℤ_trans h.below b.below)

pub any_small : {I : Interval} (x : Value) → InBounds I → AnyWithin I x → SmallValue x
any_small absent b h = tt
any_small {I} (number z) b h = in_bounds-small {I = I} b h

-- ---- a course of values within the streams' ranges

module _ (ss : List Stream) where
  -- Every subexpression's interval is within the bound.
  abbrev pub AllInBounds : Expression → Type 0
  AllInBounds e = All (λ f. InBounds (interval ss f)) (subexpressions e)

  module _ (w : Streams) (ranged : (k i : ℕ) → k < length ss → Within (range_of ss k) (w k i)) where
    pub whole-met : (e : Expression) (i : ℕ) → NamesBelow (length ss) e → AllInBounds e → Met w e i
    unfolding subexpressions interval
    whole-met (integer z) i n b = in_bounds-small {I = record { low = z; high = z }} b.0 (record { above = ≤ℤ_refl z; below = ≤ℤ_refl z })
    whole-met (name k) i n b = in_bounds-small {I = range_of ss k} b.0 (ranged k i n)
    whole-met (first e) i n b = whole-met e 0 n b.1
    whole-met (next e) i n b = whole-met e (suc i) n b.1
    whole-met (negation e) i n b = whole-met e i n b.1
    whole-met (binary o x y) i n b =
        let p = (All-append (λ f. InBounds (interval ss f)) (subexpressions x) (subexpressions y)).0 b.1 in
        let met = any_small {I = interval ss (binary o x y)} (value w (binary o x y) i) b.0 (interval-sound ss w ranged (binary o x y) n i) in
        (whole-met x i n.0 p.0, whole-met y i n.1 p.1, met)
    whole-met (conditional c x y) i n b =
        let p = (All-append (λ f. InBounds (interval ss f)) (subexpressions c) (subexpressions x ++ subexpressions y)).0 b.1 in
        let q = (All-append (λ f. InBounds (interval ss f)) (subexpressions x) (subexpressions y)).0 p.1 in
        (whole-met c i n.0 p.0, whole-met x i n.1 q.0, whole-met y i n.2 q.1)
    whole-met (fby x y) zero n b = whole-met x 0 n.0 ((All-append (λ f. InBounds (interval ss f)) (subexpressions x) (subexpressions y)).0 b.1).0
    whole-met (fby x y) (suc i) n b = whole-met y i n.1 ((All-append (λ f. InBounds (interval ss f)) (subexpressions x) (subexpressions y)).0 b.1).1

  -- The stored values from the number f on, where they are numbers, lie in the intervals of what the firsts stand before.
  abbrev pub FirstsWithin : List Value → ℕ → List Expression → Type 0
  FirstsWithin stored f [] = Unit
  FirstsWithin stored f (e ∷ es) = AnyWithin (interval ss e) (get_or stored f absent) × FirstsWithin stored (suc f) es

  firsts_within_append : (stored : List Value) (f : ℕ) (xs ys : List Expression) → FirstsWithin stored f (xs ++ ys) → FirstsWithin stored f xs × FirstsWithin stored (f + length xs) ys
  firsts_within_append stored f [] ys h = (tt, subst (λ k. FirstsWithin stored k ys) (omega arith) h)
  firsts_within_append stored f (x ∷ xs) ys h =
      let r = firsts_within_append stored (suc f) xs ys h.1 in
      ((h.0, r.0), subst (λ k. FirstsWithin stored k ys) (omega arith) r.1)

  -- In a window whose first `count` letters are within the ranges, from the place `back` on.
  module _ (w : Streams) (stored : List Value) (count : ℕ) (ranged : (k i : ℕ) → k < length ss → i < count → Within (range_of ss k) (w k i)) where
    window-within : (e : Expression) (f i : ℕ) → NamesBelow (length ss) e → back e ≤ i → i + reach e < count → FirstsWithin stored f (firsts e) → AnyWithin (interval ss e) (window_value w stored f e i)
    unfolding interval window_value back reach firsts
    window-within (integer z) f i n b r s = record { above = ≤ℤ_refl z; below = ≤ℤ_refl z }
    window-within (name k) f i n b r s = ranged k i n (omega arith)
    window-within (first e) f i n b r s = s.0
    window-within (next e) f i n b r s = window-within e f (suc i) n (omega arith) (omega arith) s
    window-within (negation e) f i n b r s = negated-within (window_value w stored f e i)
    window-within (binary o x y) f i n b r s =
        let p = firsts_within_append stored f (firsts x) (firsts y) s in
        operator-within o (interval ss x) (interval ss y) (window_value w stored f x i) (window_value w stored (f + length (firsts x)) y i)
        (window-within x f i n.0 (omega arith) (omega arith) p.0)
        (window-within y (f + length (firsts x)) i n.1 (omega arith) (omega arith) p.1)
    window-within (conditional c x y) f i n b r s =
        let p = firsts_within_append stored f (firsts c) (firsts x ++ firsts y) s in
        let q = firsts_within_append stored (f + length (firsts c)) (firsts x) (firsts y) p.1 in
        hull-chosen (window_value w stored f c i) (interval ss x) (interval ss y) (window_value w stored (f + length (firsts c)) x i)
        (window_value w stored (f + length (firsts c) + length (firsts x)) y i)
        (window-within x (f + length (firsts c)) i n.1 (omega arith) (omega arith) q.0)
        (window-within y (f + length (firsts c) + length (firsts x)) i n.2 (omega arith) (omega arith) q.1)
    window-within (fby x y) f zero n b r s = absurd (not-suc-le-zero b)
    window-within (fby x y) f (suc i) n b r s =
        let p = firsts_within_append stored f (firsts x) (firsts y) s in
        any_right (interval ss x) (interval ss y) (window_value w stored (f + length (firsts x)) y i)
        (window-within y (f + length (firsts x)) i n.1 (omega arith) (omega arith) p.1)

    window-met : (e : Expression) (f i : ℕ) → NamesBelow (length ss) e → AllInBounds e → back e ≤ i → i + reach e < count → FirstsWithin stored f (firsts e) → WindowMet w stored f e i
    unfolding subexpressions interval back reach firsts
    window-met (integer z) f i n b k r s = in_bounds-small {I = record { low = z; high = z }} b.0 (record { above = ≤ℤ_refl z; below = ≤ℤ_refl z })
    window-met (name k) f i n b l r s = in_bounds-small {I = range_of ss k} b.0 (ranged k i n (omega arith))
    window-met (first e) f i n b k r s = any_small {I = interval ss e} (get_or stored f absent) b.0 s.0
    window-met (next e) f i n b k r s = window-met e f (suc i) n b.1 (omega arith) (omega arith) s
    window-met (negation e) f i n b k r s = window-met e f i n b.1 k r s
    window-met (binary o x y) f i n b k r s =
        let p = (All-append (λ f. InBounds (interval ss f)) (subexpressions x) (subexpressions y)).0 b.1 in
        let q = firsts_within_append stored f (firsts x) (firsts y) s in (
          window-met x f i n.0 p.0 (omega arith) (omega arith) q.0,
          window-met y (f + length (firsts x)) i n.1 p.1 (omega arith) (omega arith) q.1,
          any_small {I = interval ss (binary o x y)} (window_value w stored f (binary o x y) i) b.0 (window-within (binary o x y) f i n k r s),
        )
    window-met (conditional c x y) f i n b k r s =
        let p = (All-append (λ f. InBounds (interval ss f)) (subexpressions c) (subexpressions x ++ subexpressions y)).0 b.1 in
        let q = (All-append (λ f. InBounds (interval ss f)) (subexpressions x) (subexpressions y)).0 p.1 in
        let u = firsts_within_append stored f (firsts c) (firsts x ++ firsts y) s in
        let v = firsts_within_append stored (f + length (firsts c)) (firsts x) (firsts y) u.1 in (
          window-met c f i n.0 p.0 (omega arith) (omega arith) u.0,
          window-met x (f + length (firsts c)) i n.1 q.0 (omega arith) (omega arith) v.0,
          window-met y (f + length (firsts c) + length (firsts x)) i n.2 q.1 (omega arith) (omega arith) v.1,
        )
    window-met (fby x y) f zero n b k r s = absurd (not-suc-le-zero k)
    window-met (fby x y) f (suc i) n b k r s =
        let p = (All-append (λ f. InBounds (interval ss f)) (subexpressions x) (subexpressions y)).0 b.1 in
        window-met y (f + length (firsts x)) i n.1 p.1 (omega arith) (omega arith) (firsts_within_append stored f (firsts x) (firsts y) s).1

-- The course that stays at the last of `count` letters. Its values at their places are those of w.
module _ (w : Streams) (count : ℕ) where
  pub lasting : Streams
  lasting k i = w k (min i (count - 1))

  pub lasting_same : (k i : ℕ) → i < count → lasting k i ≡ w k i
  unfolding lasting
  lasting_same k i h = let e : min i (count - 1) ≡ i = omega arith in ap (w k) e

  pub lasting_ranged : (ss : List Stream) → ((k i : ℕ) → k < length ss → i < count → Within (range_of ss k) (w k i)) → 0 < count → (k i : ℕ) → k < length ss → Within (range_of ss k) (lasting k i)
  unfolding lasting
  lasting_ranged ss ranged h k i b = ranged k (min i (count - 1)) b (omega arith)

-- ---- the sides of an accepted sheet's constraints

-- A side of a constraint, the place of its last node, and the number of its first `first`. The defaults beyond the lists are never asked for.
pub data IsSide (cs : List Constraint) (c₀ : Constraint) (t₀ : StoredConstraint) : Expression → ℕ → ℕ → Type 0 where
  left_of : (j : ℕ) → j < length cs → IsSide cs c₀ t₀ (left_side (get_or cs j c₀)) (get_or (stored_constraints 0 0 cs) j t₀).left (firsts_before 0 cs j)
  right_of : (j : ℕ) → j < length cs
      → IsSide cs c₀ t₀ (right_side (get_or cs j c₀)) (get_or (stored_constraints 0 0 cs) j t₀).right (firsts_before 0 cs j + length (firsts (left_side (get_or cs j c₀))))

-- What is known of such a side, whatever nodes stand behind the sheet's.
record KnownNode (s : Sheet) (behind : List Node) (e : Expression) (i f : ℕ) : Type 0 where
  start : ℕ
  stored : StoredAt (nodes_of (all_nodes 0 0 s.constraints ++ behind)) start f e (suc i)
  inside : i < length (all_nodes 0 0 s.constraints ++ behind)
  names : NamesBelow (length s.streams) e
  bounds : All (λ f. InBounds (interval s.streams f)) (subexpressions e)

known : {s : Sheet} (behind : List Node) (c₀ : Constraint) (t₀ : StoredConstraint) {e : Expression} {i f : ℕ} → Accepted s → IsSide s.constraints c₀ t₀ e i f
    → KnownNode s behind e i f
known {s} behind c₀ t₀ a (left_of j b) =
    let m = get_or-member s.constraints j c₀ b in
    let t = all_nodes-stored s.constraints behind c₀ t₀ j b in
    record {
      start = t.left_start;
      stored = t.left;
      inside = omega (arith, (sides-inside c₀ t₀ s.constraints j b).0, length-append (all_nodes 0 0 s.constraints) behind);
      names = (a.names_known (get_or s.constraints j c₀) m).left;
      bounds = member-All _ (subexpressions (left_side (get_or s.constraints j c₀))) (λ f n. a.intervals_in_bounds f (on_left m n));
    }
known {s} behind c₀ t₀ a (right_of j b) =
    let m = get_or-member s.constraints j c₀ b in
    let t = all_nodes-stored s.constraints behind c₀ t₀ j b in
    record {
      start = suc (get_or (stored_constraints 0 0 s.constraints) j t₀).left;
      stored = t.right;
      inside = omega (arith, (sides-inside c₀ t₀ s.constraints j b).1, length-append (all_nodes 0 0 s.constraints) behind);
      names = (a.names_known (get_or s.constraints j c₀) m).right;
      bounds = member-All _ (subexpressions (right_side (get_or s.constraints j c₀))) (λ f n. a.intervals_in_bounds f (on_right m n));
    }

-- The window shows letters of the sheet: w has their values, each in its stream's range.
pub record Letters (ss : List Stream) (W : View) (w : Streams) : Type 0 where
  pub count : W.streams ≡ length ss
  pub shows : Shows W w
  pub ranged : (k i : ℕ) → k < length ss → i < places W → Within (range_of ss k) (w k i)

module _ (s : Sheet) (accepted : Accepted s) (W : View) (w : Streams) (letters : Letters s.streams W w) (behind : List Node) (c₀ : Constraint) (t₀ : StoredConstraint) where
  -- In a whole record a side has its value, wherever the record has the letters that the side looks at.
  pub accepted_value : {e : Expression} {i f : ℕ} → IsSide s.constraints c₀ t₀ e i f → W.whole ≡ true → (p : ℕ) → p + reach e < places W
      → value_in (node_value (nodes_of (all_nodes 0 0 s.constraints ++ behind)) W i p) ≡ value w e p
  accepted_value {e} {i} {f} side whole p r =
      let k = known behind c₀ t₀ accepted side in
      let n = subst (λ m. NamesBelow m e) (sym letters.count) k.names in
      node_value-value (all_nodes 0 0 s.constraints ++ behind) W (lasting w (places W)) (λ k q b h. letters.shows k q b h ∙ sym (lasting_same w (places W) k q h)) p e k.stored k.inside whole n r
      (whole-met s.streams (lasting w (places W)) (lasting_ranged w (places W) s.streams letters.ranged (omega arith)) e p k.names k.bounds)
      ∙ value-near (lasting w (places W)) w (places W) (lasting_same w (places W)) e p r

  -- In a window with stored first values a side has its value there, from the place `back` on.
  pub accepted_window_value : {e : Expression} {i f : ℕ} → IsSide s.constraints c₀ t₀ e i f → W.whole ≡ false → (p : ℕ) → back e ≤ p → p + reach e < places W
      → f + length (firsts e) ≤ length W.firsts → FirstsWithin s.streams (map stored_value W.firsts) f (firsts e)
      → value_in (node_value (nodes_of (all_nodes 0 0 s.constraints ++ behind)) W i p) ≡ window_value w (map stored_value W.firsts) f e p
  accepted_window_value {e} {i} {f} side whole p b r l h =
      let k = known behind c₀ t₀ accepted side in
      let n = subst (λ m. NamesBelow m e) (sym letters.count) k.names in
      node_value-window_value (all_nodes 0 0 s.constraints ++ behind) W w letters.shows p e k.stored k.inside whole n r l
      (window-met s.streams w (map stored_value W.firsts) (places W) letters.ranged e f p k.names k.bounds b r h)
