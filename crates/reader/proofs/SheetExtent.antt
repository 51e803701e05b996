-- The extent of stored constraints' sides: the sides before a place of a loop, and that over the stored constraints of a sheet without refusals 4
-- and 5 it is refusal 6's test, D and B. From the summaries of stored expressions (nodes).
use Prim.Native.Nat.{ℕ, zero, suc, ◌+◌, ◌≤◌, ◌<◌, max}
use mathlib.Core.Path.{◌≡◌, refl, sym, ap, ap₂, subst, ◌∙◌}
use mathlib.Core.Bool.{Bool, true, false, not, cond, ◌&&◌, ◌||◌, and-true, true≢false}
use mathlib.Core.List.{List, [], ◌∷◌, ◌++◌, append-nil}
use native.Mathlib.Omega.{arith}
use lib.IntN.{ℤ, pos}
use Rattle.std.specs.Prelude.{Some, is_some}
use lib.ListN.{length, drop, get_or, drop_of_length-le, length-append}
use lib.Dec.{T}
use lib.Signed.{lt_z, lt_z_no, ◌≤ℤ◌}
use borrow.Author.Tests.{not-false}
use Rattle.basics.proofs.Lists.{All-get_or, All-map}
use Rattle.basics.specs.Lists.{All}
use Rattle.basics.proofs.Reflects.{reflects_same, from_true, reflects}
use Rattle.meaning.specs.Arithmetic.{Interval}
use Rattle.meaning.specs.Expression.{Expression, integer, Constraint, until, left_side, right_side, Stream, absent_stream, range_of, Sheet}
use Rattle.meaning.specs.Interval.{interval, subexpressions, NamesBelow, SidesBelow}
use Rattle.meaning.specs.Situation.{all}
use Rattle.meaning.specs.Window.{reach, firsts, largest_over, side_firsts, all_firsts, B, D}
use Rattle.meaning.proofs.Interval.{subexpressions-below}
use Rattle.text.specs.Token.{is_reserved}
use Rattle.sheet.specs.Form.{names_of}
use Rattle.sheet.specs.Reading.{any_of, are_distinct, sides_below, is_range_faulty, is_beyond, is_integer_beyond, all_expressions, in_bounds, refuses4, refuses5, refuses6}
use Rattle.sheet.proofs.Refusal.{sides_below_reflects, in_bounds_reflects}
use Rattle.nodes.specs.Postfix.{Node, postfix, side_nodes, all_nodes, StoredConstraint, stored_constraint, stored_constraints}
use Rattle.nodes.specs.Evaluate.{Nodes, nodes_of}
use Rattle.nodes.specs.Bounds.{node_summary, no_range, ends_in_bound, summary_of, lows_of, highs_of}
use Rattle.nodes.specs.declared.Summary.{Summary}
use Rattle.nodes.proofs.Postfix.{length-postfix, SidesAt, firsts_before, all_nodes-stored, sides-inside}
use Rattle.nodes.proofs.Bounds.{largest_over-append, node_summary-summary_of, in_bounds-ends, ends-in_bounds}
use Rattle.meaning.proofs.Interval.{interval-ordered}
use Rattle.parse.proofs.Trees.{any_of-append}
use Rattle.reader.specs.declared.Extent.{Extent}
use Rattle.reader.specs.Extent.{no_extent, with_summary, extent_from}
use Rattle.reader.specs.Stored.{lefts_of, rights_of}
use Rattle.reader.proofs.Elements.{drop-next}

module _ (N : Nodes) (lows highs : List ℤ) (x : Extent) (lefts rights : List ℕ) (i : ℕ) where
  pub extent-step : length rights ≡ length lefts → i < length lefts → {l r : Summary} {y z : Extent}
      → l ≡ node_summary N lows highs (get_or lefts i 0) → y ≡ with_summary x l → r ≡ node_summary N lows highs (get_or rights i 0) → z ≡ with_summary y r
      → extent_from N lows highs x (drop i lefts) (drop i rights) ≡ extent_from N lows highs z (drop (i + 1) lefts) (drop (i + 1) rights)
  extent-step same h p q p' q' =
      ap₂ (extent_from N lows highs x) (drop-next lefts i 0 h) (drop-next rights i 0 (omega arith))
      ∙ ap (λ v. extent_from N lows highs v (drop (i + 1) lefts) (drop (i + 1) rights)) (sym (q' ∙ ap₂ with_summary (q ∙ ap (with_summary x) p) p'))

  pub extent-end : length lefts ≤ i → extent_from N lows highs x (drop i lefts) (drop i rights) ≡ x
  extent-end h = ap (λ ls. extent_from N lows highs x ls (drop i rights)) (drop_of_length-le lefts h)

-- ---- tests of lists

or_none : (a b : Bool) → a || b ≡ false → (a ≡ false) × (b ≡ false)
or_none false b e = (refl, e)
or_none true b e = absurd (true≢false e)

none-All : {X : Type 0} (f : X → Bool) (xs : List X) → any_of f xs ≡ false → All (λ x. f x ≡ false) xs
none-All f [] e = tt
none-All f (x ∷ xs) e = let p = or_none (f x) (any_of f xs) e in (p.0, none-All f xs p.1)

-- ---- what refusals 4 and 5 leave

sides-known : (s : Sheet) → refuses4 s ≡ false → All (SidesBelow (length s.streams)) s.constraints
unfolding refuses4
sides-known s e =
    let n = length s.streams in
    let unknown : Constraint → Bool = λ c. not (sides_below n c) in
    let names = names_of s.streams in
    let none = none-All unknown s.constraints (or_none (not (are_distinct names) || any_of is_reserved names) (any_of unknown s.constraints) e).1 in
    All-map s.constraints (λ c q. from_true (sides_below_reflects n c) (not-false (sides_below n c) q)) none

ranges_ordered : (s : Sheet) → refuses5 s ≡ false → (k : ℕ) → k < length s.streams → (range_of s.streams k).low ≤ℤ (range_of s.streams k).high
unfolding refuses5
ranges_ordered s e k h =
    let ss = s.streams in
    let none = none-All is_range_faulty ss (or_none (any_of is_range_faulty ss) (any_of is_integer_beyond (all_expressions s.constraints)) e).0 in
    let fine = All-get_or (λ x. is_range_faulty x ≡ false) ss none k absent_stream h in
    let r = range_of ss k in
    lt_z_no (subst (λ b. T (not b)) (sym (or_none (is_beyond r.low || is_beyond r.high) (lt_z r.high r.low) fine).1) tt)

-- ---- intervals within the bound

both-not : (a b : Bool) → a && not b ≡ not (not a || b)
both-not true b = refl
both-not false b = refl

ok-is : (b : Bool) (I : Interval) → is_some (cond b (Some (record { low = I.low; high = I.high })) no_range) ≡ b
ok-is true I = refl
ok-is false I = refl

ends_same : (I : Interval) → I.low ≤ℤ I.high → ends_in_bound I ≡ in_bounds I
ends_same I h = reflects_same (reflects (ends_in_bound I) (λ e. e) (λ e q. true≢false (sym q ∙ e))) (in_bounds_reflects I) (ends-in_bounds I) (in_bounds-ends I h)

-- Maxima in another order.
max_in : (a b c : ℕ) → max a (max b c) ≡ max (max b a) c
max_in a b c = omega arith

max-pairs : (a b c d : ℕ) → max (max a b) (max c d) ≡ max (max a c) (max b d)
max-pairs a b c d = omega arith

-- A side's reach r and the reach f of its firsts, joined with what others have.
max-side : (r f l m n : ℕ) → max (max l m) (max (max r f) n) ≡ max (max (max r l) (max f m)) n
max-side r f l m n = max_in (max l m) (max r f) n ∙ ap (λ k. max k n) (max-pairs r f l m)

extent-path : {x y : Extent} → x.ok ≡ y.ok → x.ahead ≡ y.ahead → x.back ≡ y.back → x ≡ y
extent-path {x} {y} p q r =
    ap (λ o. record { ok = o; ahead = x.ahead; back = x.back }) p ∙ ap₂ (λ a b. record { ok = y.ok; ahead = a; back = b }) q r

-- ---- the extent of constraints

module _ (ss : List Stream) (ordered : (k : ℕ) → k < length ss → (range_of ss k).low ≤ℤ (range_of ss k).high) where
  -- "an expression's interval leaves ±1,000,000,000"
  abbrev leaves : Expression → Bool
  leaves e = not (in_bounds (interval ss e))

  all-inside : (es : List Expression) → All (NamesBelow (length ss)) es → all (λ f. ends_in_bound (interval ss f)) es ≡ not (any_of leaves es)
  all-inside [] h = refl
  all-inside (e ∷ es) h =
      ap₂ ◌&&◌ (ends_same (interval ss e) (interval-ordered ss ordered e h.0)) (all-inside es h.1) ∙ both-not (in_bounds (interval ss e)) (any_of leaves es)

  side-ok : (e : Expression) → NamesBelow (length ss) e → is_some (summary_of ss e).range ≡ not (any_of leaves (subexpressions e))
  side-ok e n = ok-is (all (λ f. ends_in_bound (interval ss f)) (subexpressions e)) (interval ss e) ∙ all-inside (subexpressions e) (subexpressions-below (length ss) e n)

  -- The extent after these constraints.
  abbrev extent_after : Extent → List Constraint → Extent
  extent_after x cs = record { ok = x.ok && not (any_of leaves (all_expressions cs)); ahead = max (D cs) x.ahead; back = max (B cs) x.back }

  one_more : (x : Extent) (c : Constraint) (cs : List Constraint) → SidesBelow (length ss) c
      → extent_after (with_summary (with_summary x (summary_of ss (left_side c))) (summary_of ss (right_side c))) cs ≡ extent_after x (c ∷ cs)
  unfolding D B
  one_more x c cs n =
      let l = left_side c in
      let r = right_side c in
      let rest = all_expressions cs in
      let a = any_of leaves (subexpressions l) in
      let b = any_of leaves (subexpressions r) in
      let joined : any_of leaves (all_expressions (c ∷ cs)) ≡ a || b || any_of leaves rest = any_of-append leaves (subexpressions l ++ subexpressions r) rest ∙ ap (λ t. t || any_of leaves rest) (any_of-append leaves (subexpressions l) (subexpressions r)) in
      let fl = largest_over reach (firsts l) in
      let fr = largest_over reach (firsts r) in
      let rests = largest_over reach (all_firsts cs) in
      let largest = largest_over (λ d. max (reach (left_side d)) (reach (right_side d))) cs in
      let reaches : max (reach l) (max (reach r) largest) ≡ max (max (reach l) (reach r)) largest = omega arith in
      let many : max fl (max fr rests) ≡ largest_over reach (all_firsts (c ∷ cs)) = omega (arith, largest_over-append (firsts l) (firsts r), largest_over-append (side_firsts c) (all_firsts cs)) in
      extent-path
      (ap₂ (λ p q. x.ok && p && q && not (any_of leaves rest)) (side-ok l n.left) (side-ok r n.right) ∙ none x.ok a b (any_of leaves rest) ∙ sym (ap (λ t. x.ok && not t) joined))
      (max-side (reach r) fr largest rests (max (max (reach l) fl) x.ahead) ∙ max-side (reach l) fl (max (reach r) largest) (max fr rests) x.ahead ∙ ap₂ (λ p q. max (max p q) x.ahead) reaches many)
      (omega arith)
    where
      none : (o a b d : Bool) → o && not a && not b && not d ≡ o && not (a || b || d)
      none false a b d = refl
      none true true b d = refl
      none true false true d = refl
      none true false false d = refl

  module _ (N : Nodes) (c₀ : Constraint) (t₀ : StoredConstraint) where
    -- The places of a stored constraint are those of a constraint's sides.
    abbrev Shows : Constraint → StoredConstraint → Type 0
    Shows c t = (node_summary N (lows_of ss) (highs_of ss) t.left ≡ summary_of ss (left_side c)) × (node_summary N (lows_of ss) (highs_of ss) t.right ≡ summary_of ss (right_side c))

    extent-after : (x : Extent) (n f : ℕ) (cs : List Constraint) → All (SidesBelow (length ss)) cs → ((j : ℕ) → j < length cs → Shows (get_or cs j c₀) (get_or (stored_constraints n f cs) j t₀))
        → extent_from N (lows_of ss) (highs_of ss) x (lefts_of (stored_constraints n f cs)) (rights_of (stored_constraints n f cs)) ≡ extent_after x cs
    unfolding stored_constraints D B
    extent-after x n f [] k h = extent-path (sym (and-true x.ok)) (omega arith) (omega arith)
    extent-after x n f (c ∷ cs) k h =
        let here = h 0 (omega arith) in
        let t = stored_constraint n f c in
        extent-after (with_summary (with_summary x (node_summary N (lows_of ss) (highs_of ss) t.left)) (node_summary N (lows_of ss) (highs_of ss) t.right)) (n + length (side_nodes n f c)) (f + length (side_firsts c)) cs k.1
        (λ j b. h (suc j) (omega arith))
        ∙ ap₂ (λ l r. extent_after (with_summary (with_summary x l) r) cs) here.0 here.1 ∙ one_more x c cs k.0

-- ---- the extent of a sheet's stored constraints

-- A constraint has no more nodes than all of them together.
side-count : (c₀ : Constraint) (n f : ℕ) (cs : List Constraint) (j : ℕ) → j < length cs
    → length (subexpressions (left_side (get_or cs j c₀))) + length (subexpressions (right_side (get_or cs j c₀))) ≤ length (all_nodes n f cs)
unfolding all_nodes
side-count c₀ n f [] j h = absurd (omega arith)
side-count c₀ n f (c ∷ cs) zero h =
    let l = postfix n f (left_side c) in
    let r = postfix (n + length l) (f + length (firsts (left_side c))) (right_side c) in
    omega (arith, length-append (l ++ r) (all_nodes (n + length (l ++ r)) (f + length (side_firsts c)) cs), length-append l r, length-postfix n f (left_side c), length-postfix (n + length l) (f + length (firsts (left_side c))) (right_side c))
side-count c₀ n f (c ∷ cs) (suc j) h =
    let l = side_nodes n f c in
    omega (arith, side-count c₀ (n + length l) (f + length (side_firsts c)) cs j (omega arith), length-append l (all_nodes (n + length l) (f + length (side_firsts c)) cs))

-- "6: an expression's interval leaves ±1,000,000,000", D and B, of a sheet whose names are known and whose ranges and integers are within the bound.
pub extent-sheet : (s : Sheet) → refuses4 s ≡ false → refuses5 s ≡ false → length (all_nodes 0 0 s.constraints) ≤ 1024
    → extent_from (nodes_of (all_nodes 0 0 s.constraints)) (lows_of s.streams) (highs_of s.streams) no_extent (lefts_of (stored_constraints 0 0 s.constraints)) (rights_of (stored_constraints 0 0 s.constraints))
    ≡ record { ok = not (refuses6 s); ahead = D s.constraints; back = B s.constraints }
unfolding refuses6
extent-sheet s e₄ e₅ few =
    extent-after ss (ranges_ordered s e₅) (nodes_of nodes) c₀ t₀ no_extent 0 0 cs known shows
    ∙ extent-path refl (omega arith) (omega arith)
  where
    ss : List Stream
    ss = s.streams

    cs : List Constraint
    cs = s.constraints

    nodes : List Node
    nodes = all_nodes 0 0 cs

    c₀ : Constraint
    c₀ = until (integer (pos 0)) (integer (pos 0))

    t₀ : StoredConstraint
    t₀ = record { relation = 0; left = 0; right = 0 }

    known : All (SidesBelow (length ss)) cs
    known = sides-known s e₄

    shows : (j : ℕ) → j < length cs → Shows ss (ranges_ordered s e₅) (nodes_of nodes) c₀ t₀ (get_or cs j c₀) (get_or (stored_constraints 0 0 cs) j t₀)
    shows j b =
        let st = subst (λ l. SidesAt (nodes_of l) (firsts_before 0 cs j) (get_or cs j c₀) (get_or (stored_constraints 0 0 cs) j t₀)) (append-nil nodes) (all_nodes-stored cs [] c₀ t₀ j b) in
        let inside = sides-inside c₀ t₀ cs j b in
        let names = All-get_or (SidesBelow (length ss)) cs known j c₀ b in
        let count = side-count c₀ 0 0 cs j b in
        (node_summary-summary_of ss nodes st.left inside.0 names.left (omega arith), node_summary-summary_of ss nodes st.right inside.1 names.right (omega arith))
