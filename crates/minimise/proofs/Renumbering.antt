-- The classes in the order of their first rows are the states in the order in which they are first met. The graph's nodes are
-- numbered as they are first met, so the place that first meets the first row of a class is in the first row of its own class:
-- an earlier row of that class would have met the class before. And no earlier place leads to the class.
use mathlib.Core.Path.{◌≡◌, sym, ap, ◌∙◌}
use mathlib.Core.Logic.{inl, inr, ◌≢◌}
use mathlib.Core.List.{List}
use Prim.Native.Nat.{ℕ, suc, ◌-◌, ◌<◌}
use native.Mathlib.Omega.{arith}
use native.Mathlib.Decide.{ℕ_discrete, dec_lt}
use lib.Dec.{T}
use lib.ListN.{get_or, length}
use Rattle.automaton.specs.Table.{no_state, Before, FirstMet, IsFlag}
use Rattle.automaton.specs.Stored.{entry_at, final_at}
use Rattle.automaton.specs.Graph.{Member, IsNodeEntry, IsNumbering}
use Rattle.marks.specs.Marks.{Marked}
use Rattle.marks.proofs.Laws.{marked-inside}
use Rattle.marks.specs.Tests.{is_marked}
use Rattle.refine.specs.Classes.{IsNamed}
use Rattle.marks.proofs.Tests.{marked-test, test-marked}
use Rattle.stored_graph.specs.StoredGraph.{IsStoredGraph, stored_graph}
use Rattle.minimise.specs.Compacting.{IsNumbered, IsCompacted}
use Rattle.minimise.proofs.Compacting.{first-least}

-- the numbers of first rows, compared

module _ {class number first : List ℕ} {r n : ℕ} (N : IsNumbered class number first r n) where
  first-order : (i j : ℕ) → i < n → j < n → get_or first i 0 < get_or first j 0 → i < j
  first-order i j hi hj h = go (dec_lt i j) (dec_lt j i)
    where
      go : Dec (i < j) → Dec (j < i) → i < j
      go (yes q) d = q
      go (no q) (yes p) = absurd (omega (arith, N.rising j i p hi))
      go (no q) (no p) = let e : i ≡ j = omega arith in absurd (omega (arith, ap (λ x. get_or first x 0) e))

  first_injective : (i j : ℕ) → i < n → j < n → get_or first i 0 ≡ get_or first j 0 → i ≡ j
  first_injective i j hi hj e = go (dec_lt i j) (dec_lt j i)
    where
      go : Dec (i < j) → Dec (j < i) → i ≡ j
      go (yes q) d = absurd (omega (arith, N.rising i j q hj))
      go (no q) (yes p) = absurd (omega (arith, N.rising j i p hi))
      go (no q) (no p) = omega arith

module _ {entries flags : List ℕ} {letters rows : ℕ} (g : IsStoredGraph entries flags letters rows) {live finals class number first entries' finals' : List ℕ} {n : ℕ}
    (len : length live ≡ rows) (start-lives : Marked live 0) (named : IsNamed live class)
    (closed : (s a : ℕ) → s < rows → a < letters → Marked live (entry_at letters entries s a) → Marked live s)
    (steps : (s t a : ℕ) → Marked live s → Marked live t → get_or class s 0 ≡ get_or class t 0 → a < letters → get_or class (entry_at letters entries s a) 0 ≡ get_or class (entry_at letters entries t a) 0)
    (N : IsNumbered class number first rows n) (K : IsCompacted letters class number first entries finals entries' finals' n) where
  -- rows with a class are live, and lie among the rows

  class_lives : (s : ℕ) → 0 < get_or class s 0 → Marked live s
  class_lives s h = elim (ℕ_discrete (get_or live s 0) 1) [ yes m ↦ m | no m ↦ absurd (omega (arith, named.none s m)) ]

  live_inside : (s : ℕ) → Marked live s → s < rows
  live_inside s m = omega (arith, marked-inside live s m)

  member : (s : ℕ) → Marked live s → Member (stored_graph g) (is_marked live) s
  member s m = record { inside = live_inside s m; holds = marked-test live s m }

  -- the first row of the class of a live row

  name : ℕ → ℕ
  name s = get_or class s 0 - 1

  name-own : (s : ℕ) → Marked live s → get_or class (name s) 0 ≡ suc (name s)
  unfolding name
  name-own s m = named.name s m ∙ omega (arith, named.some s m)

  name-inside : (s : ℕ) → Marked live s → name s < rows
  unfolding name
  name-inside s m = omega (arith, named.low s, named.some s m, live_inside s m)

  -- the state of a live row's class

  state : ℕ → ℕ
  state s = get_or number (name s) 0

  state-inside : (s : ℕ) → Marked live s → state s < n
  unfolding state
  state-inside s m = N.place (name s) (name-inside s m) (name-own s m)

  state-first : (s : ℕ) → Marked live s → get_or first (state s) 0 ≡ name s
  unfolding state
  state-first s m = N.first_of (name s) (name-inside s m) (name-own s m)

  node-lives : (j : ℕ) → j < n → Marked live (get_or first j 0)
  node-lives j h = class_lives (get_or first j 0) (omega (arith, N.own j h))

  -- one entry

  entry-live : (j a : ℕ) → j < n → a < letters → Marked live (entry_at letters entries (get_or first j 0) a) → entry_at letters entries' j a ≡ state (entry_at letters entries (get_or first j 0) a)
  unfolding state name
  entry-live j a hj ha m = (K.rows j a hj ha).some (named.some (entry_at letters entries (get_or first j 0) a) m)

  entry_dead : (j a : ℕ) → j < n → a < letters → ¬ Marked live (entry_at letters entries (get_or first j 0) a) → entry_at letters entries' j a ≡ no_state
  entry_dead j a hj ha m = (K.rows j a hj ha).none (named.none (entry_at letters entries (get_or first j 0) a) m)

  node-entry : (j a : ℕ) → j < n → a < letters → Dec (Marked live (entry_at letters entries (get_or first j 0) a))
      → IsNodeEntry (stored_graph g) (is_marked live) (λ s. get_or class s 0) n (λ j. get_or first j 0) (entry_at letters entries (get_or first j 0) a) (entry_at letters entries' j a)
  unfolding name
  node-entry j a hj ha (yes m) =
      let u = entry_at letters entries (get_or first j 0) a in
      rw (entry-live j a hj ha m) (inr (state-inside u m, member u m, sym (named.name u m) ∙ ap (λ x. get_or class x 0) (sym (state-first u m))))
  node-entry j a hj ha (no m) = inl (entry_dead j a hj ha m, λ q. m (test-marked live (entry_at letters entries (get_or first j 0) a) q.holds))

  -- first meeting

  module _ (j : ℕ) (h : 0 < j) (hj : j < n) where
    x : ℕ
    x = get_or first j 0

    x-lives : Marked live x
    unfolding x
    x-lives = node-lives j hj

    f : FirstMet letters (entry_at letters entries) x
    unfolding x
    f = g.first_met x (omega (arith, first-least N j hj)) (N.inside j hj)

    -- the row that first meets x is live, and the first of its class
    p-inside : f.state < rows
    unfolding x
    p-inside = omega (arith, f.earlier_state, N.inside j hj)

    p-lives : Marked live f.state
    p-lives = closed f.state f.letter p-inside f.is_letter (rw f.holds x-lives)

    -- what an earlier place leads to comes before x
    earlier-target : (i a : ℕ) → a < letters → Before i a f.state f.letter → Marked live (entry_at letters entries i a) → entry_at letters entries i a < x
    earlier-target i a ha b m = f.before i a ha b λ e. omega (arith, live_inside (entry_at letters entries i a) m, g.few_rows)

    p-own : get_or class f.state 0 ≡ suc f.state
    unfolding name x
    p-own = elim (ℕ_discrete (get_or class f.state 0) (suc f.state)) [ yes q ↦ q | no q ↦ absurd (earlier q) ]
      where
        earlier : get_or class f.state 0 ≢ suc f.state → ⊥
        earlier ne =
            let p = f.state in
            let q = name p in
            let lt : q < p = omega (arith, named.low p, named.some p p-lives) in
            let ql : Marked live q = class_lives q (omega (arith, name-own p p-lives)) in
            let u = entry_at letters entries q f.letter in
            let e : get_or class u 0 ≡ get_or class x 0 = steps q p f.letter ql p-lives (named.name p p-lives) f.is_letter ∙ ap (λ s. get_or class s 0) f.holds in
            let ul : Marked live u = class_lives u (omega (arith, named.some x x-lives)) in
            omega (arith, earlier-target q f.letter f.is_letter (inl lt) ul, named.low u, N.own j hj)

    place : ℕ
    place = get_or number f.state 0

    place_inside : place < n
    unfolding place
    place_inside = N.place f.state p-inside p-own

    place-first : get_or first place 0 ≡ f.state
    unfolding place
    place-first = N.first_of f.state p-inside p-own

    place-below : place < j
    unfolding x
    place-below = first-order N place j place_inside hj (omega (arith, place-first, f.earlier_state))

    -- a place before that one in the table is a place before it in the graph
    before-from : (i a : ℕ) → i < n → Before i a place f.letter → Before (get_or first i 0) a f.state f.letter
    before-from i a hi (inl l) = inl (rw place-first at (N.rising i place l place_inside))
    before-from i a hi (inr q) = inr (ap (λ s. get_or first s 0) q.0 ∙ place-first, q.1)

    before-inside : (i a : ℕ) → Before i a place f.letter → i < n
    before-inside i a (inl l) = omega (arith, place_inside)
    before-inside i a (inr q) = omega (arith, place_inside, q.0)

    x-state : state x ≡ j
    unfolding state name x
    x-state =
        let e : get_or class x 0 - 1 ≡ x = omega (arith, N.own j hj) in
        first_injective N (get_or number (get_or class x 0 - 1) 0) j (state-inside x x-lives) hj (state-first x x-lives ∙ e)

    here : entry_at letters entries (get_or first place 0) f.letter ≡ x
    here = ap (λ s. entry_at letters entries s f.letter) place-first ∙ f.holds

    pub first_met : FirstMet letters (entry_at letters entries') j
    unfolding state name x
    first_met = record {
      state = place;
      letter = f.letter;
      earlier_state = place-below;
      is_letter = f.is_letter;
      holds = entry-live place f.letter place_inside f.is_letter (rw here x-lives) ∙ (ap state here ∙ x-state);
      before = λ i a ha b ne. before i a (before-inside i a b) ha b ne (ℕ_discrete (get_or live (entry_at letters entries (get_or first i 0) a) 0) 1);
    }
      where
        before : (i a : ℕ) → i < n → a < letters → Before i a place f.letter → entry_at letters entries' i a ≢ no_state → Dec (Marked live (entry_at letters entries (get_or first i 0) a)) → entry_at letters entries' i a < j
        before i a hi ha b ne (no m) = absurd (ne (entry_dead i a hi ha m))
        before i a hi ha b ne (yes m) =
            let u = entry_at letters entries (get_or first i 0) a in
            let lt : u < x = earlier-target (get_or first i 0) a ha (before-from i a hi b) m in
            rw (entry-live i a hi ha m) (first-order N (state u) j (state-inside u m) hj (omega (arith, state-first u m, named.low u, named.some u m)))

  -- the start is the first row of its class, and of all
  start-own : get_or class 0 0 ≡ 1
  start-own = omega (arith, named.low 0, named.some 0 start-lives)

  start-place : get_or number 0 0 < n
  start-place = N.place 0 g.some_row start-own

  pub renumbering : ((i : ℕ) → i < n → IsFlag (T (is_marked finals (get_or first i 0))) (get_or finals (get_or first i 0) 0))
      → IsNumbering (stored_graph g) (is_marked live) (is_marked finals) (λ s. get_or class s 0) 0 n (λ j. get_or first j 0) (entry_at letters entries') (final_at finals')
  renumbering flag = record {
    room = omega (arith, N.most, g.few_rows);
    some_state = omega (arith, start-place);
    start = start;
    lives = λ i hi. member (get_or first i 0) (node-lives i hi);
    distinct = λ i j hi hj e. first_injective N i j hi hj (omega (arith, N.own i hi, N.own j hj, e));
    first_met = first_met;
    entries = λ i a hi ha. node-entry i a hi ha (ℕ_discrete (get_or live (entry_at letters entries (get_or first i 0) a) 0) 1);
    finals = λ i hi. rw (K.bytes i hi) (flag i hi);
  }
    where
      start : get_or first 0 0 ≡ 0
      start =
          let e : get_or first (get_or number 0 0) 0 ≡ 0 = N.first_of 0 g.some_row start-own in
          let z : get_or number 0 0 ≡ 0 = go (get_or number 0 0) start-place e in
          rw z at e
        where
          go : (i : ℕ) → i < n → get_or first i 0 ≡ 0 → i ≡ 0
          go i hi e = omega (arith, first-least N i hi)
