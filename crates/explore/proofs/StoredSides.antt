-- The nodes of the sides of an accepted sheet's constraints, seen after a record's key and one more letter: each has the side's value in the
-- longer record at the time newly judged. From the nodes' values (nodes) and the window law (meaning).
use Prim.Native.Nat.{ℕ, zero, suc, ◌+◌, ◌-◌, ◌≤◌, ◌<◌, min}
use native.Mathlib.Omega.{arith}
use native.Mathlib.Decide.{dec_le}
use mathlib.Core.Path.{◌≡◌, refl, sym, ◌∙◌, ap, ap₂, subst}
use mathlib.Core.Bool.{true, false}
use mathlib.Core.List.Memᴰ
use mathlib.Core.List.{List, [], ◌∷◌, ◌++◌, map, map-append, Memᴰ}
use lib.IntN.{ℤ, pos}
use lib.ListN.{length, get_or, drop, length-append, length-drop, length-map}
use lib.Seq.{drop-append-le, get_or-drop}
use Rattle.basics.proofs.Lists.{get_d_map}
use Rattle.automaton.specs.Words.{AllBelow}
use Rattle.automaton.proofs.ReachedRows.{below-snoc}
use Rattle.meaning.specs.Value.{Value, absent}
use Rattle.meaning.specs.Arithmetic.{AnyWithin}
use Rattle.meaning.specs.Expression.{Expression, Constraint, until, integer, left_side, right_side, Stream, Sheet, value}
use Rattle.meaning.specs.Interval.{interval}
use Rattle.meaning.specs.Letter.{Record, letter_of, record_of, streams_of}
use Rattle.meaning.specs.Window.{reach, back, firsts, side_firsts, all_firsts, B, D}
use Rattle.meaning.specs.Situation.{first_values}
use Rattle.meaning.specs.Evaluation.{window_value}
use Rattle.meaning.proofs.Facts.{length-snoc, get_or-member, join_over-member}
use Rattle.meaning.proofs.Bounds.{sides-within}
use Rattle.meaning.proofs.Stored.{Stored, Stored-left, Stored-right, Stored-map}
use Rattle.meaning.proofs.Window.{window_value-value}
use Rattle.meaning.proofs.Lawful.{append-begins, first_values-begins}
use Rattle.sheet.specs.Accepted.{Accepted}
use Rattle.nodes.specs.Bounded.{value_in}
use Rattle.nodes.specs.Code.{relation_code}
use Rattle.nodes.specs.Postfix.{side_nodes, Node, StoredConstraint, all_nodes, stored_constraints}
use Rattle.nodes.specs.Evaluate.{Nodes, nodes_of, View, view, node_value}
use Rattle.nodes.proofs.Postfix.{firsts_before, stored-length}
use Rattle.nodes.proofs.Accepted.{FirstsWithin, IsSide, left_of, right_of, accepted_value, accepted_window_value}
use Rattle.nodes.proofs.Record.{flat, record_places, record_letters}
use Rattle.prepare.specs.Key.{raised, lowered, width, key_of}
use Rattle.extend.specs.Step.{view_after, letters_after, value_at}
use Rattle.explore.specs.Rows.{letter_numbers}
use Rattle.explore.specs.StoredSheet.{store_for, HasLetters}
use Rattle.explore.proofs.KeySituations.{read_back, stored-all, drop-below, drop_record}
use Rattle.explore.proofs.RowLaws.{below-letters}
use Rattle.explore.proofs.StoredFirsts.{first-value, firsts-bounded}
use Rattle.explore.proofs.KeyDecoding.{after-known, view-whole, view-cut}
use Rattle.explore.proofs.JudgeMeaning.{Reads}

-- What is read beyond the ends of the lists; nothing is.
abbrev c₀ : Constraint
c₀ = until (integer (pos 0)) (integer (pos 0))

abbrev t₀ : StoredConstraint
t₀ = record { relation = 0; left = 0; right = 0 }

-- ---- the firsts of one constraint among those of all

module _ {Y : Type 0} (f : Expression → Y) (d : Y) (ys : List Y) where
  stored-before : (n : ℕ) (cs : List Constraint) (j : ℕ) → j < length cs → Stored f d ys n (all_firsts cs) → Stored f d ys (firsts_before n cs j) (side_firsts (get_or cs j c₀))
  unfolding firsts_before
  stored-before n [] j b h = absurd (omega arith)
  stored-before n (c ∷ cs) zero b h = Stored-left f d ys n (side_firsts c) (all_firsts cs) h
  stored-before n (c ∷ cs) (suc j) b h = stored-before (n + length (side_firsts c)) cs j (omega arith) (Stored-right f d ys n (side_firsts c) (all_firsts cs) h)

long-before : (n : ℕ) (cs : List Constraint) (j : ℕ) → j < length cs → firsts_before n cs j + length (side_firsts (get_or cs j c₀)) ≤ n + length (all_firsts cs)
unfolding firsts_before
long-before n [] j b = absurd (omega arith)
long-before n (c ∷ cs) zero b = omega (arith, length-append (side_firsts c) (all_firsts cs))
long-before n (c ∷ cs) (suc j) b = let h = long-before (n + length (side_firsts c)) cs j (omega arith) in omega (arith, length-append (side_firsts c) (all_firsts cs))

-- What a side looks at, where its firsts are numbered from f on: at most B letters back and D ahead, and its firsts are some of the sheet's.
record Looks (cs : List Constraint) (e : Expression) (f : ℕ) : Type 0 where
  backward : back e ≤ B cs
  ahead : reach e ≤ D cs
  member : (g : Expression) → Memᴰ g (firsts e) → Memᴰ g (all_firsts cs)
  stored : (v : Expression → Value) (ys : List Value) → Stored v absent ys 0 (all_firsts cs) → Stored v absent ys f (firsts e)
  numbered : f + length (firsts e) ≤ length (all_firsts cs)

side_looks : (cs : List Constraint) {e : Expression} {i f : ℕ} → IsSide cs c₀ t₀ e i f → Looks cs e f
side_looks cs (left_of j b) =
    let c = get_or cs j c₀ in
    let m = get_or-member cs j c₀ b in
    let x = sides-within cs c m in
    let long = long-before 0 cs j b in
    record {
      backward = x.back_left;
      ahead = x.reach_left;
      member = λ g k. join_over-member side_firsts cs c g m (Memᴰ.append_left (firsts (right_side c)) k);
      stored = λ v ys h. Stored-left v absent ys (firsts_before 0 cs j) (firsts (left_side c)) (firsts (right_side c)) (stored-before v absent ys 0 cs j b h);
      numbered = omega (arith, length-append (firsts (left_side c)) (firsts (right_side c)));
    }
side_looks cs (right_of j b) =
    let c = get_or cs j c₀ in
    let m = get_or-member cs j c₀ b in
    let x = sides-within cs c m in
    let long = long-before 0 cs j b in
    record {
      backward = x.back_right;
      ahead = x.reach_right;
      member = λ g k. join_over-member side_firsts cs c g m (Memᴰ.append_right (firsts (left_side c)) k);
      stored = λ v ys h. Stored-right v absent ys (firsts_before 0 cs j) (firsts (left_side c)) (firsts (right_side c)) (stored-before v absent ys 0 cs j b h);
      numbered = omega (arith, length-append (firsts (left_side c)) (firsts (right_side c)));
    }

-- ---- the stored constraints

pub stored-relations : (n f : ℕ) (cs : List Constraint) → map (λ (t : StoredConstraint). t.relation) (stored_constraints n f cs) ≡ map relation_code cs
unfolding stored_constraints
stored-relations n f [] = refl
stored-relations n f (c ∷ cs) = ap (relation_code c ∷◌) (stored-relations (n + length (side_nodes n f c)) (f + length (side_firsts c)) cs)

-- What holds of a constraint by its number holds of all in a row.
reads_all : (relations lefts rights : List ℕ) (val : ℕ → Value) (left right : Constraint → Value) (cs : List Constraint) (n : ℕ)
    → ((j : ℕ) → j < length cs → (get_or relations (n + j) 0 ≡ relation_code (get_or cs j c₀)) × (val (get_or lefts (n + j) 0) ≡ left (get_or cs j c₀)) × (val (get_or rights (n + j) 0) ≡ right (get_or cs j c₀)))
    → Reads relations lefts rights val left right n cs
reads_all relations lefts rights val left right [] n h = tt
reads_all relations lefts rights val left right (c ∷ cs) n h =
    let p = h 0 (omega arith) in
    let e : n + 0 ≡ n = omega arith in (
      ap (λ k. get_or relations k 0) (sym e) ∙ p.0,
      ap (λ k. val (get_or lefts k 0)) (sym e) ∙ p.1,
      ap (λ k. val (get_or rights k 0)) (sym e) ∙ p.2,
      reads_all relations lefts rights val left right cs (suc n)
          (λ j b.
          let q = h (suc j) (omega arith) in
          let i : suc n + j ≡ n + suc j = omega arith in
          (ap (λ k. get_or relations k 0) i ∙ q.0, ap (λ k. val (get_or lefts k 0)) i ∙ q.1, ap (λ k. val (get_or rights k 0)) i ∙ q.2)),
    )

-- ---- the sides after a key and one more letter

module _ (s : Sheet) (accepted : Accepted s) (behind : List Node) (values : List ℤ) (has : HasLetters s values)
    (r : List ℕ) (a : ℕ) (below : AllBelow (letter_numbers s) r) (here : a < letter_numbers s) (judged : D s.constraints ≤ length r) where
  abbrev ss : List Stream
  ss = s.streams

  abbrev cs : List Constraint
  cs = s.constraints

  abbrev w : ℕ
  w = width s

  abbrev longer : Record
  longer = record_of ss (r ++ (a ∷ []))

  abbrev recent : List ℕ
  recent = drop (length r - w) r

  abbrev window : Record
  window = record_of ss (recent ++ (a ∷ []))

  abbrev known : ℕ
  known = length (letters_after (store_for s behind values) (key_of s r) a) - 1

  known_is : known ≡ min (length r) w
  known_is = after-known s accepted behind values has r a below here

  longer-long : length longer ≡ suc (length r)
  longer-long = length-map (r ++ (a ∷ [])) (letter_of ss) ∙ length-snoc r a

  window_long : length window ≡ suc (min (length r) w)
  window_long = length-map (recent ++ (a ∷ [])) (letter_of ss) ∙ length-snoc recent a ∙ omega (arith, length-drop (length r - w) r)

  abbrev W : View
  W = view_after (store_for s behind values) (key_of s r) a

  abbrev nodes : Nodes
  nodes = nodes_of (all_nodes 0 0 cs ++ behind)

  window-shows : (k t : ℕ) → streams_of window k t ≡ streams_of longer k (length r - w + t)
  window-shows k t =
      let e : window ≡ drop (length r - w) longer = ap (record_of ss) (sym (drop-append-le (length r - w) r (a ∷ []) (omega arith))) ∙ sym (drop_record ss (length r - w) (r ++ (a ∷ []))) in
      ap (λ x. get_or x k (pos 0)) (ap (λ x. get_or x t []) e ∙ get_or-drop (length r - w) longer t [])

  -- The stored values of the firsts are those in the longer record, and lie in their intervals where they are numbers.
  module _ (cut : w < length r) where
    stored-firsts : Stored (λ f. value (streams_of longer) f 0) absent (first_values cs (record_of ss r)) 0 (all_firsts cs)
    stored-firsts =
        let e : record_of ss r ++ (letter_of ss a ∷ []) ≡ longer = sym (map-append (letter_of ss) r (a ∷ [])) in
        let v = first_values-begins cs (streams_of (record_of ss r ++ (letter_of ss a ∷ []))) (record_of ss r) (append-begins (record_of ss r) (letter_of ss a ∷ [])) (omega (arith, length-map r (letter_of ss)))
        ∙ ap (λ x. map (λ f. value (streams_of x) f 0) (all_firsts cs)) e in
        subst (λ x. Stored (λ f. value (streams_of longer) f 0) absent x 0 (all_firsts cs)) (sym v) (Stored-map (λ f. value (streams_of longer) f 0) absent (all_firsts cs))

    stored-long : length (first_values cs (record_of ss r)) ≡ length (all_firsts cs)
    unfolding first_values
    stored-long = length-map (all_firsts cs) _

    firsts-within : (f : ℕ) (es : List Expression) → ((e : Expression) → Memᴰ e es → Memᴰ e (all_firsts cs))
        → Stored (λ f. value (streams_of longer) f 0) absent (first_values cs (record_of ss r)) f es → FirstsWithin ss (first_values cs (record_of ss r)) f es
    firsts-within f [] m h = tt
    firsts-within f (e ∷ es) m h = (
      subst (AnyWithin (interval ss e)) (sym h.0) (first-value s accepted longer (below-letters ss (r ++ (a ∷ [])) (below-snoc (letter_numbers s) r a below here)) (omega (arith, longer-long)) e (m e (Memᴰ.head refl))),
      firsts-within (suc f) es (λ d k. m d (Memᴰ.tail k)) h.1,
    )

    -- What the key keeps of them.
    abbrev kept : List ℕ
    kept = map raised (first_values cs (record_of ss r))

    kept-values : read_back kept ≡ first_values cs (record_of ss r)
    kept-values = stored-all (first_values cs (record_of ss r)) (firsts-bounded s accepted r below cut)

    kept-long : length (map lowered kept) ≡ length (all_firsts cs)
    kept-long = length-map kept lowered ∙ length-map (first_values cs (record_of ss r)) raised ∙ stored-long

    side_cut : {e : Expression} {i f : ℕ} → IsSide cs c₀ t₀ e i f → value_in (node_value nodes W i (known - D cs)) ≡ value (streams_of longer) e (length r - D cs)
    side_cut {e} {i} {f} side =
        let x = side_looks cs side in
        let stored = first_values cs (record_of ss r) in
        let st = x.stored (λ f. value (streams_of longer) f 0) stored stored-firsts in
        let letters = below-letters ss (recent ++ (a ∷ [])) (below-snoc (letter_numbers s) recent a (drop-below (letter_numbers s) (length r - w) r below) here) in
        let seen = view (flat window) (length ss) (map lowered kept) false in
        let within = subst (λ l. FirstsWithin ss l f (firsts e)) (sym kept-values) (firsts-within f (firsts e) x.member st) in
        let place : known - D cs ≡ B cs = omega (arith, known_is) in
        let time : length r - w + B cs ≡ length r - D cs = omega arith in
        (λ j. value_in (node_value nodes (view-cut s accepted behind values has r a below here cut j) i (place j)))
        ∙ accepted_window_value s accepted seen (streams_of window) (record_letters ss accepted.streams.some_stream window letters (map lowered kept) false) behind c₀ t₀ side refl (B cs) x.backward
        (omega (arith, record_places ss accepted.streams.some_stream window letters (map lowered kept) false, window_long, x.ahead)) (omega (arith, kept-long, x.numbered)) within
        ∙ ap (λ l. window_value (streams_of window) l f e (B cs)) kept-values
        ∙ window_value-value (streams_of longer) (streams_of window) stored (length r - w) (B cs + D cs) (λ k t h. window-shows k t) e f (B cs) x.backward (omega (arith, x.ahead)) st
        ∙ ap (value (streams_of longer) e) time

  side-whole : length r ≤ w → {e : Expression} {i f : ℕ} → IsSide cs c₀ t₀ e i f → value_in (node_value nodes W i (known - D cs)) ≡ value (streams_of longer) e (length r - D cs)
  side-whole h {e} {i} {f} side =
      let x = side_looks cs side in
      let letters = below-letters ss (r ++ (a ∷ [])) (below-snoc (letter_numbers s) r a below here) in
      let place : known - D cs ≡ length r - D cs = omega (arith, known_is) in
      (λ j. value_in (node_value nodes (view-whole s accepted behind values has r a below here h j) i (place j)))
      ∙ accepted_value s accepted _ (streams_of longer) (record_letters ss accepted.streams.some_stream longer letters _ true) behind c₀ t₀ side refl (length r - D cs)
      (omega (arith, record_places ss accepted.streams.some_stream longer letters W.firsts true, longer-long, x.ahead))

  side-value : {e : Expression} {i f : ℕ} → IsSide cs c₀ t₀ e i f → value_in (node_value nodes W i (known - D cs)) ≡ value (streams_of longer) e (length r - D cs)
  side-value {e} {i} {f} side = by (dec_le (length r) w)
    where
      by : Dec (length r ≤ w) → value_in (node_value nodes W i (known - D cs)) ≡ value (streams_of longer) e (length r - D cs)
      by (yes h) = side-whole h side
      by (no h) = side_cut (omega arith) side

  abbrev left_now : Constraint → Value
  left_now c = value (streams_of longer) (left_side c) (length r - D cs)

  abbrev right_now : Constraint → Value
  right_now c = value (streams_of longer) (right_side c) (length r - D cs)

  -- Every stored constraint reads as the sheet's, with the values of its sides at the time newly judged.
  pub constraints-read : Reads (store_for s behind values).relations (store_for s behind values).lefts (store_for s behind values).rights (value_at (store_for s behind values) W (known - D cs)) left_now right_now 0 cs
  constraints-read =
      reads_all (store_for s behind values).relations (store_for s behind values).lefts (store_for s behind values).rights (value_at (store_for s behind values) W (known - D cs)) left_now right_now cs 0
      (λ j b.
      let stored = stored_constraints 0 0 cs in
      let e : 0 + j ≡ j = omega arith in
      let l : j < length stored = omega (arith, stored-length 0 0 cs) in (
        ap₂ (λ l k. get_or l k 0) (stored-relations 0 0 cs) e ∙ get_d_map relation_code cs j c₀ 0 b,
        ap (λ k. value_in (node_value nodes W (get_or (store_for s behind values).lefts k 0) (known - D cs))) e
            ∙ ap (λ i. value_in (node_value nodes W i (known - D cs))) (get_d_map (λ (t : StoredConstraint). t.left) stored j t₀ 0 l) ∙ side-value (left_of j b),
        ap (λ k. value_in (node_value nodes W (get_or (store_for s behind values).rights k 0) (known - D cs))) e
            ∙ ap (λ i. value_in (node_value nodes W i (known - D cs))) (get_d_map (λ (t : StoredConstraint). t.right) stored j t₀ 0 l) ∙ side-value (right_of j b),
      ))
