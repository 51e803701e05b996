-- The parts of a stored sheet: each list is what it holds and room beyond it. Cut to its count it is what it holds; the nodes stay uncut, with blank
-- ones behind them.
use Prim.Native.Nat.{ℕ, zero, suc, ◌+◌, ◌-◌, ◌≤◌, min}
use native.Mathlib.Omega.{arith}
use mathlib.Core.Path.{◌≡◌, refl, sym, ◌∙◌, ap}
use mathlib.Core.List.{List, ◌∷◌, ◌++◌, map, map-append}
use lib.IntN.{ℤ, pos}
use lib.ListN.{length, take, replicate, length-map}
use lib.Seq.{take_at, length-take-le}
use borrow.Author.Rules.{length_unmapped}
use Rattle.nodes.proofs.Postfix.{stored-length}
use Rattle.meaning.specs.Expression.{Sheet}
use Rattle.meaning.specs.Letter.{letter_count}
use Rattle.meaning.specs.Window.{B, D}
use Rattle.sheet.specs.Accepted.{Accepted}
use Rattle.sheet.specs.Refusal.{stream_bound, constraint_bound, first_bound, window_bound}
use Rattle.nodes.specs.Bounds.{lows_of, highs_of}
use Rattle.nodes.specs.FirstPlaces.{all_first_places}
use Rattle.nodes.specs.Postfix.{Node, node, StoredConstraint, all_nodes, stored_constraints}
use Rattle.reader.specs.declared.StoredSheet.{StoredSheet}
use Rattle.header.specs.Streams.{padded}
use Rattle.reader.specs.Stored.{relations_of, lefts_of, rights_of, stored_sheet}
use Rattle.nodes.proofs.FirstPlaces.{all_places_long}
use Rattle.nodes.specs.Evaluate.{stored}
use Rattle.extend.specs.Step.{store_of}
use Rattle.explore.specs.StoredSheet.{HasLetters, IsStored}
use Rattle.explore.proofs.StoredKeys.{parts-stored}

-- The list holds `held`, as many numbers as the count, and room beyond them.
pub record IsPadded {X : Type 0} (count : ℕ) (list held : List X) : Type 0 where
  pub size : ℕ
  pub blank : X
  pub many : count ≡ length held
  pub same : list ≡ padded size blank held

module _ {X : Type 0} {count : ℕ} {list held : List X} (p : IsPadded count list held) where
  pub part_held : take count list ≡ held
  part_held = ap (take count) p.same ∙ take_at held (replicate (p.size - length held) p.blank) count (sym p.many)

  cut_held : {n : ℕ} → n ≡ count → take n list ≡ held
  cut_held e = ap (λ n. take n list) e ∙ part_held

map-replicate : {X Y : Type 0} (f : X → Y) (n : ℕ) (x : X) → map f (replicate n x) ≡ replicate n (f x)
map-replicate f zero x = refl
map-replicate f (suc n) x = ap (f x ∷◌) (map-replicate f n x)

-- What a list of nodes holds of each, with room beyond it, is what it holds of them and of blank nodes behind them.
padded-nodes : {X : Type 0} (size : ℕ) (f : Node → X) (blank : Node) (l : List Node) → padded size (f blank) (map f l) ≡ map f (padded size blank l)
padded-nodes size f blank l =
    ap (λ n. map f l ++ replicate (size - n) (f blank)) (length-map l f)
    ∙ ap (map f l ++◌) (sym (map-replicate f (size - length l) blank))
    ∙ sym (map-append f l (replicate (size - length l) blank))

module _ (s : Sheet) {x : StoredSheet} (same : x ≡ stored_sheet s) where
  abbrev nodes : List Node
  nodes = all_nodes 0 0 s.constraints

  abbrev blank_node : Node
  blank_node = node 0 (pos 0) 0

  abbrev constraints : List StoredConstraint
  constraints = stored_constraints 0 0 s.constraints

  count_is : (f : StoredConstraint → ℕ) → x.constraints ≡ length (map f constraints)
  unfolding stored_sheet
  count_is f = ap (λ y. y.constraints) same ∙ sym (length-map constraints f ∙ stored-length 0 0 s.constraints)

  pub relations-part : IsPadded x.constraints x.relations (relations_of constraints)
  unfolding stored_sheet
  relations-part = record { size = 32; blank = 0; many = count_is (λ y. y.relation); same = ap (λ y. y.relations) same }

  pub lefts-part : IsPadded x.constraints x.lefts (lefts_of constraints)
  unfolding stored_sheet
  lefts-part = record { size = 32; blank = 0; many = count_is (λ y. y.left); same = ap (λ y. y.lefts) same }

  pub rights-part : IsPadded x.constraints x.rights (rights_of constraints)
  unfolding stored_sheet
  rights-part = record { size = 32; blank = 0; many = count_is (λ y. y.right); same = ap (λ y. y.rights) same }

  pub first-nodes-part : IsPadded x.firsts x.first_nodes (all_first_places 0 s.constraints)
  unfolding stored_sheet
  first-nodes-part = record { size = 8; blank = 0; many = ap (λ y. y.firsts) same ∙ sym (all_places_long 0 s.constraints); same = ap (λ y. y.first_nodes) same }

  pub lows-part : IsPadded x.streams x.lows (lows_of s.streams)
  unfolding stored_sheet
  lows-part = record { size = 8; blank = pos 0; many = ap (λ y. y.streams) same ∙ sym (length-map s.streams (λ y. y.range.low)); same = ap (λ y. y.lows) same }

  pub highs-part : IsPadded x.streams x.highs (highs_of s.streams)
  unfolding stored_sheet
  highs-part = record { size = 8; blank = pos 0; many = ap (λ y. y.streams) same ∙ sym (length-map s.streams (λ y. y.range.high)); same = ap (λ y. y.highs) same }

  pub sheet-letters : x.letters ≡ letter_count s.streams
  unfolding stored_sheet
  sheet-letters = ap (λ y. y.letters) same

  -- The counts of an accepted sheet are within the room of the lists, so that a cut at the room changes none.
  module _ (accepted : Accepted s) {constraint_count firsts streams ahead back : ℕ} (constraints_cut : constraint_count ≡ min x.constraints constraint_bound) (firsts_cut : firsts ≡ min x.firsts first_bound)
      (streams_cut : streams ≡ min x.streams stream_bound) (ahead_cut : ahead ≡ min x.ahead window_bound) (back_cut : back ≡ min x.back window_bound) where
    same-constraints : constraint_count ≡ x.constraints
    unfolding stored_sheet
    same-constraints = omega (arith, ap (λ y. y.constraints) same, accepted.constraint_count)

    same-firsts : firsts ≡ x.firsts
    unfolding stored_sheet
    same-firsts = omega (arith, ap (λ y. y.firsts) same, accepted.firsts)

    same_streams : streams ≡ x.streams
    unfolding stored_sheet
    same_streams = omega (arith, ap (λ y. y.streams) same, accepted.streams.stream_count)

    pub held-lows : take streams x.lows ≡ lows_of s.streams
    held-lows = cut_held lows-part same_streams

    pub held-highs : take streams x.highs ≡ highs_of s.streams
    held-highs = cut_held highs-part same_streams

    -- The nodes as they are, the other lists cut to their counts, and the values of the letters are the stored sheet.
    pub parts-of-sheet : (letter_values : List ℤ) → HasLetters s letter_values → IsStored s (store_of x.kinds x.values x.starts (take constraint_count x.relations) (take constraint_count x.lefts)
        (take constraint_count x.rights) (take firsts x.first_nodes) letter_values streams ahead (ahead + back))
    unfolding stored_sheet
    parts-of-sheet letter_values letters =
        let a : ahead ≡ D s.constraints = omega (arith, ap (λ y. y.ahead) same, accepted.window) in
        let b : back ≡ B s.constraints = omega (arith, ap (λ y. y.back) same, accepted.window) in
        let behind = replicate (1024 - length nodes) blank_node in
        let K = store_of x.kinds x.values x.starts (take constraint_count x.relations) (take constraint_count x.lefts) (take constraint_count x.rights) (take firsts x.first_nodes) letter_values streams ahead (ahead + back) in
        let kinds = ap (λ y. y.kinds) same ∙ padded-nodes 1024 (λ y. y.kind) blank_node nodes in
        let values = ap (λ y. y.values) same ∙ padded-nodes 1024 (λ y. y.value) blank_node nodes in
        let starts = ap (λ y. y.starts) same ∙ padded-nodes 1024 (λ y. y.start) blank_node nodes in
        parts-stored s behind K (λ i. stored (kinds i) (values i) (starts i)) (cut_held relations-part same-constraints) (cut_held lefts-part same-constraints) (cut_held rights-part same-constraints)
        (cut_held first-nodes-part same-firsts) (same_streams ∙ ap (λ y. y.streams) same) a (λ i. a i + b i) letters

-- A part of an array that is no longer than the array's room is as long as it says. The room is known of the array's numbers as they are stored.
module _ {X : Type 0} (list : List X) (count : ℕ) {n room : ℕ} (cut : n ≡ min count room) (long : length (map (λ (v : X). v) list) ≡ room) where
  pub cut_fits : n ≤ length list
  cut_fits = omega (arith, cut, length_unmapped X list room long)

  pub cut_long : n ≡ length (take n list)
  cut_long = sym (length-take-le n list cut_fits)
