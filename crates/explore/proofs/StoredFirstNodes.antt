-- The nodes of the firsts of an accepted sheet, seen in a whole record: each has the value of what its `first` stands before. From the nodes that
-- store an expression (nodes), first by first.
use Prim.Native.Nat.{ℕ, suc, ◌+◌, ◌≤◌, ◌<◌}
use native.Mathlib.Omega.{arith}
use native.Mathlib.Decide.{dec_lt}
use mathlib.Core.Path.{◌≡◌, refl, sym, ◌∙◌, ap, ap₂, subst}
use mathlib.Core.Bool.{true}
use mathlib.Core.List.{List, [], ◌∷◌, ◌++◌, map, map-append}
use lib.IntN.{ℤ}
use lib.ListN.{length, length-append, length-map, get_or-eq_default}
use Rattle.basics.proofs.Lists.{All-append, All-member, member-All}
use Rattle.basics.specs.Lists.{All}
use Rattle.meaning.specs.Value.{Value}
use Rattle.meaning.specs.Expression.{Expression, first, Constraint, left_side, right_side, Stream, Sheet, value_from, value}
use Rattle.meaning.specs.Interval.{subexpressions}
use Rattle.meaning.specs.Letter.{Record, OfLetters, streams_of}
use Rattle.meaning.specs.Window.{reach, firsts, side_firsts, all_firsts, D}
use Rattle.meaning.proofs.Bounds.{first-within}
use Rattle.meaning.proofs.Window.{value-near}
use Rattle.sheet.specs.Accepted.{Accepted}
use Rattle.nodes.specs.Postfix.{Node, postfix, side_nodes, all_nodes}
use Rattle.nodes.specs.Bounded.{value_in}
use Rattle.nodes.specs.Evaluate.{Nodes, nodes_of, View, view, places, node_value}
use Rattle.nodes.proofs.Postfix.{StoredAt, stored_integer, stored_name, stored_first, stored_next, stored_negation, stored_binary, stored_conditional, stored_fby, Holds, Holds-append, nodes_hold, postfix-stored}
use Rattle.nodes.proofs.Meaning.{node_value-value}
use Rattle.nodes.proofs.Accepted.{lasting_same, whole-met}
use Rattle.nodes.proofs.Record.{flat, record_places, record_letters}
use Rattle.nodes.specs.FirstPlaces.{first_places, all_first_places}
use Rattle.explore.proofs.StoredFirsts.{Fine, firsts_fine, endless, endless-ranged}

-- ---- what holds of the node of each first

module _ {Y : Type 0} (N : Nodes) (P : Expression → Type 0) (f : ℕ → Y) (g : Expression → Y) (holds : (n k p : ℕ) (e : Expression) → StoredAt N n k (first e) (suc p) → P e → f p ≡ g e) where
  -- The nodes from the place k on have, first by first, what the expression's firsts have.
  abbrev Maps : ℕ → Expression → Type 0
  Maps k e = All P (firsts e) → map f (first_places k e) ≡ map g (firsts e)

  joined : (p q : List ℕ) (xs ys : List Expression) → (All P xs → map f p ≡ map g xs) → (All P ys → map f q ≡ map g ys) → All P (xs ++ ys) → map f (p ++ q) ≡ map g (xs ++ ys)
  joined p q xs ys l r h =
      let b = (All-append P xs ys).0 h in
      map-append f p q ∙ ap₂ ◌++◌ (l b.0) (r b.1) ∙ sym (map-append g xs ys)

  places-map : {n k m : ℕ} {e : Expression} → StoredAt N n k e m → (m ≡ n + length (subexpressions e)) × Maps n e
  unfolding subexpressions firsts first_places
  places-map (stored_integer x) = (omega arith, λ h. refl)
  places-map (stored_name x) = (omega arith, λ h. refl)
  places-map (stored_first {n = n} {f = k} {m = m} {e = e} s x) =
      let i = places-map s in let j = i.0 in (omega arith, λ h. ap₂ ◌∷◌ (ap f (sym j) ∙ holds n k m e (stored_first s x) h.0) (i.1 h.1))
  places-map (stored_next s x) = let i = places-map s in let j = i.0 in (omega arith, i.1)
  places-map (stored_negation s x) = let i = places-map s in let j = i.0 in (omega arith, i.1)
  places-map (stored_binary {n = n} {a = a} {b = b} s t x) =
      let i = places-map s in
      let j = places-map t in
      (omega (arith, i.0, j.0, length-append (subexpressions a) (subexpressions b)), joined (first_places n a) (first_places (n + length (subexpressions a)) b) (firsts a) (firsts b) i.1 (subst (λ k. Maps k b) i.0 j.1))
  places-map (stored_conditional {n = n} {c = c} {a = a} {b = b} r s t x) =
      let h = places-map r in
      let i = places-map s in
      let j = places-map t in
      let front : _ ≡ n + length (subexpressions c) + length (subexpressions a) = i.0 ∙ ap (λ k. k + length (subexpressions a)) h.0 in (
        omega (arith, h.0, i.0, j.0, length-append (subexpressions c) (subexpressions a ++ subexpressions b), length-append (subexpressions a) (subexpressions b)),
        joined (first_places n c) (first_places (n + length (subexpressions c)) a ++ first_places (n + length (subexpressions c) + length (subexpressions a)) b) (firsts c) (firsts a ++ firsts b) h.1
            (joined (first_places (n + length (subexpressions c)) a) (first_places (n + length (subexpressions c) + length (subexpressions a)) b) (firsts a) (firsts b)
            (subst (λ k. Maps k a) h.0 i.1) (subst (λ k. Maps k b) front j.1)),
      )
  places-map (stored_fby {n = n} {a = a} {b = b} s t x) =
      let i = places-map s in
      let j = places-map t in
      (omega (arith, i.0, j.0, length-append (subexpressions a) (subexpressions b)), joined (first_places n a) (first_places (n + length (subexpressions a)) b) (firsts a) (firsts b) i.1 (subst (λ k. Maps k b) i.0 j.1))

  all_places_map : (n k : ℕ) (cs : List Constraint) → Holds N n (all_nodes n k cs) → All P (all_firsts cs) → map f (all_first_places n cs) ≡ map g (all_firsts cs)
  unfolding all_first_places all_nodes
  all_places_map n k [] h p = refl
  all_places_map n k (c ∷ cs) h p =
      let x = left_side c in
      let y = right_side c in
      let l = postfix n k x in
      let r = postfix (n + length l) (k + length (firsts x)) y in
      let parts = Holds-append N n (side_nodes n k c) (all_nodes (n + length (side_nodes n k c)) (k + length (side_firsts c)) cs) h in
      let sides = Holds-append N n l r parts.0 in
      let left = places-map (postfix-stored N n k x sides.0) in
      let right = places-map (postfix-stored N (n + length l) (k + length (firsts x)) y sides.1) in
      let behind : n + length (side_nodes n k c) ≡ n + length (subexpressions x) + length (subexpressions y) = omega (arith, length-append l r, left.0, right.0) in
      joined (first_places n x ++ first_places (n + length (subexpressions x)) y) (all_first_places (n + length (subexpressions x) + length (subexpressions y)) cs) (side_firsts c) (all_firsts cs)
      (joined (first_places n x) (first_places (n + length (subexpressions x)) y) (firsts x) (firsts y) left.1 (subst (λ m. Maps m y) left.0 right.1))
      (subst (λ m. All P (all_firsts cs) → map f (all_first_places m cs) ≡ map g (all_firsts cs)) behind (all_places_map (n + length (side_nodes n k c)) (k + length (side_firsts c)) cs parts.1)) p

-- ---- the values of the nodes

-- A node of a kind other than 0 is one of the list's.
first-inside : (l : List Node) {n k p : ℕ} {e : Expression} → StoredAt (nodes_of l) n k (first e) (suc p) → p < length l
first-inside l {p = p} (stored_first s x) = by (dec_lt p (length l))
  where
    by : Dec (p < length l) → p < length l
    by (yes h) = h
    by (no h) =
        let e : ◌≡◌ {A = ℕ} 2 0 = sym x.kind ∙ get_or-eq_default (map (λ (y : Node). y.kind) l) 0 {n = p} (omega (arith, length-map l (λ (y : Node). y.kind))) in
        absurd (omega arith)

module _ (s : Sheet) (accepted : Accepted s) (lawful_record : Record) (letters : OfLetters s.streams lawful_record) (long : D s.constraints < length lawful_record) (behind : List Node) (stored : List ℤ) where
  abbrev ss : List Stream
  ss = s.streams

  abbrev cs : List Constraint
  cs = s.constraints

  abbrev nodes : List Node
  nodes = all_nodes 0 0 cs ++ behind

  abbrev W : View
  W = view (flat lawful_record) (length ss) stored true

  abbrev Known : Expression → Type 0
  Known e = Fine ss (first e) × (reach e ≤ D cs)

  first-node : {n k p : ℕ} {e : Expression} → StoredAt (nodes_of nodes) n k (first e) (suc p) → Known e → value_in (node_value (nodes_of nodes) W p 0) ≡ value (streams_of lawful_record) e 0
  unfolding value value_from reach
  first-node {n} {k} {p} {e} st h =
      let w = endless s accepted lawful_record letters long in
      let all-places = record_places ss accepted.streams.some_stream lawful_record letters stored true in
      let shown = record_letters ss accepted.streams.some_stream lawful_record letters stored true in
      let near : 0 + reach (first e) < places W = omega (arith, all-places, h.1) in
      node_value-value nodes W w (λ k q b l. shown.shows k q b l ∙ sym (lasting_same (streams_of lawful_record) (length lawful_record) k q (omega (arith, all-places)))) 0 (first e) st (first-inside nodes st) refl h.0.names near
      (whole-met ss w (endless-ranged s accepted lawful_record letters long) (first e) 0 h.0.names h.0.bounds)
      ∙ value-near w (streams_of lawful_record) (length lawful_record) (lasting_same (streams_of lawful_record) (length lawful_record)) e 0 (omega (arith, h.1))

  -- In a whole record each first's node has its value.
  pub first-nodes : {Y : Type 0} (f : Value → Y) → map (λ p. f (value_in (node_value (nodes_of nodes) W p 0))) (all_first_places 0 cs) ≡ map (λ e. f (value (streams_of lawful_record) e 0)) (all_firsts cs)
  first-nodes f =
      all_places_map (nodes_of nodes) Known _ _ (λ n k p e st h. ap f (first-node st h)) 0 0 cs
      (nodes_hold [] (all_nodes 0 0 cs) behind)
      (member-All Known (all_firsts cs) (λ e m. (All-member (λ f. Fine ss (first f)) (firsts_fine s accepted) m, first-within cs e m)))
