-- Each sheet's streams have their names and ranges among the joined ones, where shared names are alike and no name stands twice in a sheet. From the places
-- of names.
use Prim.Native.Nat.{ℕ, suc, ◌≤◌, ◌<◌}
use native.Mathlib.Decide.{dec_lt}
use native.Mathlib.Omega.{arith}
use mathlib.Core.Path.{◌≡◌, refl, sym, ap, subst, ◌∙◌}
use mathlib.Core.Bool.{Bool, true, false, cond}
use mathlib.Core.Logic.{◌⊎◌, inl, inr}
use mathlib.Core.List.{List, [], ◌∷◌, ◌++◌, map, map-append, Memᴰ}
use lib.Dec.{eqb}
use lib.ListN.{length, get_or, length-map}
use borrow.Author.Tests.{eqb-true, eqb-false}
use Rattle.basics.specs.Answers.{Says}
use Rattle.basics.specs.Count.{NoRepeats}
use Rattle.basics.proofs.Answers.{says_both}
use Rattle.basics.proofs.Lists.{get_d_map}
use Rattle.text.specs.Bytes.{Token}
use Rattle.text.specs.Token.{same_bytes}
use Rattle.meaning.specs.Expression.{Stream, absent_stream}
use Rattle.streams.specs.Description.{stream_in, description_of}
use Rattle.streams.specs.declared.StreamsDescription.{StreamsDescription}
use Rattle.streams.proofs.Fit.{streams-length, stream-member}
use Rattle.sheet.specs.Form.{names_of}
use Rattle.sheet.specs.Vocabulary.{name_place}
use Rattle.sheet.proofs.Vocabulary.{place_of-member, place_of-token}
use Rattle.joined_streams.specs.Joined.{place_of, other_streams, joined_streams, IsAlike, SharedAlike, Covers}
use Rattle.joined_streams.specs.Describing.{AlikeAt}
use Rattle.joined_streams.proofs.Places.{get_or-member, stream_at}

abbrev name_of : Stream → Token
name_of s = s.name

names_long : (ss : List Stream) → length (names_of ss) ≡ length ss
names_long ss = length-map ss name_of

-- ---- members

append_left : {X : Type 0} {x : X} {xs : List X} (ys : List X) → Memᴰ x xs → Memᴰ x (xs ++ ys)
append_left ys (mathlib.Core.List.Memᴰ.head e) = mathlib.Core.List.Memᴰ.head e
append_left ys (mathlib.Core.List.Memᴰ.tail m) = mathlib.Core.List.Memᴰ.tail (append_left ys m)

append_right : {X : Type 0} {x : X} (xs : List X) {ys : List X} → Memᴰ x ys → Memᴰ x (xs ++ ys)
append_right [] m = m
append_right (y ∷ xs) m = mathlib.Core.List.Memᴰ.tail (append_right xs m)

pub append-split : {X : Type 0} {x : X} (xs ys : List X) → Memᴰ x (xs ++ ys) → Memᴰ x xs ⊎ Memᴰ x ys
append-split [] ys m = inr m
append-split (y ∷ xs) ys (mathlib.Core.List.Memᴰ.head e) = inl (mathlib.Core.List.Memᴰ.head e)
append-split {X} {x} (y ∷ xs) ys (mathlib.Core.List.Memᴰ.tail m) = by (append-split xs ys m)
  where
    by : Memᴰ x xs ⊎ Memᴰ x ys → Memᴰ x (y ∷ xs) ⊎ Memᴰ x ys
    by (inl a) = inl (mathlib.Core.List.Memᴰ.tail a)
    by (inr b) = inr b

-- no place is behind the streams
place_le : (ss : List Stream) (t : Token) → place_of ss t ≤ length ss
unfolding name_place
place_le [] t = omega arith
place_le (s ∷ ss) t = by (same_bytes s.name t) (place_le ss t)
  where
    by : (b : Bool) → place_of ss t ≤ length ss → cond b 0 (suc (place_of ss t)) ≤ suc (length ss)
    by true h = omega arith
    by false h = omega arith

-- no two streams have one name
same-stream : (ss : List Stream) → NoRepeats (names_of ss) → (u t : Stream) → Memᴰ u ss → Memᴰ t ss → u.name ≡ t.name → u ≡ t
same-stream [] d u t m n e = absurd (mathlib.Core.List.Memᴰ.not-nil m)
same-stream (s ∷ ss) d u t (mathlib.Core.List.Memᴰ.head p) (mathlib.Core.List.Memᴰ.head q) e = p ∙ sym q
same-stream (s ∷ ss) d u t (mathlib.Core.List.Memᴰ.head p) (mathlib.Core.List.Memᴰ.tail n) e = absurd (d.0 (subst (λ x. Memᴰ x (names_of ss)) (sym e ∙ ap name_of p) (mathlib.Core.List.Memᴰ.map name_of n)))
same-stream (s ∷ ss) d u t (mathlib.Core.List.Memᴰ.tail m) (mathlib.Core.List.Memᴰ.head q) e = absurd (d.0 (subst (λ x. Memᴰ x (names_of ss)) (e ∙ ap name_of q) (mathlib.Core.List.Memᴰ.map name_of m)))
same-stream (s ∷ ss) d u t (mathlib.Core.List.Memᴰ.tail m) (mathlib.Core.List.Memᴰ.tail n) e = same-stream ss d.1 u t m n e

-- ---- "the second's others"

module _ (ss : List Stream) where
  -- a name that is a stream's has a place, and one with a place is a stream's
  known-place : {t : Token} → Memᴰ t (names_of ss) → place_of ss t ≡ length ss → ⊥
  known-place {t} m e = let l = place_of-member (names_of ss) t m in let n = names_long ss in omega arith

  place-known : (t : Token) → place_of ss t < length ss → Memᴰ t (names_of ss)
  place-known t l =
      let h : name_place (names_of ss) t < length (names_of ss) = let n = names_long ss in omega arith in
      subst (λ x. Memᴰ x (names_of ss)) (place_of-token (names_of ss) t h) (get_or-member (names_of ss) (name_place (names_of ss) t) [] h)

  pub other-member : (ts : List Stream) {u : Stream} → Memᴰ u (other_streams ss ts) → Memᴰ u ts × (place_of ss u.name ≡ length ss)
  unfolding other_streams
  other-member [] m = absurd (mathlib.Core.List.Memᴰ.not-nil m)
  other-member (t ∷ ts) {u} m = by (eqb (place_of ss t.name) (length ss)) refl (λ n. other-member ts n) m
    where
      later : Memᴰ u ts × (place_of ss u.name ≡ length ss) → Memᴰ u (t ∷ ts) × (place_of ss u.name ≡ length ss)
      later x = (mathlib.Core.List.Memᴰ.tail x.0, x.1)

      by : (b : Bool) → eqb (place_of ss t.name) (length ss) ≡ b → (Memᴰ u (other_streams ss ts) → Memᴰ u ts × (place_of ss u.name ≡ length ss))
          → Memᴰ u (cond b (t ∷ other_streams ss ts) (other_streams ss ts)) → Memᴰ u (t ∷ ts) × (place_of ss u.name ≡ length ss)
      by true e again (mathlib.Core.List.Memᴰ.head p) = (mathlib.Core.List.Memᴰ.head p, ap (λ (x : Stream). place_of ss x.name) p ∙ eqb-true (place_of ss t.name) (length ss) e)
      by true e again (mathlib.Core.List.Memᴰ.tail n) = later (again n)
      by false e again n = later (again n)

  pub other_or_known : (ts : List Stream) {t : Stream} → Memᴰ t ts → place_of ss t.name ≡ length ss → Memᴰ t (other_streams ss ts)
  unfolding other_streams
  other_or_known [] m e = absurd (mathlib.Core.List.Memᴰ.not-nil m)
  other_or_known (s ∷ ts) {t} m e = by (eqb (place_of ss s.name) (length ss)) refl (λ n. other_or_known ts n e) m
    where
      by : (b : Bool) → eqb (place_of ss s.name) (length ss) ≡ b → (Memᴰ t ts → Memᴰ t (other_streams ss ts)) → Memᴰ t (s ∷ ts) → Memᴰ t (cond b (s ∷ other_streams ss ts) (other_streams ss ts))
      by true q again (mathlib.Core.List.Memᴰ.head p) = mathlib.Core.List.Memᴰ.head p
      by true q again (mathlib.Core.List.Memᴰ.tail n) = mathlib.Core.List.Memᴰ.tail (again n)
      by false q again (mathlib.Core.List.Memᴰ.head p) = absurd (eqb-false (place_of ss s.name) (length ss) q (ap (λ (x : Stream). place_of ss x.name) (sym p) ∙ e))
      by false q again (mathlib.Core.List.Memᴰ.tail n) = again n

pub others-none : (ts : List Stream) → other_streams [] ts ≡ ts
unfolding other_streams name_place
others-none [] = refl
others-none (t ∷ ts) = ap (t ∷◌) (others-none ts)

-- ---- names and ranges among the joined streams

covers-by : (js ss : List Stream) → ((t : Stream) → Memᴰ t ss → Memᴰ t.name (names_of js)) → ((t u : Stream) → Memᴰ t ss → Memᴰ u js → u.name ≡ t.name → u.range ≡ t.range) → Covers js ss
covers-by js ss there same = record { place = inside; range = λ t m d. same t (get_or js (place_of js t.name) d) m (get_or-member js (place_of js t.name) d (inside t m)) (named t m d) }
  where
    inside : (t : Stream) → Memᴰ t ss → place_of js t.name < length js
    inside t m = let l = place_of-member (names_of js) t.name (there t m) in let n = names_long js in omega arith

    named : (t : Stream) → Memᴰ t ss → (d : Stream) → (get_or js (place_of js t.name) d).name ≡ t.name
    named t m d = sym (get_d_map name_of js (place_of js t.name) d [] (inside t m)) ∙ place_of-token (names_of js) t.name (place_of-member (names_of js) t.name (there t m))

module _ (ss ts : List Stream) (once : NoRepeats (names_of ss)) (once' : NoRepeats (names_of ts)) (shared : SharedAlike ss ts) where
  pub covers-left : Covers (joined_streams ss ts) ss
  covers-left = covers-by (joined_streams ss ts) ss (λ t m. mathlib.Core.List.Memᴰ.map name_of (append_left (other_streams ss ts) m)) (λ t u m n e. by t u m e (append-split ss (other_streams ss ts) n))
    where
      by : (t u : Stream) → Memᴰ t ss → u.name ≡ t.name → Memᴰ u ss ⊎ Memᴰ u (other_streams ss ts) → u.range ≡ t.range
      by t u m e (inl n) = ap (λ (x : Stream). x.range) (same-stream ss once u t n m e)
      by t u m e (inr n) = absurd (known-place ss (subst (λ x. Memᴰ x (names_of ss)) (sym e) (mathlib.Core.List.Memᴰ.map name_of m)) (other-member ss ts n).1)

  pub covers-right : Covers (joined_streams ss ts) ts
  covers-right = covers-by (joined_streams ss ts) ts (λ t m. there t m (dec_lt (place_of ss t.name) (length ss))) (λ t u m n e. by t u m e (append-split ss (other_streams ss ts) n))
    where
      there : (t : Stream) → Memᴰ t ts → Dec (place_of ss t.name < length ss) → Memᴰ t.name (names_of (joined_streams ss ts))
      there t m (yes l) = rw (map-append name_of ss (other_streams ss ts)) (append_left (names_of (other_streams ss ts)) (place-known ss t.name l))
      there t m (no l) = mathlib.Core.List.Memᴰ.map name_of (append_right ss (other_or_known ss ts m (let h = place_le ss t.name in omega arith)))

      by : (t u : Stream) → Memᴰ t ts → u.name ≡ t.name → Memᴰ u ss ⊎ Memᴰ u (other_streams ss ts) → u.range ≡ t.range
      by t u m e (inl n) = (shared.alike u t n m e).same_range
      by t u m e (inr n) = ap (λ (x : Stream). x.range) (same-stream ts once' u t (other-member ss ts n).0 m e)

-- ---- the stream at the place of a name

module _ (s : StreamsDescription) (once : NoRepeats (names_of (description_of s))) (t : Stream) where
  pub alike-at-place : (place : ℕ) → place ≡ place_of (description_of s) t.name → place < s.count → (r : Bool) → Says r (IsAlike (stream_in s place) t) → Says r (AlikeAt (description_of s) t)
  alike-at-place place e h r told = says_both r (λ a u m q. subst (λ x. IsAlike x t) (same-stream (description_of s) once (stream_in s place) u here m (named ∙ sym q)) a) (λ all. all (stream_in s place) here named) told
    where
      here : Memᴰ (stream_in s place) (description_of s)
      here = stream-member s 0 s.count place (omega arith) (omega arith)

      named : (stream_in s place).name ≡ t.name
      named =
          let l = streams-length s 0 s.count in
          let n = names_long (description_of s) in
          ap name_of (sym (stream_at s place h absent_stream)) ∙ sym (get_d_map name_of (description_of s) place absent_stream [] (omega arith)) ∙ ap (λ p. get_or (names_of (description_of s)) p []) e
          ∙ place_of-token (names_of (description_of s)) t.name (omega arith)

  pub alike-nowhere : {place : ℕ} → place ≡ place_of (description_of s) t.name → s.count ≤ place → AlikeAt (description_of s) t
  alike-nowhere e h u m q =
      absurd (known-place (description_of s) (subst (λ x. Memᴰ x (names_of (description_of s))) q (mathlib.Core.List.Memᴰ.map name_of m)) (let l = streams-length s 0 s.count in let k = place_le (description_of s) t.name in omega arith))
