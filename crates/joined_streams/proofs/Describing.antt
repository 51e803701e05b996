-- Streams put behind those of a description, one after the other, are described as the streams together; more than eight are counted. From the laws of
-- padded lists (header) and of described streams (streams).
use Prim.Native.Nat.{ℕ, zero, suc, ◌+◌, ◌-◌, ◌*◌, ◌≤◌, ◌<◌, min}
use native.Mathlib.Omega.{arith}
use mathlib.Core.Path.{◌≡◌, refl, sym, ap, subst, ◌∙◌}
use mathlib.Core.Bool.{Bool, true, false, cond}
use mathlib.Core.List.Memᴰ
use mathlib.Core.List.{List, [], ◌∷◌, ◌++◌, map, map-append, append-nil, append_assoc, Memᴰ}
use lib.Dec.{eqb, ltb}
use lib.IntN.{pos}
use lib.ListN.{length, get_or, drop, set, replicate, length-map, length-append, length-drop, length-replicate}
use lib.Seq.{sets, append_snoc, length-take-le}
use borrow.Author.Tests.{lt-ltb}
use Rattle.meaning.specs.Expression.{Stream}
use Rattle.meaning.specs.Window.{join_over}
use Rattle.nodes.specs.Code.{stream_kind_code}
use Rattle.nodes.specs.Bounds.{lows_of, highs_of}
use Rattle.sheet.specs.Names.{eight_bytes, ShortNames}
use Rattle.header.specs.Streams.{padded, name_bytes, name_lengths, stream_kind_codes}
use Rattle.header.proofs.Streams.{padded-set, padded_sets, padded-further}
use Rattle.streams.specs.Description.{none_described, kind_with, stream_in, described_from, description_of}
use Rattle.streams.specs.declared.StreamsDescription.{StreamsDescription}
use Rattle.streams.proofs.Fit.{streams-length, stream_origin}
use Rattle.streams.proofs.Stored.{description_stored}
use Rattle.joined_streams.specs.Joined.{place_of, other_streams, joined_streams}
use Rattle.joined_streams.specs.Describing.{describe, appended, only_counted, with_described, with_others, joined_description}
use Rattle.joined_streams.proofs.Joining.{others-none}

-- ---- one stream more

join_more : {X Y : Type 0} (f : X → List Y) (xs : List X) (x : X) → join_over f (xs ++ (x ∷ [])) ≡ join_over f xs ++ f x
join_more f [] x = append-nil (f x)
join_more f (y ∷ xs) x = ap (f y ++◌) (join_more f xs x) ∙ sym (append_assoc (f y) (join_over f xs) (f x))

padded-more : {A : Type 0} (z : A) (f : Stream → A) (js : List Stream) (x : Stream) → length js < 8 → set (padded 8 z (map f js)) (length js) (f x) ≡ padded 8 z (map f (js ++ (x ∷ [])))
padded-more z f js x few =
    ap (λ i. set (padded 8 z (map f js)) i (f x)) (sym (length-map js f)) ∙ padded-set 8 z (map f js) (f x) (let e = length-map js f in omega arith) ∙ ap (padded 8 z) (sym (map-append f js (x ∷ [])))

-- the bytes of names that fit their eight
name-room : (js : List Stream) → ShortNames js → length (name_bytes js) ≡ length js * 8
name-room [] short = refl
name-room (x ∷ js) short =
    let a = length-append (eight_bytes x) (name_bytes js) in
    let b = length-append x.name (replicate (8 - length x.name) 0) in
    let c = length-replicate {A = ℕ} (8 - length x.name) 0 in
    let d = short x (Memᴰ.head refl) in
    let e = name-room js (λ y m. short y (Memᴰ.tail m)) in
    omega arith

kind-code : (c : ℕ) → c ≤ 1 → stream_kind_code (kind_with c) ≡ c
kind-code zero h = refl
kind-code (suc zero) h = refl
kind-code (suc (suc c)) h = absurd (omega arith)

-- A stream of a description that fits: its name has the length that is said, and its kind the code.
pub record FitsAt (from : StreamsDescription) (k : ℕ) : Type 0 where
  pub names_long : length from.names ≡ 64
  pub inside : k < 8
  pub short : get_or from.lengths k 0 ≤ 8
  pub kind : get_or from.kinds k 0 ≤ 1

module _ {from : StreamsDescription} {k : ℕ} (f : FitsAt from k) where
  pub name_length : length (stream_in from k).name ≡ get_or from.lengths k 0
  name_length =
      let d = length-drop (k * 8) from.names in
      let n = f.names_long in
      let i = f.inside in
      let s = f.short in
      length-take-le (min (get_or from.lengths k 0) 8) (drop (k * 8) from.names) (omega arith) ∙ omega arith

  pub appended_describes : (js : List Stream) → length js < 8 → ShortNames js → appended (describe js) from k ≡ describe (js ++ (stream_in from k ∷ []))
  appended_describes js few short =
      let x = stream_in from k in
      let l = name_length in
      let s = f.short in
      let room = name-room js short in
      let count : length js + 1 ≡ length (js ++ (x ∷ [])) = let a = length-append js (x ∷ []) in omega arith in
      let names : sets (padded 64 0 (name_bytes js)) (length js * 8) x.name ≡ padded 64 0 (name_bytes (js ++ (x ∷ []))) =
      ap (λ i. sets (padded 64 0 (name_bytes js)) i x.name) (sym room) ∙ padded_sets 64 0 (name_bytes js) x.name (omega arith) ∙ padded-further 64 0 (name_bytes js) x.name 8 (omega arith) (omega arith) ∙ ap (padded 64 0) (sym (join_more eight_bytes js x)) in
      let lengths = ap (λ v. set (padded 8 0 (name_lengths js)) (length js) v) (sym l) ∙ padded-more 0 (λ y. length y.name) js x few in
      let lows = padded-more (pos 0) (λ y. y.range.low) js x few in
      let highs = padded-more (pos 0) (λ y. y.range.high) js x few in
      let kinds = ap (λ v. set (padded 8 0 (stream_kind_codes js)) (length js) v) (sym (kind-code (get_or from.kinds k 0) f.kind)) ∙ padded-more 0 (λ y. stream_kind_code y.kind) js x few in
      λ i. record { count = count i; names = names i; lengths = lengths i; lows = lows i; highs = highs i; kinds = kinds i }

pub short-more : (js : List Stream) (x : Stream) → ShortNames js → length x.name ≤ 8 → ShortNames (js ++ (x ∷ []))
short-more [] x short h y (Memᴰ.head e) = subst (λ (z : Stream). length z.name ≤ 8) (sym e) h
short-more [] x short h y (Memᴰ.tail m) = absurd (Memᴰ.not-nil m)
short-more (z ∷ js) x short h y (Memᴰ.head e) = short y (Memᴰ.head e)
short-more (z ∷ js) x short h y (Memᴰ.tail m) = short-more js x (λ u n. short u (Memᴰ.tail n)) h y m

-- ---- the others

-- how many streams there are then
pub described-count : (to from : StreamsDescription) (k : ℕ) → (with_described to from k).count ≡ to.count + 1
described-count to from k = by (ltb to.count 8)
  where
    by : (b : Bool) → (cond b (appended to from k) (only_counted to)).count ≡ to.count + 1
    by true = refl
    by false = refl

module _ (known from : StreamsDescription) where
  pub others-count : (n k : ℕ) (to : StreamsDescription) → (with_others known from to k n).count ≡ to.count + length (other_streams (description_of known) (described_from from k n))
  unfolding with_others other_streams described_from
  others-count zero k to = omega arith
  others-count (suc n) k to = by (eqb (place_of (description_of known) (stream_in from k).name) (length (description_of known))) (λ t. others-count n (suc k) t)
    where
      by : (b : Bool) → ((t : StreamsDescription) → (with_others known from t (suc k) n).count ≡ t.count + length (other_streams (description_of known) (described_from from (suc k) n)))
          → (with_others known from (cond b (with_described to from k) to) (suc k) n).count
          ≡ to.count + length (cond b (stream_in from k ∷ other_streams (description_of known) (described_from from (suc k) n)) (other_streams (description_of known) (described_from from (suc k) n)))
      by true again = let a = again (with_described to from k) in let c = described-count to from k in omega arith
      by false again = again to

  module _ (fits : (k : ℕ) → k < from.count → FitsAt from k) where
    pub others-describe : (n k : ℕ) → k + n ≤ from.count → (js : List Stream) → ShortNames js → length (js ++ other_streams (description_of known) (described_from from k n)) ≤ 8
        → with_others known from (describe js) k n ≡ describe (js ++ other_streams (description_of known) (described_from from k n))
    unfolding with_others other_streams described_from
    others-describe zero k h js short few = ap describe (sym (append-nil js))
    others-describe (suc n) k h js short few = by (eqb (place_of (description_of known) (stream_in from k).name) (length (description_of known))) (λ l m. others-describe n (suc k) (omega arith) l m) few
      where
        by : (b : Bool) → ((l : List Stream) → ShortNames l → length (l ++ (other_streams (description_of known) (described_from from (suc k) n))) ≤ 8 → with_others known from (describe l) (suc k) n ≡ describe (l ++ (other_streams (description_of known) (described_from from (suc k) n)))) → length (js ++ cond b ((stream_in from k) ∷ (other_streams (description_of known) (described_from from (suc k) n))) (other_streams (description_of known) (described_from from (suc k) n))) ≤ 8 → with_others known from (cond b (with_described (describe js) from k) (describe js)) (suc k) n ≡ describe (js ++ cond b ((stream_in from k) ∷ (other_streams (description_of known) (described_from from (suc k) n))) (other_streams (description_of known) (described_from from (suc k) n)))
        by true again l =
            let a = length-append js ((stream_in from k) ∷ (other_streams (description_of known) (described_from from (suc k) n))) in
            let room : length js < 8 = omega arith in
            let one : with_described (describe js) from k ≡ describe (js ++ ((stream_in from k) ∷ [])) =
            ap (λ b. cond b (appended (describe js) from k) (only_counted (describe js))) (lt-ltb (length js) 8 room) ∙ appended_describes (fits k (omega arith)) js room short in
            ap (λ t. with_others known from t (suc k) n) one
            ∙ again (js ++ ((stream_in from k) ∷ [])) (short-more js (stream_in from k) short (let m = name_length (fits k (omega arith)) in let s = (fits k (omega arith)).short in omega arith)) (subst (λ y. length y ≤ 8) (sym (append_snoc js (stream_in from k) (other_streams (description_of known) (described_from from (suc k) n)))) l)
            ∙ ap describe (append_snoc js (stream_in from k) (other_streams (description_of known) (described_from from (suc k) n)))
        by false again l = again js short l

pub others-none-left : (known from all : StreamsDescription) (i : ℕ) → with_others known from all i 0 ≡ all
unfolding with_others
others-none-left known from all i = refl

-- one turn of the loop
pub others-step : (known from all : StreamsDescription) (i count : ℕ) → i < count
    → with_others known from all i (count - i) ≡ with_others known from (cond (eqb (place_of (description_of known) (stream_in from i).name) (length (description_of known))) (with_described all from i) all) (i + 1) (count - (i + 1))
unfolding with_others
others-step known from all i count h =
    let e : count - i ≡ suc (count - (i + 1)) = omega arith in
    let j : suc i ≡ i + 1 = omega arith in
    ap (with_others known from all i) e
    ∙ ap (λ k. with_others known from (cond (eqb (place_of (description_of known) (stream_in from i).name) (length (description_of known))) (with_described all from i) all) k (count - (i + 1))) j

-- ---- the joined streams

-- all of the left streams come first, as many as they are
pub first_count : (left : StreamsDescription) → (with_others none_described left none_described 0 left.count).count ≡ left.count
unfolding described_from
first_count left =
    let a = others-count none_described left left.count 0 none_described in
    let b = ap length (others-none (description_of left)) in
    let c = streams-length left 0 left.count in
    omega arith

module _ (left right : StreamsDescription) (few : left.count ≤ 8) (fits : (k : ℕ) → k < left.count → FitsAt left k) (fits' : (k : ℕ) → k < right.count → FitsAt right k) where
  abbrev first : StreamsDescription
  first = with_others none_described left none_described 0 left.count

  none-known : description_of none_described ≡ []
  unfolding described_from
  none-known = refl

  -- all of the left streams come first
  first-is : first ≡ describe (description_of left)
  first-is =
      let e : other_streams (description_of none_described) (description_of left) ≡ description_of left = ap (λ ss. other_streams ss (description_of left)) none-known ∙ others-none (description_of left) in
      others-describe none_described left fits left.count 0 (omega arith) [] (λ x m. absurd (Memᴰ.not-nil m)) (let a = ap length e in let b = streams-length left 0 left.count in omega arith) ∙ ap describe e

  left-short : ShortNames (description_of left)
  left-short x m = let (i, a, b, e) = stream_origin left 0 left.count x m in let l = name_length (fits i (omega arith)) in let s = (fits i (omega arith)).short in let q = ap (λ (y : Stream). length y.name) e in omega arith

  pub joined-count : (joined_description left right).count ≡ length (joined_streams (description_of left) (description_of right))
  joined-count =
      let a = others-count left right right.count 0 first in
      let b = ap (λ (s : StreamsDescription). s.count) first-is in
      let c = length-append (description_of left) (other_streams (description_of left) (description_of right)) in
      omega arith

  pub joined_describes : length (joined_streams (description_of left) (description_of right)) ≤ 8 → joined_description left right ≡ describe (joined_streams (description_of left) (description_of right))
  joined_describes h = ap (λ t. with_others left right t 0 right.count) first-is ∙ others-describe left right fits' right.count 0 (omega arith) (description_of left) left-short h

-- What is described of streams with short names are the streams.
pub described-back : (js : List Stream) → ShortNames js → description_of (describe js) ≡ js
described-back js short = description_stored (replicate (64 - length (name_bytes js)) 0) (replicate (8 - length (name_lengths js)) 0) (replicate (8 - length (lows_of js)) (pos 0)) (replicate (8 - length (highs_of js)) (pos 0)) (replicate (8 - length (stream_kind_codes js)) 0) js short
