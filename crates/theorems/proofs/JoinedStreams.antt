-- Cuts of streams of integers: the word of a cut has the cuts of the word's letters, cuts of streams in their ranges are in theirs, and joined streams are in
-- their ranges where both cuts are. Joined streams are streams that an accepted sheet could have. From the places of names (joined_streams), and the laws of
-- letters and words (meaning).
use Prim.Native.Nat.{ℕ, zero, suc, ◌<◌}
use native.Mathlib.Omega.{arith}
use mathlib.Core.Path.{◌≡◌, refl, sym, ap, subst, ◌∙◌}
use mathlib.Core.Bool.{Bool, true, false, cond}
use mathlib.Core.Logic.{◌↔◌, ◌⊎◌, inl, inr}
use mathlib.Core.List.Memᴰ
use mathlib.Core.List.{List, [], ◌∷◌, ◌++◌, map, map-append, Memᴰ}
use lib.Dec.{eqb}
use lib.IntN.{ℤ, pos}
use lib.ListN.{length, get_or, length-map, length-append}
use Rattle.basics.specs.Count.{NoRepeats}
use Rattle.basics.proofs.Lists.{get_d_map}
use Rattle.basics.proofs.Reflects.{Reflects, holds, fails}
use Rattle.text.specs.Bytes.{Token}
use Rattle.text.proofs.Token.{same_bytes_reflects}
use Rattle.meaning.specs.Value.{Streams}
use Rattle.meaning.specs.Arithmetic.{Within}
use Rattle.meaning.specs.Expression.{Stream, absent_stream, Sheet, range_of, Solution}
use Rattle.meaning.specs.Letter.{letter_count, letter_number, letter_of, spell, letter_with, word_of, SolutionWord}
use Rattle.meaning.specs.Scope.{NamesKnown}
use Rattle.meaning.proofs.Interval.{InRange}
use Rattle.meaning.proofs.Word.{Spells, spell-ranged, word_of-spells, solution-word}
use Rattle.sheet.specs.Form.{names_of}
use Rattle.sheet.specs.Vocabulary.{name_place}
use Rattle.sheet.specs.Accepted.{AcceptedStreams}
use Rattle.sheet.proofs.Vocabulary.{place_of-member, place_of-token}
use Rattle.streams.specs.Description.{StreamsFit}
use Rattle.streams.proofs.Stored.{stored-fit}
use Rattle.joined_streams.specs.Joined.{place_of, other_streams, joined_streams, cut_number, SharedAlike, WithinBounds, Covers}
use Rattle.joined_streams.specs.Describing.{describe}
use Rattle.joined_streams.proofs.Places.{get_or-member}
use Rattle.joined_streams.proofs.Joining.{other-member, covers-left, covers-right}
use Rattle.theorems.specs.Joins.{cut_streams}
use Rattle.theorems.proofs.Following.{letter_with-same}

-- The values that a function gives to names, stream by stream.
named-values : (f : Token → ℤ) (ss : List Stream) → map (λ (s : Stream). f s.name) ss ≡ letter_with ss (λ k. f (get_or ss k absent_stream).name)
named-values f [] = refl
named-values f (s ∷ ss) = ap (f s.name ∷◌) (named-values f ss)

-- ---- cuts of streams that have the names of a sheet's streams, with their ranges

module _ {js ss : List Stream} (covers : Covers js ss) where
  own-place : (k : ℕ) → k < length ss → place_of js (get_or ss k absent_stream).name < length js
  own-place k h = covers.place (get_or ss k absent_stream) (get_or-member ss k absent_stream h)

  own_range : (k : ℕ) → k < length ss → range_of js (place_of js (get_or ss k absent_stream).name) ≡ range_of ss k
  own_range k h = covers.range (get_or ss k absent_stream) (get_or-member ss k absent_stream h) absent_stream

  -- A cut of streams in their ranges is in its own.
  pub cut-ranged : (w : Streams) → InRange js w → InRange ss (cut_streams js ss w)
  cut-ranged w ranged k i h =
      let p = place_of js (get_or ss k absent_stream).name in
      subst (λ I. Within I (w p i)) (own_range k h) (ranged p i (own-place k h))

  -- The cut of a word's letter is the letter of the cut's word.
  cut_word : (w : Streams) → InRange js w → (i : ℕ) → cut_number js ss (word_of js w i) ≡ word_of ss (cut_streams js ss w) i
  cut_word w ranged i =
      let values = letter_of js (word_of js w i) in
      ap (letter_number ss) (named-values (λ n. get_or values (place_of js n) (pos 0)) ss
      ∙ letter_with-same ss (λ k. get_or values (place_of js (get_or ss k absent_stream).name) (pos 0)) (λ k. w (place_of js (get_or ss k absent_stream).name) i)
      (λ k h. (word_of-spells js w ranged).agrees.same (place_of js (get_or ss k absent_stream).name) i (own-place k h)))

  cut-spells : (w : Streams) → InRange js w → Spells ss (λ t. cut_number js ss (word_of js w t)) (cut_streams js ss w)
  cut-spells w ranged = subst (λ x. Spells ss x (cut_streams js ss w)) (λ j t. sym (cut_word w ranged t) j) (word_of-spells ss (cut_streams js ss w) (cut-ranged w ranged))

-- The cut of the word is a solution word exactly if the cut of the streams is a solution.
pub cut-solution : {s : Sheet} → NamesKnown s → {js : List Stream} → Covers js s.streams → (w : Streams) → InRange js w
    → SolutionWord s (λ t. cut_number js s.streams (word_of js w t)) ↔ Solution s (cut_streams js s.streams w)
cut-solution known covers w ranged = solution-word known (cut-spells covers w ranged)

-- ---- names that stand once

once_append : {X : Type 0} (xs ys : List X) → NoRepeats xs → NoRepeats ys → ((x : X) → Memᴰ x xs → Memᴰ x ys → ⊥) → NoRepeats (xs ++ ys)
once_append [] ys a b apart = b
once_append {X} (x ∷ xs) ys a b apart = ((λ m. by (Memᴰ.append_cases xs m)), once_append xs ys a.1 b (λ y m n. apart y (Memᴰ.tail m) n))
  where
    by : Memᴰ x xs ⊎ Memᴰ x ys → ⊥
    by (inl m) = a.0 m
    by (inr m) = apart x (Memᴰ.head refl) m

-- The name at a place stands first there.
nth_place : (ns : List Token) → NoRepeats ns → (k : ℕ) → k < length ns → name_place ns (get_or ns k []) ≡ k
unfolding name_place
nth_place [] d k h = absurd (omega arith)
nth_place (n ∷ ns) d zero h = by (same_bytes_reflects n n)
  where
    by : {b : Bool} → Reflects (n ≡ n) b → cond b 0 (suc (name_place ns n)) ≡ 0
    by (holds e) = refl
    by (fails x) = absurd (x refl)
nth_place (n ∷ ns) d (suc k) h = by (same_bytes_reflects n (get_or ns k [])) (nth_place ns d.1 k (omega arith))
  where
    by : {b : Bool} → Reflects (n ≡ get_or ns k []) b → name_place ns (get_or ns k []) ≡ k → cond b 0 (suc (name_place ns (get_or ns k []))) ≡ suc k
    by (holds e) again = absurd (d.0 (subst (λ m. Memᴰ m ns) (sym e) (get_or-member ns k [] (omega arith))))
    by (fails x) again = ap suc again

abbrev name_of : Stream → Token
name_of s = s.name

stream-place : (js : List Stream) → NoRepeats (names_of js) → (k : ℕ) → k < length js → place_of js (get_or js k absent_stream).name ≡ k
stream-place js once k h =
    let l = length-map js name_of in
    ap (place_of js) (sym (get_d_map name_of js k absent_stream [] h)) ∙ nth_place (names_of js) once k (omega arith)

others-names_once : (ss us : List Stream) → NoRepeats (names_of us) → NoRepeats (names_of (other_streams ss us))
unfolding other_streams
others-names_once ss [] d = tt
others-names_once ss (u ∷ us) d = by (eqb (place_of ss u.name) (length ss)) (others-names_once ss us d.1)
  where
    by : (b : Bool) → NoRepeats (names_of (other_streams ss us)) → NoRepeats (names_of (cond b (u ∷ other_streams ss us) (other_streams ss us)))
    by true again = ((λ m. let v = Memᴰ.of_map name_of (other_streams ss us) m in d.0 (subst (λ n. Memᴰ n (names_of us)) v.2 (Memᴰ.map name_of (other-member ss us v.1).0))), again)
    by false again = again

-- ---- joined streams in their ranges

-- Where a stream's name is one of a sheet's, its values are those of the sheet's cut.
range_back : {js ss : List Stream} → NoRepeats (names_of js) → Covers js ss → (w : Streams) → InRange ss (cut_streams js ss w)
    → (k i : ℕ) → k < length js → Memᴰ (get_or js k absent_stream).name (names_of ss) → Within (range_of js k) (w k i)
range_back {js} {ss} once covers w ranged k i h m =
    let name = (get_or js k absent_stream).name in
    let p = place_of ss name in
    let l = length-map ss name_of in
    let known = place_of-member (names_of ss) name m in
    let inside : p < length ss = omega arith in
    let named : (get_or ss p absent_stream).name ≡ name = sym (get_d_map name_of ss p absent_stream [] inside) ∙ place_of-token (names_of ss) name known in
    let there : place_of js (get_or ss p absent_stream).name ≡ k = ap (place_of js) named ∙ stream-place js once k h in
    subst (λ q. Within (range_of js q) (w q i)) there (subst (λ I. Within I (w (place_of js (get_or ss p absent_stream).name) i)) (sym (own_range covers p inside)) (ranged p i inside))

-- ---- the joined streams of two lists of streams that accepted sheets could have

module _ {ss ts : List Stream} (A : AcceptedStreams ss) (B : AcceptedStreams ts) (shared : SharedAlike ss ts) where
  abbrev js : List Stream
  js = joined_streams ss ts

  pub covers-first : Covers js ss
  covers-first = covers-left ss ts A.no_repeats B.no_repeats shared

  pub covers-second : Covers js ts
  covers-second = covers-right ss ts A.no_repeats B.no_repeats shared

  -- Each joined stream is one of the first or of the second.
  joined-cases : {P : Type 0} (u : Stream) → Memᴰ u js → (Memᴰ u ss → P) → (Memᴰ u ts → P) → P
  joined-cases {P} u m f g = by (Memᴰ.append_cases ss m)
    where
      by : Memᴰ u ss ⊎ Memᴰ u (other_streams ss ts) → P
      by (inl n) = f n
      by (inr n) = g (other-member ss ts n).0

  joined_once : NoRepeats (names_of js)
  joined_once = subst NoRepeats (sym (map-append name_of ss (other_streams ss ts))) (once_append (names_of ss) (names_of (other_streams ss ts)) A.no_repeats (others-names_once ss ts B.no_repeats) apart)
    where
      apart : (n : Token) → Memᴰ n (names_of ss) → Memᴰ n (names_of (other_streams ss ts)) → ⊥
      apart n m o =
          let u = Memᴰ.of_map name_of (other_streams ss ts) o in
          let behind = (other-member ss ts u.1).1 in
          let inside = place_of-member (names_of ss) u.0.name (subst (λ x. Memᴰ x (names_of ss)) (sym u.2) m) in
          let l = length-map ss name_of in
          omega arith

  pub joined-accepted : WithinBounds js → AcceptedStreams js
  joined-accepted bounds =
      record {
        some_stream = let a = A.some_stream in let l = length-append ss (other_streams ss ts) in omega arith;
        stream_count = bounds.few_streams;
        are_names = λ n m. let u = Memᴰ.of_map name_of js m in joined-cases u.0 u.1
            (λ i. A.are_names n (subst (λ x. Memᴰ x (names_of ss)) u.2 (Memᴰ.map name_of i)))
            (λ i. B.are_names n (subst (λ x. Memᴰ x (names_of ts)) u.2 (Memᴰ.map name_of i)));
        no_reserved = λ n m. let u = Memᴰ.of_map name_of js m in joined-cases u.0 u.1
            (λ i. A.no_reserved n (subst (λ x. Memᴰ x (names_of ss)) u.2 (Memᴰ.map name_of i)))
            (λ i. B.no_reserved n (subst (λ x. Memᴰ x (names_of ts)) u.2 (Memᴰ.map name_of i)));
        no_repeats = joined_once;
        ranges_ordered = λ u m. joined-cases u m (A.ranges_ordered u) (B.ranges_ordered u);
        ranges_in_bounds = λ u m. joined-cases u m (A.ranges_in_bounds u) (B.ranges_in_bounds u);
      }

  -- So their description is fit for a further call.
  pub joined-fit : WithinBounds js → StreamsFit (describe js) (letter_count js)
  joined-fit bounds = stored-fit _ _ _ _ _ js (joined-accepted bounds) bounds.few_letters

  -- Streams are in the ranges of the joined streams where both cuts are in theirs.
  pub both-ranged : (w : Streams) → InRange ss (cut_streams js ss w) → InRange ts (cut_streams js ts w) → InRange js w
  both-ranged w f g k i h =
      joined-cases (get_or js k absent_stream) (get_or-member js k absent_stream h)
      (λ m. range_back joined_once covers-first w f k i h (Memᴰ.map name_of m))
      (λ m. range_back joined_once covers-second w g k i h (Memᴰ.map name_of m))
