-- The number that a joined letter's cut has: the values of the letter at the places of a sheet's own streams are a letter of these. From the places of names
-- and the laws of letters.
use Prim.Native.Nat.{ℕ, zero, suc, ◌≤◌, ◌<◌}
use native.Mathlib.Omega.{arith}
use mathlib.Core.Path.{◌≡◌, refl, sym, ap, ap₂, subst, ◌∙◌}
use mathlib.Core.Bool.{Bool, true, cond, ◌&&◌}
use mathlib.Core.List.{List, [], ◌∷◌, ◌++◌, Memᴰ}
use lib.Dec.{leb}
use lib.IntN.{ℤ, pos}
use lib.ListN.{length, get_or, take, drop, replicate, length-map, length-replicate, get_or-append}
use lib.Seq.{ext_get_or, get_or-take, length-take-le}
use borrow.Author.Tests.{le-leb}
use Rattle.basics.proofs.Lists.{get_d_map}
use Rattle.basics.proofs.Reflects.{to_true}
use Rattle.meaning.specs.Arithmetic.{Within}
use Rattle.meaning.specs.Expression.{Stream, absent_stream}
use Rattle.meaning.specs.Letter.{Letter, IsLetter, none, more, letter_count, letter_number, letter_of}
use Rattle.meaning.proofs.Letter.{letter_number-bound, letter_of-letter}
use Rattle.nodes.proofs.Record.{letter-length}
use Rattle.sheet.specs.Refusal.{letter_bound}
use Rattle.letters.specs.Described.{described, is_letter, number_of, has_letter, with_letter}
use Rattle.letters.proofs.Streams.{unnamed, length-unnamed, letter_count-unnamed, letter_of-unnamed, letter_number-unnamed, is_letter-unnamed, is_letter-complete, letter_reflects}
use Rattle.streams.specs.Description.{stream_in, description_of}
use Rattle.streams.specs.declared.StreamsDescription.{StreamsDescription}
use Rattle.streams.proofs.Fit.{streams-length, stream-member, lows-from, highs-from}
use Rattle.joined_streams.specs.Joined.{place_of, cut_letter, cut_number, Covers}
use Rattle.joined_streams.specs.Describing.{ArePlaces, ArePicked, CanCut}
use Rattle.joined_streams.proofs.Places.{stream_at}

-- ---- the cut of a letter is a letter

within-at : {js : List Stream} {l : Letter} → IsLetter js l → (p : ℕ) → p < length js → (d : Stream) → Within (get_or js p d).range (get_or l p (pos 0))
within-at none p h d = absurd (omega arith)
within-at (more w i) zero h d = w
within-at (more w i) (suc p) h d = within-at i p (omega arith) d

cut-letter : {js : List Stream} {l : Letter} → IsLetter js l → (ss : List Stream) → Covers js ss → IsLetter ss (cut_letter js ss l)
cut-letter i [] c = none
cut-letter {js} {l} i (s ∷ ss) c =
    more (subst (λ I. Within I (get_or l (place_of js s.name) (pos 0))) (c.range s (Memᴰ.head refl) absent_stream) (within-at i (place_of js s.name) (c.place s (Memᴰ.head refl)) absent_stream))
    (cut-letter i ss (record { place = λ t m. c.place t (Memᴰ.tail m); range = λ t m. c.range t (Memᴰ.tail m) }))

-- and has a number of theirs
pub cut_below : {js ss : List Stream} → Covers js ss → (a : ℕ) → a < letter_count js → cut_number js ss a < letter_count ss
cut_below {js} {ss} c a h = letter_number-bound (cut-letter (letter_of-letter js a h) ss c)

-- ---- what the calls for letters give

module _ (s : StreamsDescription) (lows : length s.lows ≡ 8) (highs : length s.highs ≡ 8) (few : s.count ≤ 8) where
  -- the streams that the lowest and highest values describe
  pub described-is : described (take s.count s.lows) (take s.count s.highs) ≡ unnamed (description_of s)
  described-is = ap₂ described (sym (lows-from s 0 s.count (omega arith))) (sym (highs-from s 0 s.count (omega arith)))

  -- the values of a letter
  pub values_are : (a : ℕ) → a < letter_count (description_of s) → letter_count (description_of s) ≤ letter_bound → {values : List ℤ}
      → values ≡ with_letter (described (take s.count s.lows) (take s.count s.highs)) a (replicate 8 (pos 0)) → (p : ℕ) → p < s.count → get_or values p (pos 0) ≡ get_or (letter_of (description_of s) a) p (pos 0)
  unfolding with_letter
  values_are a h most {values} e p l =
      let ds = unnamed (description_of s) in
      let long = length-unnamed (description_of s) in
      let count = streams-length s 0 s.count in
      let letters = letter_count-unnamed (description_of s) in
      let eight = length-replicate 8 (pos 0) in
      let there : has_letter ds a (length (replicate 8 (pos 0))) ≡ true = to_true (letter_reflects ds a (length (replicate 8 (pos 0)))) (record { few = omega arith; known = omega arith; fits = omega arith }) in
      let is : values ≡ letter_of ds a ++ drop (length ds) (replicate 8 (pos 0)) =
      e ∙ ap (λ d. with_letter d a (replicate 8 (pos 0))) described-is ∙ ap (λ b. cond b (letter_of ds a ++ drop (length ds) (replicate 8 (pos 0))) (replicate 8 (pos 0))) there in
      let size = letter-length (letter_of-letter (description_of s) a h) in
      let same = letter_of-unnamed (description_of s) a in
      ap (λ v. get_or v p (pos 0)) is ∙ get_or-append (letter_of ds a) (drop (length ds) (replicate 8 (pos 0))) (pos 0) p (let z = ap length same in omega arith) ∙ ap (λ v. get_or v p (pos 0)) same

  -- the number of a letter
  pub number_is : letter_count (description_of s) ≤ letter_bound → {l : Letter} → IsLetter (description_of s) l → {r : ℕ} → r ≡ number_of (described (take s.count s.lows) (take s.count s.highs)) l → r ≡ letter_number (description_of s) l
  unfolding number_of
  number_is most {l} i e =
      let ds = unnamed (description_of s) in
      let letters = letter_count-unnamed (description_of s) in
      let small : leb (letter_count ds) letter_bound ≡ true = le-leb (letter_count ds) letter_bound (omega arith) in
      let is : is_letter ds l ≡ true = is_letter-unnamed (description_of s) l ∙ is_letter-complete i in
      e ∙ ap (λ d. number_of d l) described-is ∙ ap₂ (λ (b c : Bool). cond (b && c) (letter_number ds l) letter_bound) small is ∙ letter_number-unnamed (description_of s) l

-- ---- the cut's number

module _ {joined own : StreamsDescription} (can : CanCut joined own) {places : List ℕ} (at : ArePlaces joined own places) where
  -- a place of an own stream is one of the joined streams
  pub place_inside : (k : ℕ) → k < own.count → get_or places k 0 < joined.count
  place_inside k h =
      let e = at.each k h in
      let l = can.covers.place (stream_in own k) (stream-member own 0 own.count k (omega arith) (omega arith)) in
      let n = streams-length joined 0 joined.count in
      omega arith

  module _ (a : ℕ) (known : a < letter_count (description_of joined)) {values found : List ℤ} (vs : (p : ℕ) → p < joined.count → get_or values p (pos 0) ≡ get_or (letter_of (description_of joined) a) p (pos 0))
      (picks : ArePicked values places found) (long : length found ≡ 8) where
    pub picked_is : take own.count found ≡ cut_letter (description_of joined) (description_of own) (letter_of (description_of joined) a)
    picked_is =
        let few = can.few_own in
        let t = length-take-le own.count found (omega arith) in
        let n = streams-length own 0 own.count in
        let m = length-map (description_of own) (λ (s : Stream). get_or (letter_of (description_of joined) a) (place_of (description_of joined) s.name) (pos 0)) in
        ext_get_or (pos 0) (take own.count found) (cut_letter (description_of joined) (description_of own) (letter_of (description_of joined) a)) (omega arith)
        (λ k h.
        let l : k < own.count = omega arith in
        get_or-take own.count found k (pos 0) l ∙ picks.each k (omega arith) ∙ vs (get_or places k 0) (place_inside k l) ∙ ap (λ p. get_or (letter_of (description_of joined) a) p (pos 0)) (at.each k l)
        ∙ ap (λ (s : Stream). get_or (letter_of (description_of joined) a) (place_of (description_of joined) s.name) (pos 0)) (sym (stream_at own k l absent_stream))
        ∙ sym (get_d_map (λ (s : Stream). get_or (letter_of (description_of joined) a) (place_of (description_of joined) s.name) (pos 0)) (description_of own) k absent_stream (pos 0) (omega arith)))

    pub cut-is-letter : IsLetter (description_of own) (cut_letter (description_of joined) (description_of own) (letter_of (description_of joined) a))
    cut-is-letter = cut-letter (letter_of-letter (description_of joined) a known) (description_of own) can.covers
