-- The values of all letters, letter after letter: how many there are, each letter's place among them, and what `fill_letters` answers, from what
-- `letter_values` answers for one letter.
use Prim.Native.Nat.{ℕ, zero, suc, ◌+◌, ◌*◌, ◌/◌, ◌≤◌, ◌<◌, min}
use native.Mathlib.Omega.{arith}
use native.Mathlib.Nat.{mul_comm, mul-le-mul_right, suc-mul, zero-mul, le-div_iff_mul-le, div-lt_iff_lt-mul}
use native.Mathlib.Decide.{dec_lt}
use mathlib.Core.Path.{◌≡◌, refl, sym, ◌∙◌, ap, ap₂, subst}
use mathlib.Core.Bool.{Bool, true, false, cond, ◌&&◌}
use mathlib.Core.List.{List, [], ◌++◌, append_assoc, append-nil}
use lib.Dec.{leb}
use lib.IntN.{ℤ}
use lib.ListN.{length, take, drop, length-append, length-drop}
use lib.Seq.{take_at, drop_at, drop-drop, drop-length, length-take-le}
use borrow.Author.Tests.{le-leb, lt-leb}
use Rattle.basics.proofs.Reflects.{to_true}
use Rattle.meaning.specs.Expression.{Stream}
use Rattle.meaning.specs.Letter.{letter_count, letter_of}
use Rattle.meaning.proofs.Letter.{letter_of-letter}
use Rattle.nodes.proofs.Record.{letter-length}
use Rattle.sheet.specs.Refusal.{letter_bound}
use Rattle.letters.specs.Described.{described, cut_count, has_letter, with_letter, letters_below, has_room, with_letters}
use Rattle.letters.proofs.Counts.{length-described}
use Rattle.letters.proofs.Streams.{unnamed, letter_count-unnamed, letter_of-unnamed, length-unnamed, letter_reflects}

-- ---- the places of the letters

module _ (ss : List Stream) where
  letter_long : (a : ℕ) → a < letter_count ss → length (letter_of ss a) ≡ length ss
  letter_long a h = letter-length (letter_of-letter ss a h)

  pub below-long : (n : ℕ) → n ≤ letter_count ss → length (letters_below ss n) ≡ n * length ss
  unfolding letters_below
  below-long zero h = sym (zero-mul (length ss))
  below-long (suc n) h =
      omega (arith, length-append (letters_below ss n) (letter_of ss n), below-long n (omega arith), letter_long n h, suc-mul n (length ss))

  -- The values of letter a stand at its place, whatever follows the letters.
  pub letter-place : (n a : ℕ) (rest : List ℤ) → n ≤ letter_count ss → a < n → take (length ss) (drop (a * length ss) (letters_below ss n ++ rest)) ≡ letter_of ss a
  unfolding letters_below
  letter-place zero a rest l h = absurd (omega arith)
  letter-place (suc n) a rest l h = by (λ k. letter-place n a (letter_of ss n ++ rest) (omega arith) k) (dec_lt a n)
    where
      split : (letters_below ss n ++ letter_of ss n) ++ rest ≡ letters_below ss n ++ (letter_of ss n ++ rest)
      split = append_assoc (letters_below ss n) (letter_of ss n) rest

      here : take (length ss) (drop (n * length ss) ((letters_below ss n ++ letter_of ss n) ++ rest)) ≡ letter_of ss n
      here =
          ap (λ x. take (length ss) (drop (n * length ss) x)) split
          ∙ ap (take (length ss)) (drop_at (letters_below ss n) (letter_of ss n ++ rest) (n * length ss) (below-long n (omega arith)))
          ∙ take_at (letter_of ss n) rest (length ss) (letter_long n l)

      by : (a < n → take (length ss) (drop (a * length ss) (letters_below ss n ++ (letter_of ss n ++ rest))) ≡ letter_of ss a) → Dec (a < n)
          → take (length ss) (drop (a * length ss) ((letters_below ss n ++ letter_of ss n) ++ rest)) ≡ letter_of ss a
      by before (yes k) = ap (λ x. take (length ss) (drop (a * length ss) x)) split ∙ before k
      by before (no k) = let e : a ≡ n = omega arith in subst (λ x. take (length ss) (drop (x * length ss) ((letters_below ss n ++ letter_of ss n) ++ rest)) ≡ letter_of ss x) (sym e) here

-- ---- what `fill_letters` answers

pub room-there : (ss : List Stream) (room : ℕ) → letter_count ss ≤ letter_bound → letter_count ss * length ss ≤ room → has_room ss room ≡ true
unfolding has_room
room-there ss room few fits = simp (le-leb (letter_count ss) letter_bound few, le-leb (letter_count ss * length ss) room fits)

module _ (lows highs out : List ℤ) where
  abbrev streams : List Stream
  streams = described lows highs

  abbrev count : ℕ
  count = letter_count streams

  -- What the list holds once the first n letters are written.
  abbrev pub filled : ℕ → List ℤ
  filled n = letters_below streams n ++ drop (n * length streams) out

  -- The two parts of the answer: whether there is room, and the list.
  abbrev FillAnswer : Bool → List ℤ → Type 0
  FillAnswer r l = (r ≡ has_room streams (length out)) × (l ≡ with_letters streams out)

  none_of : has_room streams (length out) ≡ false → FillAnswer false out
  unfolding with_letters
  none_of e = (sym e, sym (simp e))

  all_of : has_room streams (length out) ≡ true → FillAnswer true (filled count)
  unfolding with_letters
  all_of e = (sym e, sym (simp e))

  pub too_many : {r : ℕ} → r ≡ cut_count count → 1024 < r → FillAnswer false out
  unfolding has_room
  too_many e h = none_of (simp (lt-leb count letter_bound (omega arith)))

  -- Before a letter is written the list is as it was.
  pub filled-start : out ≡ filled 0
  unfolding letters_below
  filled-start = ap (λ x. drop x out) (sym (zero-mul (length streams)))

  module _ {r : ℕ} (e : r ≡ cut_count count) (h : r ≤ 1024) where
    pub no_letter : r ≡ 0 → FillAnswer true out
    no_letter z =
        let n : 0 ≡ count = omega arith in
        let w : count * length streams ≤ length out = omega (arith, ap (λ x. x * length streams) n, zero-mul (length streams)) in
        let a = all_of (room-there streams (length out) (omega arith) w) in (a.0, filled-start ∙ ap filled n ∙ a.1)

    module _ {n : ℕ} (q : n ≡ min (length lows) (length highs)) (z : r ≡ 0 → ⊥) where
      width : n ≡ length streams
      width = q ∙ sym (length-described lows highs)

      exact : r ≡ count
      exact = omega arith

      turned : n * r ≡ count * length streams
      turned = (λ i. width i * exact i) ∙ mul_comm (length streams) count

      pub no_room : length out / r < n → FillAnswer false out
      unfolding has_room
      no_room l =
          let b : length out < n * r = (div-lt_iff_lt-mul {k = r} {x = length out} {y = n} (omega arith)).0 l in
          none_of (simp (le-leb count letter_bound (omega arith), lt-leb (count * length streams) (length out) (omega (arith, turned))))

      module _ (l : n ≤ length out / r) where
        fits : count * length streams ≤ length out
        fits = let b : n * r ≤ length out = (le-div_iff_mul-le {k = r} {x = n} {y = length out} (omega arith)).0 l in omega (arith, turned)

        -- One more letter fits behind the first ones.
        pub letter-fits : (a : ℕ) → a < r → a * n + n ≤ length out
        letter-fits a b =
            let m = mul-le-mul_right (length streams) (let c : suc a ≤ count = omega arith in c) in
            subst (λ x. a * x + x ≤ length out) (sym width) (omega (arith, m, suc-mul a (length streams), fits))

        -- So it can be written there.
        pub can_write_next : (a : ℕ) → a < r → (now : List ℤ) {at m : ℕ} → at ≡ a * n → m ≡ n → length now ≡ length out
            → has_letter streams a (length (take m (drop at now))) ≡ true
        can_write_next a b now {at} {m} p w long =
            let room : m ≤ length (drop at now) = omega (arith, length-drop at now, letter-fits a b) in
            let size = length-take-le m (drop at now) room in
            to_true (letter_reflects streams a (length (take m (drop at now)))) (record { few = omega arith; known = omega arith; fits = omega (arith, width) })

        one-letter : (a : ℕ) → a < r → (rest : List ℤ) → length streams ≤ length rest → with_letter streams a (take (length streams) rest) ≡ letter_of streams a
        unfolding with_letter
        one-letter a b rest k =
            let long = length-take-le (length streams) rest k in
            let t : has_letter streams a (length (take (length streams) rest)) ≡ true =
            to_true (letter_reflects streams a (length (take (length streams) rest))) (record { few = omega arith; known = omega arith; fits = omega arith }) in
            let none : drop (length streams) (take (length streams) rest) ≡ [] = ap (λ x. drop x (take (length streams) rest)) (sym long) ∙ drop-length (take (length streams) rest) in
            simp t (ap (λ x. letter_of streams a ++ x) none ∙ append-nil (letter_of streams a))

        -- Letter a is written behind the first a letters.
        pub filled-again : (a : ℕ) → a < r → {at m : ℕ} {now ys : List ℤ} → at ≡ a * n → m ≡ n → now ≡ filled a → ys ≡ with_letter streams a (take m (drop at now))
            → take at now ++ (ys ++ drop m (drop at now)) ≡ filled (suc a)
        unfolding letters_below
        filled-again a b {at} {m} {now} {ys} p w f y =
            let k = length streams in
            let first = letters_below streams a in
            let place : length first ≡ at = below-long streams a (omega arith) ∙ ap (λ x. a * x) (sym width) ∙ sym p in
            let front : take at now ≡ first = ap (take at) f ∙ take_at first (drop (a * k) out) at place in
            let rest : drop at now ≡ drop (a * k) out = ap (drop at) f ∙ drop_at first (drop (a * k) out) at place in
            let wide : m ≡ k = w ∙ width in
            let there : a * k + k ≤ length out = subst (λ x. a * x + x ≤ length out) width (letter-fits a b) in
            let written : ys ≡ letter_of streams a = y ∙ (λ i. with_letter streams a (take (wide i) (rest i))) ∙ one-letter a b (drop (a * k) out) (omega (arith, length-drop (a * k) out)) in
            (λ i. front i ++ (written i ++ drop (wide i) (rest i)))
            ∙ ap (λ x. first ++ (letter_of streams a ++ x)) (drop-drop k (a * k) out ∙ ap (λ x. drop x out) (sym (suc-mul a k)))
            ∙ sym (append_assoc first (letter_of streams a) (drop (suc a * k) out))

        pub all-filled : {now : List ℤ} {a : ℕ} → a ≡ r → now ≡ filled a → FillAnswer true now
        all-filled s f = let t = all_of (room-there streams (length out) (omega arith) fits) in (t.0, f ∙ ap filled (s ∙ exact) ∙ t.1)

-- ---- the sheet's streams

letters_below-unnamed : (ss : List Stream) (n : ℕ) → letters_below (unnamed ss) n ≡ letters_below ss n
unfolding letters_below
letters_below-unnamed ss zero = refl
letters_below-unnamed ss (suc n) = ap₂ ◌++◌ (letters_below-unnamed ss n) (letter_of-unnamed ss n)

pub has_room-unnamed : (ss : List Stream) (room : ℕ) → has_room (unnamed ss) room ≡ has_room ss room
unfolding has_room
has_room-unnamed ss room = ap₂ (λ m k. leb m letter_bound && leb (m * k) room) (letter_count-unnamed ss) (length-unnamed ss)

pub with_letters-unnamed : (ss : List Stream) (out : List ℤ) → with_letters (unnamed ss) out ≡ with_letters ss out
unfolding with_letters
with_letters-unnamed ss out =
    let count = letter_count-unnamed ss in
    let below : letters_below (unnamed ss) (letter_count (unnamed ss)) ≡ letters_below ss (letter_count ss) = ap (letters_below (unnamed ss)) count ∙ letters_below-unnamed ss (letter_count ss) in
    (λ i. cond (has_room-unnamed ss (length out) i) (below i ++ drop (count i * length-unnamed ss i) out) out)

-- ---- each letter in the list

-- The list with all letters at its front has each letter's values at the letter's place.
pub with_letters-letter : (ss : List Stream) (out : List ℤ) → has_room ss (length out) ≡ true → (a : ℕ) → a < letter_count ss
    → take (length ss) (drop (a * length ss) (with_letters ss out)) ≡ letter_of ss a
unfolding with_letters
with_letters-letter ss out room a h = simp room (letter-place ss (letter_count ss) a (drop (letter_count ss * length ss) out) (omega arith) h)
