-- The number of a letter, counted value after value from the first stream on, is its number; and a value beyond the magnitude bound is outside
-- every range, whether it is cut or not. By induction over the streams, from the laws of letters.
use Prim.Native.Nat.{ℕ, zero, suc, ◌+◌, ◌*◌, ◌≤◌, ◌<◌}
use native.Mathlib.Omega.{arith}
use native.Mathlib.Decide.{dec_le}
use native.Mathlib.Nat.{le_trans, mul-le-mul_left, mul-le-mul_right, mul-pos, mul_assoc, mul-one, one-mul, add-mul, add_assoc}
use mathlib.Core.Path.{◌≡◌, refl, sym, ◌∙◌, ap, ap₂, subst}
use mathlib.Core.Bool.{Bool, true, false, cond, ◌&&◌, and-true, and-false}
use mathlib.Core.List.{List, [], ◌∷◌, Memᴰ}
use lib.Arith.{digits_lt}
use lib.Dec.{leb, ltb}
use lib.IntN.{ℤ, nat_abs, ◌-ℤ◌, negsuc, pos}
use lib.ListN.{length}
use lib.Signed.{le_z, ◌≤ℤ◌}
use borrow.Author.Tests.{le-leb, lt-ltb}
use Rattle.basics.proofs.Tests.{not-both}
use Rattle.basics.proofs.Reflects.{reflects, to_false}
use Rattle.meaning.specs.Expression.{Stream}
use Rattle.meaning.specs.Letter.{Letter, IsLetter, none, more, size, letter_count, letter_number}
use Rattle.meaning.proofs.Letter.{within-size}
use Rattle.sheet.specs.Refusal.{letter_bound, magnitude_bound, InBounds}
use Rattle.sheet.proofs.Accepted.{letter_count-positive}
use Rattle.nodes.proofs.Accepted.{in_bounds-small}
use Rattle.scan.specs.Integer.{cut, with_sign}
use Rattle.letters.specs.Described.{is_letter, number_of, cut_count}
use Rattle.letters.proofs.Above.{le_z_true}
use Rattle.letters.proofs.Streams.{is_letter-sound, is_letter-complete}
use Rattle.letters.proofs.Counts.{some_size}
use Rattle.records.specs.Machine.{next_number}

-- ---- a value of one stream

not-letter : (ss : List Stream) (l : Letter) → is_letter ss l ≡ false → number_of ss l ≡ letter_bound
unfolding number_of
not-letter ss l e = ap (λ t. cond t (letter_number ss l) letter_bound) (ap (λ t. leb (letter_count ss) letter_bound && t) e ∙ and-false (leb (letter_count ss) letter_bound))

module _ (s : Stream) (b : InBounds s.range) where
  no_letter : (m : Bool) (n : ℕ) → magnitude_bound < n → IsLetter (s ∷ []) (with_sign m n ∷ []) → ⊥
  no_letter true zero h w = omega arith
  no_letter true (suc n) h (more w none) = let z = in_bounds-small {I = s.range} {x = negsuc n} b w in omega arith
  no_letter false n h (more w none) = let z = in_bounds-small {I = s.range} {x = pos n} b w in omega arith

  beyond : (m : Bool) (n : ℕ) → magnitude_bound < n → is_letter (s ∷ []) (with_sign m n ∷ []) ≡ false
  beyond m n h =
      let v = with_sign m n ∷ [] in
      to_false (reflects (is_letter (s ∷ []) v) (is_letter-sound (s ∷ []) v) (λ e w. not-both (sym e ∙ is_letter-complete w))) (no_letter m n h)

  -- A number that is cut is the same value, or both are outside the range.
  pub number_cut : (m : Bool) (n : ℕ) → number_of (s ∷ []) (with_sign m (cut n) ∷ []) ≡ number_of (s ∷ []) (with_sign m n ∷ [])
  number_cut m n = by (dec_le n magnitude_bound)
    where
      by : Dec (n ≤ magnitude_bound) → number_of (s ∷ []) (with_sign m (cut n) ∷ []) ≡ number_of (s ∷ []) (with_sign m n ∷ [])
      by (yes h) = let e : cut n ≡ n = omega arith in ap (λ k. number_of (s ∷ []) (with_sign m k ∷ [])) e
      by (no h) = not-letter (s ∷ []) (with_sign m (cut n) ∷ []) (beyond m (cut n) (omega arith)) ∙ sym (not-letter (s ∷ []) (with_sign m n ∷ []) (beyond m n (omega arith)))

-- ---- all values

-- The number of the letter so far with the values of the streams.
abbrev pub number_after : List Stream → ℕ → Letter → ℕ
number_after [] n l = n
number_after (s ∷ ss) n [] = n
number_after (s ∷ ss) n (v ∷ l) = number_after ss (next_number (s ∷ []) n v) l

-- Once a value is outside its range the number stays.
outside-after : (ss : List Stream) (l : Letter) → number_after ss letter_bound l ≡ letter_bound
outside-after [] l = refl
outside-after (s ∷ ss) [] = refl
outside-after (s ∷ ss) (v ∷ l) = outside-after ss l

-- With one value more, of a stream with k values, where the streams behind it have c letters.
module _ (s : Stream) (v : ℤ) (n c : ℕ) (o : s.range.low ≤ℤ s.range.high) (p : 0 < c) (h : suc n * (size s.range * c) ≤ letter_bound) where
  abbrev k : ℕ
  k = size s.range

  abbrev d : ℕ
  d = nat_abs (v -ℤ s.range.low)

  abbrev in_range : Bool
  in_range = le_z s.range.low v && le_z v s.range.high

  some-values : (k ≤ letter_bound) × (n < letter_bound)
  some-values =
      let a = some_size s.range.low s.range.high o in
      let q : 0 < k * c = mul-pos {m = k} {n = c} (omega arith) p in
      let x : k * 1 ≤ k * c = mul-le-mul_left {m = 1} {n = c} k p in
      let y : 1 * (k * c) ≤ suc n * (k * c) = mul-le-mul_right {m = 1} {n = suc n} (k * c) (omega arith) in
      let z : suc n * 1 ≤ suc n * (k * c) = mul-le-mul_left {m = 1} {n = k * c} (suc n) q in
      (omega (arith, mul-one k, one-mul (k * c)), omega (arith, mul-one (suc n)))

  module _ (e : le_z s.range.low v ≡ true) (f : le_z v s.range.high ≡ true) where
    below : d < k
    below = within-size s.range v (record { above = le_z_true e; below = le_z_true f })

    number_is : number_of (s ∷ []) (v ∷ []) ≡ d
    unfolding number_of is_letter letter_number letter_count
    number_is = simp (le-leb (k * 1) letter_bound (omega (arith, mul-one k, some-values.0)), e, f) (omega (arith, mul-one d))

    next-is : next_number (s ∷ []) n v ≡ n * k + d
    unfolding letter_count
    next-is =
        ap (λ t. cond t (n * cut_count (letter_count (s ∷ [])) + number_of (s ∷ []) (v ∷ [])) letter_bound)
        (ap₂ ◌&&◌ (lt-ltb n letter_bound some-values.1) (lt-ltb (number_of (s ∷ []) (v ∷ [])) letter_bound (omega (arith, number_is, below, some-values.0))))
        ∙ ap₂ (λ x y. n * x + y) (let w : cut_count (k * 1) ≡ k = omega (arith, mul-one k, some-values.0) in w) number_is

    next-bound : suc (n * k + d) * c ≤ letter_bound
    next-bound =
        let m : suc (n * k + d) ≤ suc n * k = digits_lt {q = n} {m = suc n} (omega arith) below in
        le_trans (mul-le-mul_right c m) (subst (λ x. x ≤ letter_bound) (sym (mul_assoc (suc n) k c)) h)

    -- The digits behind it stay what they are.
    next-sum : (x : ℕ) → (n * k + d) * c + x ≡ n * (k * c) + (d * c + x)
    next-sum x = ap (λ y. y + x) (add-mul (n * k) d c ∙ ap (λ y. y + d * c) (mul_assoc n k c)) ∙ add_assoc (n * (k * c)) (d * c) x

  next-outside : in_range ≡ false → next_number (s ∷ []) n v ≡ letter_bound
  unfolding is_letter
  next-outside e =
      let x : is_letter (s ∷ []) (v ∷ []) ≡ false = ap (λ t. le_z s.range.low v && t) (and-true (le_z v s.range.high)) ∙ e in
      let y = not-letter (s ∷ []) (v ∷ []) x in
      ap (λ m. cond (ltb n letter_bound && ltb m letter_bound) (n * cut_count (letter_count (s ∷ [])) + m) letter_bound) y
      ∙ ap (λ t. cond t (n * cut_count (letter_count (s ∷ [])) + letter_bound) letter_bound) (and-false (ltb n letter_bound))

pub letter-after : (ss : List Stream) (n : ℕ) (l : Letter) → length l ≡ length ss → ((x : Stream) → Memᴰ x ss → x.range.low ≤ℤ x.range.high)
    → suc n * letter_count ss ≤ letter_bound → number_after ss n l ≡ cond (is_letter ss l) (n * letter_count ss + letter_number ss l) letter_bound
unfolding is_letter letter_number letter_count
letter-after [] n [] e o h = omega (arith, mul-one n)
letter-after [] n (v ∷ l) e o h = absurd (omega arith)
letter-after (s ∷ ss) n [] e o h = absurd (omega arith)
letter-after (s ∷ ss) n (v ∷ l) e o h =
    by (le_z s.range.low v) (le_z v s.range.high) refl refl (λ m q. letter-after ss m l (omega arith) (λ x m. o x (Memᴰ.tail m)) q)
  where
    p : s.range.low ≤ℤ s.range.high
    p = o s (Memᴰ.head refl)

    c : 0 < letter_count ss
    c = letter_count-positive ss (λ x m. o x (Memᴰ.tail m))

    by : (a b : Bool) → le_z s.range.low v ≡ a → le_z v s.range.high ≡ b
        → ((m : ℕ) → suc m * letter_count ss ≤ letter_bound → number_after ss m l ≡ cond (is_letter ss l) (m * letter_count ss + letter_number ss l) letter_bound)
        → number_after ss (next_number (s ∷ []) n v) l
        ≡ cond (a && (b && is_letter ss l)) (n * (size s.range * letter_count ss) + (nat_abs (v -ℤ s.range.low) * letter_count ss + letter_number ss l)) letter_bound
    by true true f g ih =
        ap (λ m. number_after ss m l) (next-is s v n (letter_count ss) p c h f g) ∙ ih (n * size s.range + nat_abs (v -ℤ s.range.low)) (next-bound s v n (letter_count ss) p c h f g)
        ∙ ap (λ x. cond (is_letter ss l) x letter_bound) (next-sum s v n (letter_count ss) p c h f g (letter_number ss l))
    by true false f g ih = ap (λ m. number_after ss m l) (next-outside s v n (letter_count ss) p c h (ap₂ ◌&&◌ f g)) ∙ outside-after ss l
    by false b f g ih = ap (λ m. number_after ss m l) (next-outside s v n (letter_count ss) p c h (ap (λ t. t && le_z v s.range.high) f)) ∙ outside-after ss l
