-- A digit's class, and the number of a letter with one value more. From the definitions.
use Prim.Native.Nat.{ℕ, zero, suc, ◌+◌, ◌*◌, ◌^◌, ◌≤◌, ◌<◌}
use native.Mathlib.Omega.{arith}
use mathlib.Core.Path.{◌≡◌, refl, sym, ◌∙◌, ap, ap₂}
use mathlib.Core.Bool.{true, ◌&&◌}
use mathlib.Core.List.{List, [], ◌∷◌}
use lib.Dec.{leb, leb→le}
use lib.IntN.{ℤ}
use lib.ListN.{take, drop}
use borrow.Author.Tests.{lt-ltb, le-ltb, le-leb, ne_eqb}
use Rattle.basics.proofs.Tests.{T-of_true, and_left, and_right}
use Rattle.text.specs.Bytes.{is_inside}
use Rattle.text.specs.Token.{is_digit}
use Rattle.meaning.specs.Expression.{Stream}
use Rattle.meaning.specs.Letter.{letter_count}
use Rattle.sheet.specs.Refusal.{letter_bound}
use Rattle.letters.specs.Described.{described, cut_count, number_of}
use Rattle.letters.proofs.Widths.{next-number-fits}
use Rattle.record_names.specs.Line.{is_plain}
use Rattle.records.specs.Machine.{stream_at, next_number}

-- A digit is a plain byte inside a run.
pub digit_plain : (b : ℕ) → is_digit b ≡ true → is_plain b ≡ true
digit_plain b e =
    let t = T-of_true (is_digit b) e in
    let l = leb→le 48 b (and_left (leb 48 b) (leb b 57) t) in
    let h = leb→le b 57 (and_right (leb 48 b) (leb b 57) t) in
    ap₂ ◌&&◌ (le-leb 32 b (omega arith)) (le-leb b 126 (omega arith))

pub digit-inside : (b : ℕ) → is_digit b ≡ true → is_inside b ≡ true
digit-inside b e =
    let t = T-of_true (is_digit b) e in
    let l = leb→le 48 b (and_left (leb 48 b) (leb b 57) t) in
    let h = leb→le b 57 (and_right (leb 48 b) (leb b 57) t) in
    simp (le-leb 33 b (omega arith), le-leb b 126 (omega arith), ne_eqb b 40 (λ p. omega arith), ne_eqb b 41 (λ p. omega arith))

-- ---- the number of a letter

-- The stream at a place is described by the values there.
described-at : (lows highs : List ℤ) (k : ℕ) → described (take 1 (drop k lows)) (take 1 (drop k highs)) ≡ stream_at (described lows highs) k
described-at [] highs zero = refl
described-at [] highs (suc k) = refl
described-at (l ∷ lows) [] zero = refl
described-at (l ∷ lows) [] (suc k) = described-none (take 1 (drop k lows))
  where
    described-none : (xs : List ℤ) → described xs [] ≡ []
    described-none [] = refl
    described-none (x ∷ xs) = refl
described-at (l ∷ lows) (h ∷ highs) zero = refl
described-at (l ∷ lows) (h ∷ highs) (suc k) = described-at lows highs k

pub number_at : (lows highs : List ℤ) (k n : ℕ) {r : ℕ} {low high : List ℤ} {v w : ℤ} → low ≡ take 1 (drop k lows) → high ≡ take 1 (drop k highs) → w ≡ v
    → r ≡ next_number (described low high) n w → r ≡ next_number (stream_at (described lows highs) k) n v
number_at lows highs k n p q e f =
    f ∙ ap₂ (λ s x. next_number s n x) (ap₂ described p q ∙ described-at lows highs k) e

module _ (s : List Stream) (v : ℤ) {n d : ℕ} {w : ℤ} (h : n < 1024) (p : w ≡ v) (q : d ≡ number_of s (w ∷ [])) where
  digit : d ≡ number_of s (v ∷ [])
  digit = q ∙ ap (λ z. number_of s (z ∷ [])) p

  pub number-outside : 1024 ≤ d → 1024 ≡ next_number s n v
  number-outside k = sym (simp (lt-ltb n letter_bound h, le-ltb (number_of s (v ∷ [])) letter_bound (omega (arith, digit))))

  module _ {c : ℕ} (f : c ≡ cut_count (letter_count s)) where
    pub number_fits : (width : ℕ) → 1025 * 1025 < 2 ^ width → d < 1024 → n * c + d < 2 ^ width
    number_fits width wide k = next-number-fits width wide h (omega arith) (omega arith)

    pub number_more : d < 1024 → n * c + d ≡ next_number s n v
    number_more k = ap₂ (λ x y. n * x + y) f digit ∙ sym (simp (lt-ltb n letter_bound h, lt-ltb (number_of s (v ∷ [])) letter_bound (omega (arith, digit))))
