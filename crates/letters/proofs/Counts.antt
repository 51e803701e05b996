-- Counts of letters: how many values a stream has, products that are cut, and the streams that two lists describe.
use Prim.Native.Nat.{ℕ, zero, suc, ◌+◌, ◌-◌, ◌*◌, ◌≤◌, ◌<◌, min}
use native.Mathlib.Omega.{arith}
use native.Mathlib.Decide.{dec_le}
use native.Mathlib.Nat.{mul-le-mul_left, mul_comm, mul-one, mul-zero, min-eq_left, min-eq_right}
use mathlib.Core.Path.{◌≡◌, refl, sym, ◌∙◌, ap, ap₂, subst}
use mathlib.Core.Bool.{Bool, true, false}
use mathlib.Core.List.{List, [], ◌∷◌}
use lib.IntN.{ℤ, pos, negsuc, nat_abs, ◌+ℤ◌, ◌-ℤ◌}
use lib.ListN.{length, get_or, drop}
use lib.Seq.{drop-cons, drop-length}
use lib.Signed.{lt_z, le_z, ◌≤ℤ◌}
use borrow.Author.Tests.{ltb-true, lt-leb, lt-ltb}
use mir.Syntax.{w64}
use mir.Val.{SFits, to_z}
use mir.ValLaws.{to_z-of_z}
use Rattle.basics.proofs.Tests.{true_of_T}
use Rattle.meaning.specs.Expression.{absent_stream}
use Rattle.meaning.specs.Letter.{size, letter_count}
use Rattle.arithmetic.proofs.Machine.{held, held_both}
use Rattle.letters.specs.Described.{ranged, described, cut_count}
use Rattle.letters.proofs.Above.{lt_z_false}

-- ---- how many values a stream has

lt_z_le_z : (a b : ℤ) → lt_z b a ≡ true → le_z a b ≡ false
lt_z_le_z (pos a) (pos b) e = lt-leb a b (ltb-true b a e)
lt_z_le_z (pos a) (negsuc b) e = refl
lt_z_le_z (negsuc a) (pos b) e = let y : ◌≡◌ {A = ℕ} 0 1 = cc in absurd (omega arith)
lt_z_le_z (negsuc a) (negsuc b) e = lt-leb b a (ltb-true a b e)

-- What a test that a number is below another says of the other order, for numbers that were held.
pub below_no : (a b : ℤ) → SFits w64 a → SFits w64 b → lt_z (held a) (held b) ≡ true → le_z b a ≡ false
below_no a b fa fb e = lt_z_le_z b a (sym (held_both lt_z a b fa fb) ∙ e)

pub below_yes : (a b : ℤ) → SFits w64 a → SFits w64 b → lt_z (held a) (held b) ≡ false → le_z b a ≡ true
below_yes a b fa fb e = true_of_T (le_z b a) (lt_z_false a b (sym (held_both lt_z a b fa fb) ∙ e)).le

-- The tests of two numbers that were held.
pub held-order : (a b : ℤ) → SFits w64 a → SFits w64 b → {t : Bool} → lt_z (held a) (held b) ≡ t → lt_z a b ≡ t
held-order a b fa fb e = sym (held_both lt_z a b fa fb) ∙ e

pub empty-size : (low high : ℤ) → lt_z high low ≡ true → 0 ≡ size (ranged low high).range
empty-size low high e = sym (simp (lt_z_le_z low high e))

true_le_z : (a b : ℤ) → a ≤ℤ b → le_z a b ≡ true
true_le_z a b h = true_of_T (le_z a b) h.le

pub some_size : (low high : ℤ) → low ≤ℤ high → suc (nat_abs (high -ℤ low)) ≡ size (ranged low high).range
some_size low high h = sym (simp (true_le_z low high h))

pub size-cut : (low high : ℤ) {d : ℕ} → low ≤ℤ high → d ≡ min (nat_abs (high -ℤ low)) 1024 → d + 1 ≡ cut_count (size (ranged low high).range)
size-cut low high h e = let s = some_size low high h in omega arith

-- ---- products that are cut

cut_high : (a b : ℕ) → 1025 ≤ a → cut_count (1025 * cut_count b) ≡ cut_count (a * b)
cut_high a zero h = ap cut_count (mul-zero 1025 ∙ sym (mul-zero a))
cut_high a (suc b) h =
    let p : 1025 * 1 ≤ 1025 * cut_count (suc b) = mul-le-mul_left {m = 1} {n = cut_count (suc b)} 1025 (omega arith) in
    let q : a * 1 ≤ a * suc b = mul-le-mul_left {m = 1} {n = suc b} a (omega arith) in
    let m = mul-one a in
    omega arith

-- A product of counts may be cut before it is taken.
pub cut_product : (a b : ℕ) → cut_count (cut_count a * cut_count b) ≡ cut_count (a * b)
cut_product a b = by (dec_le a 1025) (dec_le b 1025)
  where
    by : Dec (a ≤ 1025) → Dec (b ≤ 1025) → cut_count (cut_count a * cut_count b) ≡ cut_count (a * b)
    by (yes p) (yes q) = ap cut_count (ap₂ ◌*◌ (min-eq_left p) (min-eq_left q))
    by (no p) q = ap (λ x. cut_count (x * cut_count b)) (min-eq_right (omega arith)) ∙ cut_high a b (omega arith)
    by (yes p) (no q) =
        ap (λ x. cut_count (cut_count a * x)) (min-eq_right (omega arith)) ∙ ap cut_count (mul_comm (cut_count a) 1025) ∙ cut_high b a (omega arith) ∙ ap cut_count (mul_comm b a)

-- ---- the streams that two lists describe

pub length-described : (lows highs : List ℤ) → length (described lows highs) ≡ min (length lows) (length highs)
length-described [] highs = omega arith
length-described (l ∷ lows) [] = omega arith
length-described (l ∷ lows) (h ∷ highs) = let e = length-described lows highs in omega arith

get_or-described : (lows highs : List ℤ) (i : ℕ) → i < min (length lows) (length highs) → get_or (described lows highs) i absent_stream ≡ ranged (get_or lows i (pos 0)) (get_or highs i (pos 0))
get_or-described [] highs i h = absurd (omega arith)
get_or-described (l ∷ lows) [] i h = absurd (omega arith)
get_or-described (l ∷ lows) (h ∷ highs) zero b = refl
get_or-described (l ∷ lows) (h ∷ highs) (suc i) b = get_or-described lows highs i (omega arith)

module _ (lows highs : List ℤ) where
  pub described-end : {n : ℕ} → n ≡ min (length lows) (length highs) → drop n (described lows highs) ≡ []
  described-end e = ap (λ k. drop k (described lows highs)) (e ∙ sym (length-described lows highs)) ∙ drop-length (described lows highs)

  -- The streams from i on: stream i and those behind it.
  pub described-cons : (i : ℕ) → i < min (length lows) (length highs)
      → drop i (described lows highs) ≡ ranged (get_or lows i (pos 0)) (get_or highs i (pos 0)) ∷ drop (suc i) (described lows highs)
  described-cons i b =
      let l = length-described lows highs in
      drop-cons (described lows highs) i absent_stream (omega arith) ∙ ap (λ s. s ∷ drop (suc i) (described lows highs)) (get_or-described lows highs i b)

  -- How many letters the streams from i on have.
  abbrev pub count_from : ℕ → ℕ
  count_from i = letter_count (drop i (described lows highs))

  pub count_from-end : {n : ℕ} → n ≡ min (length lows) (length highs) → count_from n ≡ 1
  unfolding letter_count
  count_from-end e = ap letter_count (described-end e)

  pub count_from-step : (i : ℕ) → i < min (length lows) (length highs) → count_from i ≡ size (ranged (get_or lows i (pos 0)) (get_or highs i (pos 0))).range * count_from (suc i)
  unfolding letter_count
  count_from-step i b = ap letter_count (described-cons i b)

  -- One stream more: what the streams from i - 1 on have, from a stream's values and the count of the others, all cut.
  pub count-again : (i : ℕ) → 0 < i → i ≤ min (length lows) (length highs) → SFits w64 (get_or lows (i - 1) (pos 0)) → SFits w64 (get_or highs (i - 1) (pos 0))
      → {count v r : ℕ} → count ≡ cut_count (count_from i) → v ≡ cut_count (size (ranged (held (get_or lows (i - 1) (pos 0))) (held (get_or highs (i - 1) (pos 0)))).range)
      → r ≡ cut_count (v * count) → r ≡ cut_count (count_from (i - 1))
  count-again i p b fl fh {count} {v} {r} e f g =
      let n : suc (i - 1) ≡ i = omega arith in
      let low = get_or lows (i - 1) (pos 0) in
      let high = get_or highs (i - 1) (pos 0) in
      g ∙ ap₂ (λ x y. cut_count (x * y)) (f ∙ held_both (λ a b. cut_count (size (ranged a b).range)) low high fl fh) (e ∙ ap (λ k. cut_count (count_from k)) (sym n))
      ∙ cut_product (size (ranged low high).range) (count_from (suc (i - 1))) ∙ ap cut_count (sym (count_from-step (i - 1) (omega arith)))

  pub count-all : {i count : ℕ} → i ≡ 0 → count ≡ cut_count (count_from i) → count ≡ cut_count (letter_count (described lows highs))
  count-all z e = e ∙ ap (λ k. cut_count (count_from k)) z

-- ---- a value above the lowest

pub pos_held : (n : ℕ) → n < 4294967296 → to_z w64 n ≡ pos n
pos_held n h = simp (lt-ltb n 9223372036854775808 (omega arith))

module _ (low : ℤ) (fl : SFits w64 low) (digit : ℕ) (fd : digit < 4294967296) (f : SFits w64 (low +ℤ pos digit)) where
  raised_plain : held low +ℤ to_z w64 digit ≡ low +ℤ pos digit
  raised_plain = ap₂ ◌+ℤ◌ (to_z-of_z w64 low fl) (pos_held digit fd)

  pub raised-fits : SFits w64 (held low +ℤ to_z w64 digit)
  raised-fits = subst (SFits w64) (sym raised_plain) f

  pub raised-exact : held (held low +ℤ to_z w64 digit) ≡ low +ℤ pos digit
  raised-exact = ap held raised_plain ∙ to_z-of_z w64 (low +ℤ pos digit) f
