-- The digit of a letter's number at a stream says how far the letter's value lies above the stream's lowest. From the laws of letters, by induction over
-- the streams.
use Prim.Native.Nat.{ℕ, zero, suc, ◌+◌, ◌*◌, ◌/◌, ◌%◌, ◌≤◌, ◌<◌}
use native.Mathlib.Omega.{arith}
use native.Mathlib.Nat.{mul_assoc, mul_comm, mul-one, one-mul, le-mul_of_pos_right, mul-add-div_right, mul-add-mod_self_right, mod-eq_of_lt}
use mathlib.Core.Path.{◌≡◌, refl, sym, ◌∙◌, ap, subst}
use mathlib.Core.List.{List, [], ◌∷◌}
use lib.Arith.{digits_div}
use lib.Dec.{eqb}
use lib.IntN.{ℤ, pos, nat_abs, ◌+ℤ◌, ◌-ℤ◌}
use lib.ListN.{length, get_or, take, drop}
use lib.Seq.{drop-cons}
use lib.Signed.{◌≤ℤ◌}
use Rattle.basics.proofs.Reflects.{T-reflects, eqb_reflects, reflects_same}
use Rattle.meaning.specs.Value.{equal, compares}
use Rattle.meaning.specs.Expression.{Stream, absent_stream, range_of}
use Rattle.meaning.specs.Letter.{Letter, IsLetter, none, more, size, letter_count, letter_number}
use Rattle.meaning.proofs.Letter.{within-size, letter_number-bound}
use Rattle.meaning.proofs.Order.{distance_+ℤ_pos, +ℤ_pos_distance}
use Rattle.meaning.proofs.Value.{compares-equal}
use Rattle.records.specs.Machine.{stream_at}

-- ---- the letters of the streams before a stream, of the stream, and of those behind it

sizes-parted : (a b c : ℕ) {n : ℕ} → n ≡ b * c → a * n ≡ (a * b) * c
sizes-parted a b c e = ap (λ m. a * m) e ∙ sym (mul_assoc a b c)

pub count-parted : (ss : List Stream) (k : ℕ) → letter_count ss ≡ letter_count (take k ss) * letter_count (drop k ss)
unfolding letter_count
count-parted [] zero = refl
count-parted [] (suc k) = refl
count-parted (s ∷ ss) zero = sym (one-mul (letter_count (s ∷ ss)))
count-parted (s ∷ ss) (suc k) = sizes-parted (size s.range) (letter_count (take k ss)) (letter_count (drop k ss)) (count-parted ss k)

module _ (ss : List Stream) (k : ℕ) (known : k < length ss) where
  abbrev size_at : ℕ
  size_at = size (range_of ss k)

  abbrev before : ℕ
  before = letter_count (take k ss)

  abbrev behind : ℕ
  behind = letter_count (drop (suc k) ss)

  stream-there : drop k ss ≡ get_or ss k absent_stream ∷ drop (suc k) ss
  stream-there = drop-cons ss k absent_stream known

  pub count_at : letter_count (stream_at ss k) ≡ size_at
  unfolding letter_count
  count_at = ap (λ l. letter_count (take 1 l)) stream-there ∙ mul-one size_at

  pub count-around : letter_count ss ≡ before * (size_at * behind)
  unfolding letter_count
  count-around = count-parted ss k ∙ ap (λ l. before * letter_count l) stream-there

-- ---- factors

positive-left : {n : ℕ} (a b : ℕ) → n < a * b → 0 < a
positive-left zero b h = omega arith
positive-left (suc a) b h = omega arith

positive-right : {n : ℕ} (a b : ℕ) → n < a * b → 0 < b
positive-right a zero h = omega arith
positive-right a (suc b) h = omega arith

-- Each factor of a product that is not 0 is at least 1, and at most the product.
pub record Factors (a b c n : ℕ) : Type 0 where
  pub some_first : 0 < a
  pub some_second : 0 < b
  pub some_third : 0 < c
  pub first : a ≤ n
  pub second : b ≤ n
  pub third : c ≤ n

pub factors : (a b c n : ℕ) → n ≡ a * (b * c) → 0 < n → Factors a b c n
factors a b c n e h =
    let p : 0 < a * (b * c) = subst (λ m. 0 < m) e h in
    let x = positive-left a (b * c) p in
    let q = positive-right a (b * c) p in
    let y = positive-left b c q in
    let z = positive-right b c q in
    let u = le-mul_of_pos_right a q in
    let v = le-mul_of_pos_right b z in
    let w = le-mul_of_pos_right c y in
    let r : b * c * a ≡ a * (b * c) = mul_comm (b * c) a in
    let s = le-mul_of_pos_right (b * c) x in
    let t : c * b ≡ b * c = mul_comm c b in
    record { some_first = x; some_second = y; some_third = z; first = omega arith; second = omega arith; third = omega arith }

-- ---- the digit

-- The digits before a stream do not change its digit.
digit-behind : (d a b c m n : ℕ) → n ≡ a * (b * c) → 0 < c → (d * n + m) / c % b ≡ m / c % b
digit-behind d a b c m n e some =
    ap (λ x. (x + m) / c % b) (sizes-parted d (a * b) c (e ∙ sym (mul_assoc a b c)) ∙ ap (λ x. x * c) (sym (mul_assoc d a b)))
    ∙ ap (λ x. x % b) (mul-add-div_right some (d * a * b) m) ∙ mul-add-mod_self_right (d * a) b (m / c)

pub number-digit : {ss : List Stream} {l : Letter} → IsLetter ss l → (k : ℕ) → k < length ss
    → letter_number ss l / letter_count (drop (suc k) ss) % size (range_of ss k) ≡ nat_abs (get_or l k (pos 0) -ℤ (range_of ss k).low)
unfolding letter_number
number-digit none k b = absurd (omega arith)
number-digit (more {s} {ss} {v} {l} w h) zero b =
    ap (λ x. x % size s.range) (digits_div (nat_abs (v -ℤ s.range.low)) (letter_number-bound h)) ∙ mod-eq_of_lt (within-size s.range v w)
number-digit (more {s} {ss} {v} {l} w h) (suc k) b =
    let known : k < length ss = omega arith in
    let around = count-around ss k known in
    let some : 0 < letter_count ss = let q = letter_number-bound h in omega arith in
    let f = factors (letter_count (take k ss)) (size (range_of ss k)) (letter_count (drop (suc k) ss)) (letter_count ss) around some in
    digit-behind (nat_abs (v -ℤ s.range.low)) (letter_count (take k ss)) (size (range_of ss k)) (letter_count (drop (suc k) ss)) (letter_number ss l) (letter_count ss) around f.some_third
    ∙ number-digit h k known

-- ---- the value

-- A value above the lowest is the one so far above it, if and only if it lies so far above it.
pub value-digit : (low value : ℤ) → low ≤ℤ value → (digit : ℕ) → compares equal value (low +ℤ pos digit) ≡ eqb (nat_abs (value -ℤ low)) digit
value-digit low value above digit =
    let same = compares-equal value (low +ℤ pos digit) in
    reflects_same (T-reflects (compares equal value (low +ℤ pos digit))) (eqb_reflects (nat_abs (value -ℤ low)) digit)
    (λ t. ap (λ z. nat_abs (z -ℤ low)) (same.0 t) ∙ distance_+ℤ_pos low digit)
    (λ e. same.1 (sym (+ℤ_pos_distance above) ∙ ap (λ n. low +ℤ pos n) e))
