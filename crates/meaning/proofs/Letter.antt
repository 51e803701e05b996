-- Letters and their numbers determine each other, and the numbers rise with the letters' values, the last stream fastest.
use Prim.Native.Nat.{ℕ, zero, suc, ◌+◌, ◌*◌, ◌/◌, ◌%◌, ◌≤◌, ◌<◌}
use native.Mathlib.Omega.{arith}
use native.Mathlib.Nat.{mod-lt, div-add-mod', div-lt_iff_lt-mul, le_of_suc-le-suc, not-suc-le-zero}
use mathlib.Core.Path.{◌≡◌, refl, ◌∙◌, ap, ap₂, subst}
use mathlib.Core.Bool.{Bool, true, false, cond}
use mathlib.Core.List.{List, [], ◌∷◌}
use lib.Dec.{T}
use lib.Arith.{digits_lt, digits_div, digits_mod}
use lib.IntN.{ℤ, pos, nat_abs, ◌+ℤ◌, ◌-ℤ◌}
use lib.Signed.{le_z, le_z_yes, ◌≤ℤ◌, ◌<ℤ◌}
use Rattle.basics.proofs.Tests.{cond_true}
use Rattle.meaning.specs.Arithmetic.{Interval, Within, truth_interval}
use lib.ListN.{length, get_or}
use Rattle.meaning.specs.Expression.{read_kind, set_kind, Stream, range_of}
use Rattle.meaning.specs.Letter.{Letter, IsLetter, none, more, size, letter_count, letter_number, letter_of, record_of}
use Rattle.meaning.proofs.Order.{≤ℤ_trans, ≤-+ℤ_pos, distance_+ℤ_pos, +ℤ_pos_distance, +ℤ_pos_≤, distance_≤, distance_<}

-- ---- how many numbers an interval holds

size_nonempty : (I : Interval) {n : ℕ} → n < size I → (I.low ≤ℤ I.high) × (n ≤ nat_abs (I.high -ℤ I.low))
size_nonempty I {n} h = let r = choice (le_z I.low I.high) h in (le_z_yes r.0, r.1)
  where
    choice : (c : Bool) {m : ℕ} → n < cond c (suc m) 0 → T c × (n ≤ m)
    choice true h = (tt, le_of_suc-le-suc h)
    choice false h = absurd (not-suc-le-zero h)

pub size-within : (I : Interval) (n : ℕ) → n < size I → Within I (I.low +ℤ pos n)
size-within I n h =
    let r = size_nonempty I h in
    record { above = ≤-+ℤ_pos I.low n; below = subst (λ z. (I.low +ℤ pos n) ≤ℤ z) (+ℤ_pos_distance r.0) (+ℤ_pos_≤ I.low r.1) }

pub within-size : (I : Interval) (x : ℤ) → Within I x → nat_abs (x -ℤ I.low) < size I
within-size I x h =
    let e = cond_true (le_z I.low I.high) (suc (nat_abs (I.high -ℤ I.low))) 0 (≤ℤ_trans h.above h.below).le in
    let l = distance_≤ h.above h.below in
    omega arith

-- ---- letters and numbers

-- A letter's values lie in the streams' ranges.
pub letter-within : {ss : List Stream} {l : Letter} → IsLetter ss l → (k : ℕ) → k < length ss → Within (range_of ss k) (get_or l k (pos 0))
letter-within none k b = absurd (not-suc-le-zero b)
letter-within (more w h) zero b = w
letter-within (more w h) (suc k) b = letter-within h k (le_of_suc-le-suc b)

pub letter_number-bound : {ss : List Stream} {l : Letter} → IsLetter ss l → letter_number ss l < letter_count ss
unfolding letter_number letter_count
letter_number-bound none = omega arith
letter_number-bound (more {s} {ss} {v} {l} w h) = digits_lt (within-size s.range v w) (letter_number-bound h)

pub letter_of-letter_number : {ss : List Stream} {l : Letter} → IsLetter ss l → letter_of ss (letter_number ss l) ≡ l
unfolding letter_number letter_of
letter_of-letter_number none = refl
letter_of-letter_number (more {s} {ss} {v} {l} w h) =
    let q = nat_abs (v -ℤ s.range.low) in
    let b = letter_number-bound h in
    ap₂ ◌∷◌ (ap (λ n. s.range.low +ℤ pos n) (digits_div q b) ∙ +ℤ_pos_distance w.above) (ap (letter_of ss) (digits_mod q b) ∙ letter_of-letter_number h)

pub positive-left : {n : ℕ} (a c : ℕ) → n < a * c → 0 < a
positive-left zero c h = omega arith
positive-left (suc a) c h = omega arith

pub positive-right : {n : ℕ} (a c : ℕ) → n < a * c → 0 < c
positive-right a zero h = omega arith
positive-right a (suc c) h = omega arith

pub letter_of-letter : (ss : List Stream) (n : ℕ) → n < letter_count ss → IsLetter ss (letter_of ss n)
unfolding letter_count letter_of
letter_of-letter [] n h = none
letter_of-letter (s ∷ ss) n h =
    let p = positive-right (size s.range) (letter_count ss) h in
    more (size-within s.range (n / letter_count ss) ((div-lt_iff_lt-mul p).1 h)) (letter_of-letter ss (n % letter_count ss) (mod-lt n p))

pub letter_number-letter_of : (ss : List Stream) (n : ℕ) → n < letter_count ss → letter_number ss (letter_of ss n) ≡ n
unfolding letter_count letter_number letter_of
letter_number-letter_of [] n h = omega arith
letter_number-letter_of (s ∷ ss) n h =
    let c = letter_count ss in
    let p = positive-right (size s.range) c h in
    ap₂ (λ q r. q * c + r) (distance_+ℤ_pos s.range.low (n / c)) (letter_number-letter_of ss (n % c) (mod-lt n p)) ∙ div-add-mod' n c

-- Where there is a stream, a number that is not below the count gives no letter.
pub letter-letter_of : (s : Stream) (ss : List Stream) (n : ℕ) → IsLetter (s ∷ ss) (letter_of (s ∷ ss) n) → n < letter_count (s ∷ ss)
unfolding letter_count letter_of
letter-letter_of s ss n (more w h) =
    let p : 0 < letter_count ss = let b = letter_number-bound h in omega arith in
    let b = within-size s.range (s.range.low +ℤ pos (n / letter_count ss)) w in
    (div-lt_iff_lt-mul p).0 (rw distance_+ℤ_pos at b)

-- ---- the order of the numbers

-- A letter stands before another if, in the first stream in which they differ, its value is the lower one.
pub data Before : Letter → Letter → Type 0 where
  here : {a b : ℤ} {l m : Letter} → a <ℤ b → Before (a ∷ l) (b ∷ m)
  there : {a b : ℤ} {l m : Letter} → a ≡ b → Before l m → Before (a ∷ l) (b ∷ m)

-- "Its number counts with the last stream fastest, values rising from the lowest, from 0."
-- As the numbers of the letters are those below their count, this settles every letter's number.
pub letter_number-rises : {ss : List Stream} {l m : Letter} → IsLetter ss l → IsLetter ss m → Before l m → letter_number ss l < letter_number ss m
unfolding letter_number
letter_number-rises (more {s} {ss} {v} {l} w h) (more {v = u} {l = m} w' h') (here p) =
    let d = digits_lt (distance_< w.above p) (letter_number-bound h) in
    omega arith
letter_number-rises (more {s} {ss} {v} {l} w h) (more {v = u} {l = m} w' h') (there e b) =
    let d = letter_number-rises h h' b in
    let c = ap (λ z. nat_abs (z -ℤ s.range.low) * letter_count ss) e in
    omega arith
letter_number-rises {m = m} none _ x8 = elim x8 [ ]

-- Two streams, 0 to 2 and 0 to 1: the letters 0 0, 0 1, 1 0, 1 1, 2 0 and 2 1, in this order.
abbrev two_streams : List Stream
two_streams = record { name = []; kind = read_kind; range = record { low = pos 0; high = pos 2 } } ∷ record { name = []; kind = set_kind; range = truth_interval } ∷ []

last_fastest : record_of two_streams (0 ∷ 1 ∷ 2 ∷ 3 ∷ 4 ∷ 5 ∷ [])
    ≡ (pos 0 ∷ pos 0 ∷ []) ∷ (pos 0 ∷ pos 1 ∷ []) ∷ (pos 1 ∷ pos 0 ∷ []) ∷ (pos 1 ∷ pos 1 ∷ []) ∷ (pos 2 ∷ pos 0 ∷ []) ∷ (pos 2 ∷ pos 1 ∷ []) ∷ []
unfolding letter_of letter_count
last_fastest = refl
