-- Sums over the numbers below another, and sums that stay at the highest number of the machine. From the definition.
use Prim.Native.Nat.{ℕ, zero, suc, ◌+◌, ◌*◌, ◌/◌, ◌%◌, ◌≤◌, ◌<◌}
use native.Mathlib.Omega.{arith}
use native.Mathlib.Decide.{ℕ_discrete, dec_lt}
use native.Mathlib.Nat.{mul-le-mul, mul_assoc, mod-lt, div-add-mod', div-lt_iff_lt-mul}
use native.Mathlib.Numerals.{add-one}
use mathlib.Core.Path.{◌≡◌, refl, sym, ◌∙◌, ap, ap₂, subst}
use mathlib.Core.Bool.{cond}
use lib.Arith.{digits_div, digits_mod}
use lib.Dec.{eqb}
use borrow.Author.Tests.{eq-eqb, ne_eqb}
use Rattle.held_lines.specs.Held.{cut_lines, sum_below}

-- ---- sums that are cut

pub no_sum : (f : ℕ → ℕ) → 0 ≡ cut_lines (sum_below f 0)
unfolding sum_below
no_sum f = refl

-- One number more, which may be cut itself.
pub sum_more : (f : ℕ → ℕ) (i x : ℕ) {sum r : ℕ} → sum ≡ cut_lines (sum_below f i) → cut_lines x ≡ cut_lines (f i) → r ≡ cut_lines (sum + x) → r ≡ cut_lines (sum_below f (i + 1))
unfolding sum_below
sum_more f i x {sum} {r} p q e = let one = ap (λ n. cut_lines (sum_below f n)) (add-one i) in omega arith

-- Numbers that are equal once they are cut have sums that are.
pub cut_sum : (f g : ℕ → ℕ) (n : ℕ) → ((i : ℕ) → i < n → cut_lines (f i) ≡ cut_lines (g i)) → cut_lines (sum_below f n) ≡ cut_lines (sum_below g n)
unfolding sum_below
cut_sum f g zero h = refl
cut_sum f g (suc n) h = let rest = cut_sum f g n (λ i b. h i (omega arith)) in let last = h n (omega arith) in omega arith

-- The first letter of a block, as it is reckoned, is a number of the machine.
pub first_fits : (i size behind digit : ℕ) → i ≤ 1025 → size ≤ 1025 → behind ≤ 1025 → digit ≤ 4294967295
    → (i * size ≤ 1050625) × (i * size + digit ≤ 4296017920) × ((i * size + digit) * behind ≤ 4403418368000)
first_fits i size behind digit a b c d =
    let p : i * size ≤ 1025 * 1025 = mul-le-mul a b in
    let r : i * size + digit ≤ 4296017920 = omega arith in
    let q : (i * size + digit) * behind ≤ 4296017920 * 1025 = mul-le-mul r c in
    (omega arith, omega arith, omega arith)

-- ---- sums of what holds of one number only

-- 1 for the number itself, and 0 for every other.
abbrev pub hit : ℕ → ℕ → ℕ
hit a n = cond (eqb a n) 1 0

hit_same : (a n : ℕ) → a ≡ n → hit a n ≡ 1
hit_same a n e = ap (λ t. cond t 1 0) (eq-eqb a n e)

hit_other : (a n : ℕ) → (a ≡ n → ⊥) → hit a n ≡ 0
hit_other a n h = ap (λ t. cond t 1 0) (ne_eqb a n h)

pub sum_same : (f g : ℕ → ℕ) (n : ℕ) → ((i : ℕ) → i < n → f i ≡ g i) → sum_below f n ≡ sum_below g n
unfolding sum_below
sum_same f g zero h = refl
sum_same f g (suc n) h = ap₂ ◌+◌ (sum_same f g n (λ i b. h i (omega arith))) (h n (omega arith))

pub sum_add : (f g : ℕ → ℕ) (n : ℕ) → sum_below (λ i. f i + g i) n ≡ sum_below f n + sum_below g n
unfolding sum_below
sum_add f g zero = refl
sum_add f g (suc n) = let e = sum_add f g n in omega arith

pub sum-none : (f : ℕ → ℕ) (n : ℕ) → ((i : ℕ) → i < n → f i ≡ 0) → sum_below f n ≡ 0
unfolding sum_below
sum-none f zero h = refl
sum-none f (suc n) h = let e = sum-none f n (λ i b. h i (omega arith)) in let d = h n (omega arith) in omega arith

-- It is one of so many numbers from a number on.
pub sum_inside : (from m n : ℕ) → from ≤ n → n < from + m → sum_below (λ j. hit (from + j) n) m ≡ 1
unfolding sum_below
sum_inside from zero n a b = absurd (omega arith)
sum_inside from (suc m) n a b = by (dec_lt n (from + m)) (λ h. sum_inside from m n a h)
  where
    by : Dec (n < from + m) → (n < from + m → sum_below (λ j. hit (from + j) n) m ≡ 1) → sum_below (λ j. hit (from + j) n) m + hit (from + m) n ≡ 1
    by (yes h) again = let e = again h in let d = hit_other (from + m) n (λ z. omega arith) in omega arith
    by (no h) again =
        let e = sum-none (λ j. hit (from + j) n) m (λ j b'. hit_other (from + j) n (λ z. omega arith)) in
        let d = hit_same (from + m) n (omega arith) in
        omega arith

-- It is one of the numbers below another.
pub sum_one : (m n : ℕ) → n < m → sum_below (hit n) m ≡ 1
sum_one m n b = sum_same (hit n) (λ j. hit (0 + j) n) m (λ j c. turned j (ℕ_discrete n j)) ∙ sum_inside 0 m n (omega arith) (omega arith)
  where
    turned : (j : ℕ) → Dec (n ≡ j) → hit n j ≡ hit (0 + j) n
    turned j (yes e) = hit_same n j e ∙ sym (hit_same (0 + j) n (omega arith))
    turned j (no e) = hit_other n j e ∙ sym (hit_other (0 + j) n (λ z. e (omega arith)))

-- A block of letters has the number if and only if the quotient is the block's.
block_hit : (p behind n : ℕ) → 0 < behind → sum_below (λ j. hit (p * behind + j) n) behind ≡ hit p (n / behind)
block_hit p behind n some = by (ℕ_discrete p (n / behind))
  where
    parts : n / behind * behind + n % behind ≡ n
    parts = div-add-mod' n behind

    small : n % behind < behind
    small = mod-lt n some

    by : Dec (p ≡ n / behind) → sum_below (λ j. hit (p * behind + j) n) behind ≡ hit p (n / behind)
    by (yes e) =
        let z : p * behind ≡ n / behind * behind = ap (λ q. q * behind) e in
        sum_inside (p * behind) behind n (omega (arith, parts)) (omega (arith, parts, small)) ∙ sym (hit_same p (n / behind) e)
    by (no e) = sum-none (λ j. hit (p * behind + j) n) behind (λ j b. hit_other (p * behind + j) n (λ z. e (sym (digits_div p b) ∙ ap (λ m. m / behind) z))) ∙ sym (hit_other p (n / behind) e)

-- The letters with this digit have the number if and only if it has this digit.
pub blocks_hit : (before size behind digit n : ℕ) → 0 < behind → digit < size → n < before * (size * behind)
    → sum_below (λ i. sum_below (λ j. hit ((i * size + digit) * behind + j) n) behind) before ≡ hit (n / behind % size) digit
blocks_hit before size behind digit n some known below =
    sum_same (λ i. sum_below (λ j. hit ((i * size + digit) * behind + j) n) behind) (λ i. hit (i * size + digit) q) before (λ i b. block_hit (i * size + digit) behind n some) ∙ by (ℕ_discrete (q % size) digit)
  where
    q : ℕ
    q = n / behind

    few : q / size < before
    few = (div-lt_iff_lt-mul {k = size} (omega arith)).1 ((div-lt_iff_lt-mul {k = behind} some).1 (subst (λ m. n < m) (sym (mul_assoc before size behind)) below))

    by : Dec (q % size ≡ digit) → sum_below (λ i. hit (i * size + digit) q) before ≡ hit (q % size) digit
    by (yes e) =
        sum_same (λ i. hit (i * size + digit) q) (λ i. hit (0 + i) (q / size)) before (λ i b. one i (ℕ_discrete i (q / size)))
        ∙ sum_inside 0 before (q / size) (omega arith) (omega (arith, few)) ∙ sym (hit_same (q % size) digit e)
      where
        one : (i : ℕ) → Dec (i ≡ q / size) → hit (i * size + digit) q ≡ hit (0 + i) (q / size)
        one i (yes z) =
            let whole = div-add-mod' q size in
            let same : i * size ≡ q / size * size = ap (λ m. m * size) z in
            hit_same (i * size + digit) q (omega arith) ∙ sym (hit_same (0 + i) (q / size) (omega arith))
        one i (no z) = hit_other (i * size + digit) q (λ w. z (sym (digits_div i known) ∙ ap (λ m. m / size) w)) ∙ sym (hit_other (0 + i) (q / size) (λ w. z (omega arith)))
    by (no e) =
        sum-none (λ i. hit (i * size + digit) q) before (λ i b. hit_other (i * size + digit) q (λ z. e (ap (λ m. m % size) (sym z) ∙ digits_mod i known))) ∙ sym (hit_other (q % size) digit e)
