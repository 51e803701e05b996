-- Which widths hold the products and sums of letter counts and letter numbers. The width is a parameter; the proofs of the functions that reckon
-- with them (`values`, `product`, `letter_number` and `fill_letters` here, `next_number` in records) cite these laws at 32. A count that is cut is
-- at most 1,025, and the number of a letter is below 1,024.
use Prim.Native.Nat.{ℕ, ◌+◌, ◌*◌, ◌^◌, ◌≤◌, ◌<◌}
use native.Mathlib.Omega.{arith}
use native.Mathlib.Nat.{le_trans, lt_of_le_of_lt, mul-le-mul}
use lib.Pow.{pow_mono}

-- The greatest product of two cut counts fits every width from 21 bits on.
pub wide_enough : {n : ℕ} → 21 ≤ n → 1025 * 1025 < 2 ^ n
wide_enough h = le_trans (omega arith) (pow_mono h)

-- A product of two cut counts fits.
pub product_fits : (n : ℕ) → 1025 * 1025 < 2 ^ n → {a b : ℕ} → a ≤ 1025 → b ≤ 1025 → a * b < 2 ^ n
product_fits n wide p q = lt_of_le_of_lt (mul-le-mul p q) wide

-- So does the number of a letter with the digit of one more stream.
pub next-number-fits : (n : ℕ) → 1025 * 1025 < 2 ^ n → {number size digit : ℕ} → number < 1024 → size ≤ 1025 → digit ≤ 1025 → number * size + digit < 2 ^ n
next-number-fits n wide {number} p q r = let most : number ≤ 1023 = omega arith in let h = mul-le-mul most q in omega arith

-- A cut count fits, and the number of a letter.
pub count_fits : (n : ℕ) → 1025 < 2 ^ n → {count : ℕ} → count ≤ 1025 → count < 2 ^ n
count_fits n wide p = lt_of_le_of_lt p wide
