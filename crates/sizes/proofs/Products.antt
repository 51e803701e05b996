-- A product of numbers within bounds is small.
use Prim.Native.Nat.{ℕ, ◌*◌, ◌≤◌}
use native.Mathlib.Nat.{le_trans, mul-le-mul_left, mul-le-mul_right}

pub product_small : (a b : ℕ) → a ≤ 4096 → b ≤ 1024 → a * b ≤ 4096 * 1024
product_small a b h k = le_trans (mul-le-mul_right b h) (mul-le-mul_left 4096 k)
