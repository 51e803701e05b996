-- The rows that `sluice` lends fit its tables: 32,768 entries, and 256 rows.
use Prim.Native.Nat.{ℕ, ◌*◌, ◌≤◌}
use native.Mathlib.Omega.{arith}
use native.Mathlib.Nat.{le_trans, div-mul-le_self, mul-le-mul_right}
use Rattle.lend.specs.Lend.{rows_lent}

pub lent-entries : (letters : ℕ) → rows_lent letters * letters ≤ 32768
lent-entries letters = le_trans (mul-le-mul_right letters (omega arith)) (div-mul-le_self 32768 letters)

pub lent_rows : (letters : ℕ) → rows_lent letters ≤ 256
lent_rows letters = omega arith
