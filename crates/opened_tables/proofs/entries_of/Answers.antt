-- `opened_tables::entries_of` meets its contract: so few rows of so many letters can be counted.
use native.Mathlib.Omega.{arith}
use native.Mathlib.Nat.{mul-le-mul_right}
use Rattle.opened_tables.proofs.entries_of.Goals as goal

pub overflow_mul-rows : goal.overflow_mul-rows
overflow_mul-rows c = record { fits = omega (arith, mul-le-mul_right c.args.letters c.requires) }
