-- `replaying::entry_at` meets its contract: two numbers of 32 bits have a product of 64, and beyond the list the default of `get_or` is given.
use Prim.Native.Nat.{ℕ, ◌+◌, ◌*◌, ◌≤◌}
use native.Mathlib.Nat.{mul-le-mul}
use native.Mathlib.Omega.{arith}
use mathlib.Core.Path.{sym}
use lib.ListN.{get_or-eq_default}
use Rattle.replaying.proofs.entry_at.Goals as goal

product_fits : (a b : ℕ) → a ≤ 4294967295 → b ≤ 4294967295 → a * b ≤ 4294967295 * 4294967295
product_fits a b p q = mul-le-mul p q

pub overflow_mul-place : goal.overflow_mul-place
overflow_mul-place c = let h = product_fits c.args.state c.args.letters (omega arith) (omega arith) in omega arith

pub overflow_add-place : goal.overflow_add-place
overflow_add-place c = let h = product_fits c.args.state c.args.letters (omega arith) (omega arith) in omega arith

pub overflow_cast-result : goal.overflow_cast-result
overflow_cast-result c = omega (arith, c.type_inv.entries (c.args.state * c.args.letters + c.args.letter))

pub returns : goal.returns
returns c = sym (get_or-eq_default c.args.entries.now 0 c.if-place-entries.false)
