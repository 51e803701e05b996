-- Parts of tables that were lent and came back with as many numbers: a part stands before the rest of its table.
use Prim.Native.Nat.{ℕ, ◌≤◌}
use native.Mathlib.Omega.{arith}
use mathlib.Core.Path.{◌≡◌}
use mathlib.Core.List.{List, ◌++◌}
use lib.ListN.{length, length-append}

pub back_fits : (back rest : List ℕ) {n : ℕ} → length back ≡ n → n ≤ length (back ++ rest)
back_fits back rest e = omega (arith, length-append back rest, e)
