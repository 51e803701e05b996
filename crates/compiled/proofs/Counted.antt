-- Situations within the bound are counted as they are.
use Prim.Native.Nat.{ℕ, ◌≤◌, min}
use native.Mathlib.Omega.{arith}
use mathlib.Core.Path.{◌≡◌, ap}
use Rattle.outcome.specs.Compile.{situation_bound}
use Rattle.minimise.specs.declared.Minimised.{Minimised}
use Rattle.compiled.specs.Answer.{made_of}

pub all-counted : (rows n : ℕ) (table : Minimised) → n ≤ situation_bound → made_of rows (min n situation_bound) table ≡ made_of rows n table
all-counted rows n table h = ap (λ m. made_of rows m table) (omega arith)
