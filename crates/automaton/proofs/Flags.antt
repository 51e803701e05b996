-- Laws of a byte that is 1 or 0 by meaning.
use mathlib.Core.Path.{◌≡◌, sym, ◌∙◌}
use mathlib.Core.Logic.{inl, inr}
use Prim.Native.Nat.{ℕ}
use native.Mathlib.Omega.{arith}
use Rattle.automaton.specs.Table.{IsFlag}

pub flag-set : {P : Type 0} {v : ℕ} → IsFlag P v → P → v ≡ 1
flag-set (inl x) p = x.0
flag-set (inr x) p = absurd (x.1 p)

pub flag-holds : {P : Type 0} {v : ℕ} → IsFlag P v → v ≡ 1 → P
flag-holds (inl x) e = x.1
flag-holds (inr x) e = absurd (omega (arith, x.0))

pub flag_transfer : {P Q : Type 0} {v : ℕ} → (P → Q) → (Q → P) → IsFlag P v → IsFlag Q v
flag_transfer f g (inl x) = inl (x.0, f x.1)
flag_transfer f g (inr x) = inr (x.0, λ q. x.1 (g q))

-- what the flag says settles the byte
pub flag_unique : {P Q : Type 0} {u v : ℕ} → (P → Q) → (Q → P) → IsFlag P u → IsFlag Q v → u ≡ v
flag_unique f g (inl x) (inl y) = x.0 ∙ sym y.0
flag_unique f g (inl x) (inr y) = absurd (y.1 (f x.1))
flag_unique f g (inr x) (inl y) = absurd (x.1 (g y.1))
flag_unique f g (inr x) (inr y) = x.0 ∙ sym y.0
