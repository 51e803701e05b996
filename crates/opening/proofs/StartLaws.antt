-- A start that is taken is a state of the table, and a state as it is printed is a start that is taken. From the definitions, and that a printed integer
-- reads back as it is (print, Decimal).
use Prim.Native.Nat.{ℕ, ◌<◌}
use native.Mathlib.Omega.{arith}
use mathlib.Core.Path.{◌≡◌, refl, subst}
use mathlib.Core.Bool.{Bool, true, false, cond, ◌&&◌}
use mathlib.Core.Option.{Option, none, some}
use lib.Dec.{ltb}
use lib.IntN.{ℤ, pos, negsuc, nat_abs}
use Rattle.basics.proofs.Reflects.{ltb_reflects, from_true, to_true}
use Rattle.text.specs.Bytes.{Token}
use Rattle.text.specs.Token.{is_integer, integer_value}
use Rattle.print.specs.Text.{decimal}
use Rattle.print.proofs.Decimal.{decimal-integer, decimal-value}
use Rattle.opening.specs.Start.{is_state_below, start_state}

below-test : {states n : ℕ} (z : ℤ) → cond (is_state_below states z) (some (nat_abs z)) none ≡ some n → n < states
below-test {states} {n} (pos m) e = go (ltb m states) refl e
  where
    go : (b : Bool) → ltb m states ≡ b → cond b (some m) none ≡ some n → n < states
    go true q r = let h : m ≡ n = cc in subst (λ i. i < states) h (from_true (ltb_reflects m states) q)
    go false q r = let z : ◌≡◌ {A = ℕ} 0 1 = cc in absurd (omega arith)
below-test (negsuc m) e = let z : ◌≡◌ {A = ℕ} 0 1 = cc in absurd (omega arith)

-- A start that is taken is a state of the table.
pub start-below : (states : ℕ) (start : Option Token) {n : ℕ} → 0 < states → start_state states start ≡ some n → n < states
unfolding start_state
start-below states none {n} h e = let z : ◌≡◌ {A = ℕ} 0 n = cc in subst (λ i. i < states) z h
start-below states (some t) {n} h e = go (is_integer t) e
  where
    go : (b : Bool) → cond (b && is_state_below states (integer_value t)) (some (nat_abs (integer_value t))) none ≡ some n → n < states
    go true q = below-test (integer_value t) q
    go false q = let z : ◌≡◌ {A = ℕ} 0 1 = cc in absurd (omega arith)

-- The start that a state of the table is written as is this state.
pub start-written : (states state : ℕ) → state < states → start_state states (some (decimal (pos state))) ≡ some state
unfolding start_state
start-written states state h = rw (decimal-integer (pos state), decimal-value (pos state), to_true (ltb_reflects state states) h)
