-- The magnitude of a number below 0, as `print::magnitude` computes it: one more than -1 less the number, which stays within the signed numbers.
use Prim.Native.Nat.{ℕ, suc, ◌+◌, ◌-◌}
use native.Mathlib.Omega.{arith}
use mathlib.Core.Path.{◌≡◌, sym, ◌∙◌, ap, subst}
use mathlib.Core.Bool.{true, cond}
use lib.Dec.{T}
use lib.IntN.{ℤ, pos, negsuc, nat_abs, ◌-ℤ◌}
use lib.Signed.{lt_z, non_neg}
use borrow.Author.Tests.{le-ltb}
use mir.Syntax.{w64}
use mir.Val.{SFits, Fits}
use mir.ValLaws.{to_z-of_z}
use Rattle.arithmetic.proofs.Machine.{held, number-negative}

less_one : (n : ℕ) → negsuc 0 -ℤ negsuc n ≡ pos n
less_one n = ap (λ t. cond t (negsuc (1 - suc (suc n))) (pos (suc n - 1))) (le-ltb (suc n) 1 (omega arith)) ∙ ap pos (omega arith)

module _ (z : ℤ) (f : SFits w64 z) (e : lt_z (held z) (pos 0) ≡ true) where
  abbrev rest : ℕ
  rest = (number-negative z f e).0

  negative : z ≡ negsuc rest
  negative = (number-negative z f e).1

  rest-fits : SFits w64 (pos rest)
  rest-fits = let g : SFits w64 (negsuc rest) = subst (SFits w64) negative f in record { sfits = omega arith }

  difference : negsuc 0 -ℤ held z ≡ pos rest
  difference = ap (λ x. negsuc 0 -ℤ x) (to_z-of_z w64 z f ∙ negative) ∙ less_one rest

  difference_held : held (negsuc 0 -ℤ held z) ≡ pos rest
  difference_held = ap held difference ∙ to_z-of_z w64 (pos rest) rest-fits

  pub difference_fits : SFits w64 (negsuc 0 -ℤ held z)
  difference_fits = subst (SFits w64) (sym difference) rest-fits

  pub difference_cast : T (non_neg (held (negsuc 0 -ℤ held z))) × Fits w64 (nat_abs (held (negsuc 0 -ℤ held z)))
  difference_cast = let h = rest-fits in subst (λ x. T (non_neg x) × Fits w64 (nat_abs x)) (sym difference_held) (tt, omega arith)

  pub magnitude-fits : Fits w64 (nat_abs (held (negsuc 0 -ℤ held z)) + 1)
  magnitude-fits = let h = rest-fits in subst (λ x. Fits w64 (nat_abs x + 1)) (sym difference_held) (omega arith)

  pub magnitude-exact : nat_abs (held (negsuc 0 -ℤ held z)) + 1 ≡ nat_abs z
  magnitude-exact = ap (λ x. nat_abs x + 1) difference_held ∙ omega arith ∙ ap nat_abs (sym negative)
