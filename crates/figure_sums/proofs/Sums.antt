-- Sums over letters, and cut sums of a row. By induction over the letters.
use mathlib.Core.Path.{◌≡◌, refl}
use Prim.Native.Nat.{ℕ, zero, suc, ◌≤◌, ◌<◌, min}
use native.Mathlib.Omega.{arith}
use native.Mathlib.Decide.{ℕ_discrete}
use Rattle.figure_sums.specs.Sums.{letter_sum, figure_cut}

pub sum_same : (m : ℕ) (f g : ℕ → ℕ) → ((a : ℕ) → a < m → f a ≡ g a) → letter_sum m f ≡ letter_sum m g
sum_same zero f g h = refl
sum_same (suc m) f g h = let again = sum_same m f g (λ a l. h a (omega arith)) in let here = h m (omega arith) in omega arith

pub sum_le : (m : ℕ) (f g : ℕ → ℕ) → ((a : ℕ) → f a ≤ g a) → letter_sum m f ≤ letter_sum m g
sum_le zero f g h = omega arith
sum_le (suc m) f g h = let again = sum_le m f g h in let here = h m in omega arith

-- A cut sum of cut numbers is the cut sum.
pub sum-cut : (m : ℕ) (f : ℕ → ℕ) → min (letter_sum m (λ a. min (f a) figure_cut)) figure_cut ≡ min (letter_sum m f) figure_cut
sum-cut zero f = refl
sum-cut (suc m) f = let again = sum-cut m f in omega arith

pub sum-part : (m : ℕ) (f : ℕ → ℕ) (a : ℕ) → a < m → f a ≤ letter_sum m f
sum-part zero f a h = absurd (omega arith)
sum-part (suc m) f a h = elim (ℕ_discrete a m) [ yes e ↦ rw e (omega arith) | no e ↦ let again = sum-part m f a (omega arith) in omega arith ]
