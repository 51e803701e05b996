-- Laws of lists in room for more elements: how they come to be stored, and what is taken of them.
use Prim.Native.Nat.{ℕ, ◌+◌, ◌-◌, ◌≤◌}
use mathlib.Core.Path.{◌≡◌, sym, ap, ◌∙◌}
use mathlib.Core.List.{List, ◌++◌}
use native.Mathlib.Omega.{arith}
use lib.ListN.{length, take, drop, replicate, length-append, length-replicate}
use lib.Seq.{sets, sets-eq, take_at}
use Rattle.basics.proofs.Lists.{drop-replicate}
use Rattle.header.specs.Streams.{padded}

module _ {A : Type 0} (z : A) where
  -- A list that is stored from the start of empty room.
  pub sets_padded : (n : ℕ) (l : List A) → length l ≤ n → sets (replicate n z) 0 l ≡ padded n z l
  sets_padded n l h =
      let fits : 0 + length l ≤ length (replicate n z) = omega (arith, length-replicate n z) in
      let from : 0 + length l ≡ length l = omega arith in
      sets-eq l (replicate n z) 0 fits ∙ ap (λ k. l ++ drop k (replicate n z)) from ∙ ap (λ r. l ++ r) (drop-replicate z (length l) n)

  pub length-padded : (n : ℕ) (l : List A) → length l ≤ n → length (padded n z l) ≡ n
  length-padded n l h = omega (arith, length-append l (replicate (n - length l) z), length-replicate (n - length l) z)

  pub take-padded : (n : ℕ) (l : List A) {k : ℕ} → k ≡ length l → take k (padded n z l) ≡ l
  take-padded n l {k} e = take_at l (replicate (n - length l) z) k (sym e)
