-- Copying numbers into a list from a place on.
use Rattle.std.specs.Prelude.{◌≡◌, List, ℕ, ◌+◌, ◌<◌, ◌≤◌, length}
use Rattle.std.proofs.Math.Seq.{paste}

-- the numbers stand in the list from `at` on, if they fit there; otherwise it is as it was
pub record Put (old : List ℕ) (at : ℕ) (numbers new : List ℕ) : Type 0 where
  pub copied : at + length numbers ≤ length old → new ≡ paste old at numbers (length numbers)
  pub refused : length old < at + length numbers → new ≡ old
