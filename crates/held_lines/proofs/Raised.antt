-- A count that is raised in a list: the list keeps its length, and a place beyond it is not stored to. From the definitions, by induction over the list.
use Prim.Native.Nat.{ℕ, zero, suc, ◌≤◌}
use native.Mathlib.Omega.{arith}
use mathlib.Core.Path.{◌≡◌, refl, ap}
use mathlib.Core.List.{List, [], ◌∷◌}
use lib.ListN.{length, get_or, set, length-set}
use Rattle.record_lines.specs.Runs.{one_more}
use Rattle.held_lines.specs.Held.{raised_count}

pub raised-length : (counts : List ℕ) (letter : ℕ) → length (raised_count counts letter) ≡ length counts
raised-length counts letter = length-set counts letter (one_more (get_or counts letter 0))

pub set_beyond : (l : List ℕ) (i v : ℕ) → length l ≤ i → set l i v ≡ l
set_beyond [] i v h = refl
set_beyond (x ∷ l) zero v h = absurd (omega arith)
set_beyond (x ∷ l) (suc i) v h = ap (λ m. x ∷ m) (set_beyond l i v (omega arith))
