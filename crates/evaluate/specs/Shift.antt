-- What `next`s and the right sides of `fby`s before a part do: they lead to a part that ends earlier, at another place, and the value is the same.
-- "`next e` is e at i+1. `a fby b` is a at 0, and b at i−1 later." (document 01, "Meaning at time i")
use Rattle.std.specs.Prelude.{ℕ, ◌+◌, ◌-◌, ◌≤◌, ◌<◌, ◌≡◌, List, get_or}
use Rattle.nodes.specs.Evaluate.{Nodes, View, places, part_value}

-- The part that ends at d has, at the place q, the value of the part that ends at e at the place p, whatever else is stored.
pub record SameElsewhere (kinds : List ℕ) (count e p d q : ℕ) : Type 0 where
  pub same_value : (N : Nodes) (W : View) → N.kinds ≡ kinds → count ≡ places W → part_value N W d q ≡ part_value N W e p
  pub ends_within : d ≤ e
  pub place_within : q < count

-- It leads as far as there are such nodes with letters to read: a `next` stays only at the window's last letter, a `fby` only at its first.
pub record Shifts (kinds : List ℕ) (count e p d q : ℕ) : Type 0 where
  pub moved : SameElsewhere kinds count e p d q
  pub next_last : (d ≡ 0 → ⊥) → get_or kinds (d - 1) 0 ≡ 3 → count ≤ q + 1
  pub fby_first : (d ≡ 0 → ⊥) → get_or kinds (d - 1) 0 ≡ 6 → q ≡ 0
