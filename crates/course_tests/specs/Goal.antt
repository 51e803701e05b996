-- The goal layer: the fewest letters that lead to a final row, where each row has its layer.
use Rattle.std.specs.Prelude.{◌≡◌, ◌⊎◌, ℕ, ◌<◌, ◌≤◌}

-- the layer of a row that is not met
abbrev pub not_met : ℕ
not_met = 65535

-- v is the least layer of a final row among the first m, or `not_met` if none of them is met
pub record IsGoalBelow (final layer : ℕ → ℕ) (m v : ℕ) : Type 0 where
  pub least : (i : ℕ) → i < m → final i ≡ 1 → v ≤ layer i
  pub attained : (v ≡ not_met) ⊎ ((i : ℕ) × (i < m) × (final i ≡ 1) × (layer i ≡ v))
