-- Clearing a list from a place on.
use Rattle.std.specs.Prelude.{◌≡◌, List, ℕ, ◌<◌, ◌≤◌, get_or, length}

-- every value from `from` on is `value`, and those before it are as they were
pub record FilledFrom {A : Type 0} (value : A) (old new : List A) (from : ℕ) : Type 0 where
  pub same : length new ≡ length old
  pub below : (i : ℕ) → i < from → get_or new i value ≡ get_or old i value
  pub beyond : (i : ℕ) → from ≤ i → get_or new i value ≡ value

-- every number from `from` on is 0, and those before it are as they were
abbrev pub ClearedFrom : List ℕ → List ℕ → ℕ → Type 0
ClearedFrom old new from = FilledFrom 0 old new from
