-- Which streams a sheet reads.
use Rattle.std.specs.Prelude.{ℕ, ◌<◌, ◌≡◌, length}
use mathlib.Core.List.{Memᴰ}
use Rattle.meaning.specs.Expression.{Constraint, Sheet}
use Rattle.meaning.specs.Interval.{SidesBelow}

-- The first n streams are the same.
pub record AgreeBelow {X : Type 0} (n : ℕ) (w v : ℕ → ℕ → X) : Type 0 where
  pub same : (k i : ℕ) → k < n → w k i ≡ v k i

-- Every name in a constraint of the sheet is one of the sheet's streams.
pub record NamesKnown (s : Sheet) : Type 0 where
  pub sides : (c : Constraint) → Memᴰ c s.constraints → SidesBelow (length s.streams) c
