-- What is needed of streams to count changes between letters' numbers: how many values each has, and whether it is set. A letter's number has the
-- values, counted from the lowest, as digits, the last stream's as the lowest digit.
use Rattle.std.specs.Prelude.{ℕ, zero, suc, ◌+◌, ◌*◌, ◌/◌, ◌%◌, ◌<◌, min, ◌≡◌, Bool, not, cond, ◌&&◌, List, [], ◌∷◌, eqb, get_or, length}
use Rattle.meaning.specs.Expression.{Stream}
use Rattle.meaning.specs.Letter.{size}
use Rattle.letters.specs.Described.{cut_count}
use Rattle.streams.specs.Description.{range_at, kind_with}
use Rattle.streams.specs.declared.StreamsDescription.{StreamsDescription}
use Rattle.changes.specs.Changes.{is_set_kind}
use Rattle.changes.specs.declared.Shape.{Shape}

-- One stream of so many values, whose changes count or do not.
pub record Axis : Type 0 where
  pub values : ℕ
  pub counts : Bool

abbrev pub axis_of : Stream → Axis
axis_of s = record { values = size s.range; counts = is_set_kind s.kind }

-- How many letters the streams make.
unfoldable pub letter_total : List Axis → ℕ
letter_total [] = 1
letter_total (x ∷ xs) = x.values * letter_total xs

-- How many set streams differ between the letters of two numbers.
unfoldable pub changed_along : List Axis → ℕ → ℕ → ℕ
changed_along [] a b = 0
changed_along (x ∷ xs) a b =
    cond (x.counts && not (eqb (a / letter_total xs) (b / letter_total xs))) 1 0 + changed_along xs (a % letter_total xs) (b % letter_total xs)

-- ---- the streams of a shape

abbrev pub axis_in : Shape → ℕ → Axis
axis_in s k = record { values = get_or s.sizes k 0; counts = is_set_kind (kind_with (get_or s.kinds k 0)) }

-- n streams from the k-th on.
unfoldable pub axes_from : Shape → ℕ → ℕ → List Axis
axes_from s k zero = []
axes_from s k (suc n) = axis_in s k ∷ axes_from s (suc k) n

abbrev pub axes_in : Shape → List Axis
axes_in s = axes_from s 0 (min s.count 8)

-- The shape of the streams that a host describes: a stream of more than 1,024 values counts as one of 1,025.
pub record IsShape (s : StreamsDescription) (r : Shape) : Type 0 where
  pub count : r.count ≡ s.count
  pub places : length r.sizes ≡ 8
  pub sizes : (k : ℕ) → k < 8 → get_or r.sizes k 0 ≡ cut_count (size (range_at s.lows s.highs k))
  pub kinds : r.kinds ≡ s.kinds
