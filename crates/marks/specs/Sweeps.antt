-- Sweeps over the rows of a set of marks, in any order of the rows. A sweep turns marks to one value `to`: it marks rows that have a
-- marked successor, or clears rows that have none.
use Rattle.std.specs.Prelude.{◌≡◌, Bool, true, false, List, [], ◌∷◌, ℕ, ◌+◌, ◌<◌, length, eqb}
use Rattle.marks.specs.Marks.{Marked, Supported, Ends, LeadsToMarked, OnlyCleared, OnlyMarked, Pruned, Grown}

-- a mark as a stored number
abbrev pub mark : Bool → ℕ
mark true = 1
mark false = 0

-- 1 if the two differ
abbrev pub differ : Bool → Bool → ℕ
differ true true = 0
differ true false = 1
differ false true = 1
differ false false = 0

-- how many rows are left to turn: those whose mark is not `to`
abbrev pub rows_left : Bool → List ℕ → ℕ
rows_left to [] = 0
rows_left to (x ∷ xs) = differ (eqb x 1) to + rows_left to xs

-- nothing is to be turned at row s: it is marked if it has a marked successor, or only if it has one
abbrev pub SweepSettled : Bool → ℕ → List ℕ → List ℕ → ℕ → Type 0
SweepSettled true letters entries marks s = Supported letters entries marks s → Marked marks s
SweepSettled false letters entries marks s = Marked marks s → Supported letters entries marks s

-- some rows are marked, and a path leads from each to a row marked before
pub record Grows (letters : ℕ) (entries old new : List ℕ) : Type 0 where
  pub marked : OnlyMarked old new
  pub reason : (s : ℕ) → Marked new s → LeadsToMarked letters entries old s

-- some marks are cleared, and from each every path through rows marked before ends
pub record Prunes (letters : ℕ) (entries old new : List ℕ) : Type 0 where
  pub cleared : OnlyCleared old new
  pub reason : (s : ℕ) → Marked old s → ¬ Marked new s → Ends letters entries old s

abbrev pub Turns : Bool → ℕ → List ℕ → List ℕ → List ℕ → Type 0
Turns true letters entries old new = Grows letters entries old new
Turns false letters entries old new = Prunes letters entries old new

-- fewer rows are left; or nothing changed, and the rows that were seen are settled
abbrev pub SweepOutcome : Bool → Bool → ℕ → List ℕ → (ℕ → Type 0) → List ℕ → List ℕ → Type 0
SweepOutcome true to letters entries Seen old new = rows_left to new < rows_left to old
SweepOutcome false to letters entries Seen old new = (new ≡ old) × ((s : ℕ) → Seen s → SweepSettled to letters entries old s)

-- a sweep over the rows of Seen
pub record Swept (to : Bool) (letters : ℕ) (entries : List ℕ) (Seen : ℕ → Type 0) (old new : List ℕ) (changed : Bool) : Type 0 where
  pub same : length new ≡ length old
  pub turns : Turns to letters entries old new
  pub outcome : SweepOutcome changed to letters entries Seen old new

-- sweeps until all rows are settled
abbrev pub Closed : Bool → ℕ → List ℕ → List ℕ → List ℕ → Type 0
Closed true letters entries old new = Grown letters entries old new
Closed false letters entries old new = Pruned letters entries old new
