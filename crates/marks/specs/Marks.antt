-- Sets of rows of a stored graph, as a list of marks with one number a row: a row is marked if its number is 1. The graph has
-- `letters` entries a row; the entry of row s for letter a stands at s * letters + a. An entry that is no row's number names
-- no row, so it is never marked.
use Rattle.std.specs.Prelude.{◌≡◌, ◌⊎◌, ◌≢◌, List, ℕ, ◌+◌, ◌*◌, ◌<◌, ◌≤◌, get_or, length}

abbrev pub Marked : List ℕ → ℕ → Type 0
Marked marks s = get_or marks s 0 ≡ 1

-- the row that row s leads to by letter a
abbrev pub target : ℕ → List ℕ → ℕ → ℕ → ℕ
target letters entries s a = get_or entries (s * letters + a) 0

-- some of the `count` entries from `start` on names a marked row
pub record HasMarked (entries marks : List ℕ) (start count : ℕ) : Type 0 where
  pub letter : ℕ
  pub is_letter : letter < count
  pub marked : Marked marks (get_or entries (start + letter) 0)

-- row s has a marked successor
abbrev pub Supported : ℕ → List ℕ → List ℕ → ℕ → Type 0
Supported letters entries marks s = HasMarked entries marks (s * letters) letters

-- every path from s through marked rows ends
pub data Ends (letters : ℕ) (entries marks : List ℕ) : ℕ → Type 0 where
  ends : {s : ℕ} → ((a : ℕ) → a < letters → Marked marks (target letters entries s a) → Ends letters entries marks (target letters entries s a)) → Ends letters entries marks s

-- some path through rows leads from s to a marked row
pub data LeadsToMarked (letters : ℕ) (entries marks : List ℕ) : ℕ → Type 0 where
  here : {s : ℕ} → Marked marks s → LeadsToMarked letters entries marks s
  there : {s : ℕ} (a : ℕ) → a < letters → target letters entries s a < length marks → LeadsToMarked letters entries marks (target letters entries s a) → LeadsToMarked letters entries marks s

-- a row is as it was, or was marked and is 0
pub record OnlyCleared (old new : List ℕ) : Type 0 where
  pub row : (s : ℕ) → (get_or new s 0 ≡ get_or old s 0) ⊎ ((get_or old s 0 ≡ 1) × (get_or new s 0 ≡ 0))

-- a row is as it was, or was not marked and is 1
pub record OnlyMarked (old new : List ℕ) : Type 0 where
  pub row : (s : ℕ) → (get_or new s 0 ≡ get_or old s 0) ⊎ ((get_or old s 0 ≢ 1) × (get_or new s 0 ≡ 1))

-- The marks that are left are those from which an endless path leads through rows marked before: each has a marked successor,
-- and from each that was cleared every path through rows marked before ends.
pub record Pruned (letters : ℕ) (entries old new : List ℕ) : Type 0 where
  pub cleared : OnlyCleared old new
  pub closed : (s : ℕ) → Marked new s → Supported letters entries new s
  pub reason : (s : ℕ) → Marked old s → ¬ Marked new s → Ends letters entries old s

-- The rows marked now are those from which a path leads to a row marked before.
pub record Grown (letters : ℕ) (entries old new : List ℕ) : Type 0 where
  pub marked : OnlyMarked old new
  pub closed : (s : ℕ) → s < length new → Supported letters entries new s → Marked new s
  pub reason : (s : ℕ) → Marked new s → LeadsToMarked letters entries old s

-- the numbers of the rows whose flag is 1, and 0 for each other row
pub record IsFlagged (flags old new : List ℕ) : Type 0 where
  pub kept : (s : ℕ) → Marked flags s → get_or new s 0 ≡ get_or old s 0
  pub cleared : (s : ℕ) → ¬ Marked flags s → get_or new s 0 ≡ 0

-- What holds in either case of a condition that is tested: P where the rows fit, and else nothing changed.
pub record IfFits (letters : ℕ) (entries old new : List ℕ) (P : Type 0) : Type 0 where
  pub fits : length old * letters ≤ length entries → P
  pub unchanged : ¬ (length old * letters ≤ length entries) → new ≡ old
