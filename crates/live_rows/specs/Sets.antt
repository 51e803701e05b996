-- The sets of rows that the passes find, as lists of marks: rows with an endless path, live rows, and final rows.
use Rattle.std.specs.Prelude.{◌≡◌, List, ℕ, ◌*◌, ◌<◌, ◌≤◌, get_or, length, replicate}
use Rattle.automaton.specs.Table.{IsFlag}
use Rattle.marks.specs.Marks.{Marked, Pruned, Grown, IsFlagged}

-- rows with an endless path; of these the flagged ones; and the rows from which a path leads to such a row
pub record FindsLive (letters : ℕ) (entries flags live : List ℕ) : Type 0 where
  pub kept : List ℕ
  pub flagged : List ℕ
  pub kept_length : length kept ≡ length live
  pub flagged_length : length flagged ≡ length live
  pub pruned : Pruned letters entries (replicate (length live) 1) kept
  pub is_flagged : IsFlagged flags kept flagged
  pub grown : Grown letters entries flagged live

-- a number for each row: 1 if the row has P, and 0 if not
pub record IsSet (list : List ℕ) (rows : ℕ) (P : ℕ → Type 0) : Type 0 where
  pub row : (s : ℕ) → s < rows → IsFlag (P s) (get_or list s 0)

-- a live row that is not marked in the other list
pub record LiveWithout (live other : List ℕ) (s : ℕ) : Type 0 where
  pub lives : Marked live s
  pub without : ¬ Marked other s

-- the numbers from row `rows` on are as they were
pub record SameBeyond (old new : List ℕ) (rows : ℕ) : Type 0 where
  pub row : (s : ℕ) → rows ≤ s → get_or new s 0 ≡ get_or old s 0

-- live rows that are not flagged; of these the rows with an endless path through such rows; and the other live rows, which are
-- final
pub record FindsFinals (letters : ℕ) (entries live flags endless finals : List ℕ) : Type 0 where
  pub pending : List ℕ
  pub pending_length : length pending ≡ length live
  pub endless_length : length endless ≡ length live
  pub is_pending : IsSet pending (length live) (LiveWithout live flags)
  pub pruned : Pruned letters entries pending endless
  pub is_final : IsSet finals (length live) (LiveWithout live endless)
  pub beyond : SameBeyond flags finals (length live)

-- the entries and the flags have room for the rows
pub record RowsFit (letters : ℕ) (entries flags live : List ℕ) : Type 0 where
  pub entries_fit : length live * letters ≤ length entries
  pub flags_fit : length live ≤ length flags

-- the live rows where the rows fit, and else nothing changed
pub record LiveOutcome (letters : ℕ) (entries flags old new : List ℕ) : Type 0 where
  pub fits : RowsFit letters entries flags old → FindsLive letters entries flags new
  pub unchanged : ¬ RowsFit letters entries flags old → new ≡ old

-- the final bytes where the rows fit and the work room has as many, and else nothing changed
pub record FinalsOutcome (letters : ℕ) (entries live pending flags pending' flags' : List ℕ) : Type 0 where
  pub fits : RowsFit letters entries flags live → length pending ≡ length live → FindsFinals letters entries live flags pending' flags'
  pub unchanged : ¬ (RowsFit letters entries flags live × (length pending ≡ length live)) → (pending' ≡ pending) × (flags' ≡ flags)
