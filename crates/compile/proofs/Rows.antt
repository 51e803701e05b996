-- The rows that tables hold: with as many rows as the fewest that a table holds, every table has room; and the smallest of the tables' rows,
-- as the code finds it, is document 01's R.
use Prim.Native.Nat.{ℕ, ◌*◌, ◌/◌, ◌≤◌, ◌<◌, min}
use native.Mathlib.Omega.{arith}
use native.Mathlib.Nat.{div-one}
use mathlib.Core.Path.{◌≡◌}
use mathlib.Core.List.{List, [], ◌∷◌}
use lib.ListN.{length}
use Rattle.outcome.specs.Room.{LentTable, fewest_rows}
use Rattle.outcome.specs.Compile.{room_rows}
use Rattle.outcome.proofs.CompileTotal.{rows_fit}
use Rattle.compile.specs.Lent.{room_of}

-- Each of the tables has room for n rows.
abbrev pub Holds : ℕ → LentTable → List LentTable → Type 0
Holds n t [] = n * t.per_row ≤ t.size
Holds n t (u ∷ us) = (n * t.per_row ≤ t.size) × Holds n u us

pub fewest_hold : (n : ℕ) (t : LentTable) (ts : List LentTable) → n ≤ fewest_rows t ts → Holds n t ts
fewest_hold n t [] h = rows_fit n t.per_row t.size h
fewest_hold n t (u ∷ us) h = (rows_fit n t.per_row t.size (omega arith), fewest_hold n u us (omega arith))

-- The limit of a search is the rows lent or the bound, whichever is less.
module _ (rows bound limit : ℕ) (cut : limit ≡ min rows bound) where
  pub limit_rows : rows < bound → limit ≡ rows
  limit_rows h = omega arith

  pub limit_bound : bound ≤ rows → limit ≡ bound
  limit_bound h = omega arith

  pub within-rows : (n : ℕ) → n ≤ limit → n ≤ rows
  within-rows n h = omega arith

  pub within-bound : (n : ℕ) → n ≤ limit → n ≤ bound
  within-bound n h = omega arith

-- Where a row is one number, a table holds as many rows as numbers.
module _ (entries finals keys live class next heads links envelopes : List ℕ) (letters : ℕ) where
  pub rows-lent : min (length entries / letters) (min (length finals) (min (length keys / 16) (min (length live) (min (length class) (min (length next) (min (length heads) (min (length links) (length envelopes)))))))) ≡ room_rows (room_of entries finals keys live class next heads links envelopes) letters
  rows-lent = simp div-one
