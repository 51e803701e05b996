-- Lent tables and the rows that they hold (document 01, "Who can bring about which refusal").
use Rattle.std.specs.Prelude.{ℕ, ◌/◌, min, List, [], ◌∷◌, replicate}

-- A lent table: how many numbers a row takes in it, and how many numbers it has.
pub record LentTable : Type 0 where
  pub per_row : ℕ
  pub size : ℕ

-- The rows that a lent table holds: its length divided by its numbers a row, cut.
abbrev pub rows_held : LentTable → ℕ
rows_held t = t.size / t.per_row

-- "the fewest rows any lent table holds, R", over a first table and the others.
abbrev pub fewest_rows : LentTable → List LentTable → ℕ
fewest_rows t [] = rows_held t
fewest_rows t (u ∷ us) = min (rows_held t) (fewest_rows u us)

abbrev pub zeros : ℕ → List ℕ
zeros n = replicate n 0

abbrev pub zero_tables : List LentTable → List (List ℕ)
zero_tables [] = []
zero_tables (t ∷ ts) = zeros t.size ∷ zero_tables ts
