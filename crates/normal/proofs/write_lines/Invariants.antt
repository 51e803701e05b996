-- `normal::write_lines` meets its contract. The invariant: whatever the lines that are left write completes what all lines write.
use Prim.Native.Nat.{ℕ, ◌≤◌}
use mathlib.Core.List.{List}
use lib.ListN.{length, drop}
use Rattle.normal.specs.Rows.{Line}
use Rattle.normal.specs.Stored.{stored_lines}
use Rattle.normal.specs.Table.{WroteLines, LinesHaveRoom}
use Rattle.normal.specs.declared.RowsWritten.{RowsWritten}
use Rattle.normal.proofs.write_lines.Given as goal

-- The lines from the one with the number j on.
abbrev pub rest : List ℕ → List ℕ → List ℕ → List ℕ → List ℕ → ℕ → List Line
rest kinds starts relations lefts rights j = stored_lines kinds starts (drop j relations) (drop j lefts) (drop j rights)

abbrev pub invariant-loop-j : goal.invariant-loop-j
invariant-loop-j l = (l.j ≤ length l.relations) × (length l.relations ≤ l.row) × LinesHaveRoom (rest l.kinds l.starts l.relations l.lefts l.rights l.j) l.row l.stream
    × ((new : List ℕ) (r : RowsWritten) → WroteLines (rest l.kinds l.starts l.relations l.lefts l.rights l.j) l.j l.row l.stream l.table new r
    → WroteLines (stored_lines l.kinds l.starts l.relations l.lefts l.rights) 0 (length l.relations) l.streams l.initial.table new r)
