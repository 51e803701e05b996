-- `export_text::append_rows` meets its contract: before each turn the rows of the states before it are appended, and `rest` is what stands behind them.
use Prim.Native.Nat.{◌*◌}
use mathlib.Core.Path.{◌≡◌}
use lib.ListN.{drop}
use Rattle.print.specs.Append.{Appends}
use Rattle.print.specs.Lines.{lines_from}
use Rattle.export_text.specs.Export.{row_line}
use Rattle.export_text.proofs.append_rows.Given as goal

abbrev pub invariant-loop-state : goal.invariant-loop-state
invariant-loop-state l = (l.rest ≡ drop (l.state * l.letters) l.entries) × Appends l.at (lines_from (row_line l.letters l.entries) 0 l.state) l.initial.out l.out l.to
