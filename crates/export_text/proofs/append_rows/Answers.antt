-- `export_text::append_rows` meets its contract: before each turn the rows of the states before it are appended, and `rest` is what stands behind them.
use Prim.Native.Nat.{◌*◌}
use mathlib.Core.Path.{◌≡◌, ap, ◌∙◌}
use lib.ListN.{drop}
use mathlib.Core.List.{◌++◌}
use native.Mathlib.Omega.{arith}
use Rattle.print.specs.Lines.{lines_from}
use Rattle.print.proofs.Append.{appends_nothing, appends_then, appends_same}
use Rattle.stored.specs.Number.{table_bytes}
use Rattle.step.specs.Step.{entry_width}
use Rattle.print.specs.Text.{digits}
use Rattle.export_text.specs.Export.{elements, elements_line, row_line}
use Rattle.export_text.proofs.Rows.{row-part, row-behind, next_row}
use Rattle.export_text.proofs.append_rows.Goals as goal

pub loop-state-init : goal.loop-state-init
unfolding lines_from
loop-state-init c = let none : 0 ≡ 0 * c.args.letters = omega arith in (ap (λ k. drop k c.args.entries.now) none, appends_nothing c.requires)

pub loop-state-preserved : goal.loop-state-preserved
loop-state-preserved c =
    let t = c.loop-state in
    let a = c.args in
    let row = row-part a.entries.now a.letters t.state t.invariant.0 c.min.ensures c.split_at.ensures.front in (
      row-behind a.entries.now a.letters t.state t.invariant.0 c.min.ensures c.split_at.ensures.back,
      appends_same (appends_then t.invariant.1 c.append_row-to.ensures)
          (ap (λ l. lines_from (row_line a.letters a.entries.now) 0 t.state ++ elements_line (elements digits (table_bytes entry_width l))) row
          ∙ next_row a.letters a.entries.now t.state),
    )
