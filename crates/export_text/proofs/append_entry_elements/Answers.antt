-- `export_text::append_entry_elements` meets its contract: after i turns the bytes of the first i entries are appended as elements.
use native.Mathlib.Omega.{arith}
use Rattle.stored.specs.Number.{table_bytes}
use Rattle.print.proofs.Append.{appends_nothing, appends_then, appends_same}
use Rattle.export_text.proofs.Elements.{next-entry}
use Rattle.export_text.proofs.append_entry_elements.Goals as goal

pub loop-entry-init : goal.loop-entry-init
unfolding table_bytes
loop-entry-init c = appends_nothing c.requires

pub loop-entry-preserved : goal.loop-entry-preserved
loop-entry-preserved c =
    let i = c.loop-entry.entry-index in
    appends_same (appends_then c.loop-entry.invariant (appends_then c.append_element-high_at.ensures c.append_element-to.ensures))
    (next-entry c.args.entries.now i (omega arith) (omega (arith, c.type_inv.entries i)) c.from-entry.ensures)
