-- `export_text::append_entry_elements` meets its contract: after i turns the bytes of the first i entries are appended as elements.
use lib.ListN.{take}
use Rattle.stored.specs.Number.{table_bytes}
use Rattle.step.specs.Step.{entry_width}
use Rattle.print.specs.Append.{Appends}
use Rattle.print.specs.Text.{digits}
use Rattle.export_text.specs.Export.{elements}
use Rattle.export_text.proofs.append_entry_elements.Given as goal

abbrev pub invariant-loop-entry : goal.invariant-loop-entry
invariant-loop-entry l = Appends l.at (elements digits (table_bytes entry_width (take l.entry-index l.entries))) l.initial.out l.out l.to
