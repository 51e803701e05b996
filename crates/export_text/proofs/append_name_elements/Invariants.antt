-- `export_text::append_name_elements` meets its contract: after i turns the first i names are appended as elements.
use Rattle.print.specs.Append.{Appends}
use Rattle.print.specs.Lines.{stored_names}
use Rattle.export_text.specs.Export.{elements, quoted}
use Rattle.export_text.proofs.append_name_elements.Given as goal

abbrev pub invariant-loop-i : goal.invariant-loop-i
invariant-loop-i l = Appends l.at (elements quoted (stored_names l.names l.lengths l.i)) l.initial.out l.out l.to
