-- `print::append_names` meets its contract: after i turns the first i names are appended.
use Rattle.print.specs.Append.{Appends}
use Rattle.print.specs.Text.{spaced}
use Rattle.print.specs.Lines.{stored_names}
use Rattle.print.proofs.append_names.Given as goal

abbrev pub invariant-loop-i : goal.invariant-loop-i
invariant-loop-i l = Appends l.at (spaced (stored_names l.names l.lengths l.i)) l.initial.out l.out l.to
