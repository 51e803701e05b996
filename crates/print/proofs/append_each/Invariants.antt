-- `print::append_each` meets its contract: after i turns the first i numbers are appended.
use lib.ListN.{take}
use Rattle.print.specs.Append.{Appends}
use Rattle.print.specs.Lines.{each}
use Rattle.print.proofs.append_each.Given as goal

abbrev pub invariant-loop-number : goal.invariant-loop-number
invariant-loop-number g l = Appends l.at (each l.before g.N.Number.text (take l.number-index l.numbers) l.after) l.initial.out l.out l.to
