-- `counts_text::write_figures` meets its contract: before each turn the lines before it are written (Lines).
use Rattle.print.specs.Append.{Appends}
use Rattle.counts_text.specs.Counts.{listed_text}
use Rattle.counts_text.proofs.write_figures.Given as goal

abbrev pub invariant-loop-letters : goal.invariant-loop-letters
invariant-loop-letters l = Appends 0 (listed_text l.figures l.final_figures l.letters) l.initial.out l.out l.to
