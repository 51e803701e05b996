-- `record_lines::run_names` meets its contract: before each turn the bytes so far are read, and none of them ends the line (Runs).
use Rattle.sheet.specs.Names.{name_in}
use Rattle.record_names.specs.Machine.{names_byte}
use Rattle.record_lines.proofs.Runs.{LineSoFar}
use Rattle.record_lines.proofs.run_names.Given as goal

abbrev pub invariant-loop-at : goal.invariant-loop-at
invariant-loop-at l = LineSoFar (names_byte (name_in l.names l.lengths)) l.chunk l.from l.initial.line l.at l.line
