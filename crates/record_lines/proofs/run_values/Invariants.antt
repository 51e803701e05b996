-- `record_lines::run_values` meets its contract: before each turn the bytes so far are read, and none of them ends the line (Runs).
use Rattle.letters.specs.Described.{described}
use Rattle.records.specs.Machine.{line_byte}
use Rattle.record_lines.proofs.Runs.{LineSoFar}
use Rattle.record_lines.proofs.run_values.Given as goal

abbrev pub invariant-loop-at : goal.invariant-loop-at
invariant-loop-at l = LineSoFar (line_byte (described l.lows l.highs)) l.chunk l.from l.initial.line l.at l.line
