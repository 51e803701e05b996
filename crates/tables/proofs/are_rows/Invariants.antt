-- `tables::are_rows` meets its contract: `all` says whether the entries before `entry` are rows or none.
use Rattle.basics.specs.Answers.{Says}
use Rattle.tables.specs.Parts.{AreRows}
use Rattle.tables.proofs.are_rows.Given as goal

abbrev pub invariant-loop-entry : goal.invariant-loop-entry
invariant-loop-entry l = Says l.all (AreRows l.entries l.rows l.entry-index)
