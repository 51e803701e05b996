-- Tables that a host passes on from a compile to a further call.
use Rattle.std.specs.Prelude.{◌*◌, take}
use Rattle.outcome.specs.Compile.{Tables}
use Rattle.compiled_sheet.specs.declared.CompiledSheet.{CompiledSheet}
use Rattle.given_tables.specs.Given.{GivenTable, given_table}

-- The table that a compile gave: its used rows, with the letters and the streams that it tells.
abbrev pub told_table : CompiledSheet → Tables → GivenTable
told_table r t = given_table (take (r.states * r.letters) t.entries) (take r.states t.finals) r.letters r.streams
