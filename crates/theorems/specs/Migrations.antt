-- The bytes that a step reads of a table that is passed on, and the running place after the change (document 02, S-10).
use Rattle.std.specs.Prelude.{ℕ, List, get_or}
use Rattle.stored.specs.Number.{table_bytes}
use Rattle.step.specs.Step.{entry_width}
use Rattle.step.specs.declared.Place.{Place}
use Rattle.given_tables.specs.Given.{GivenTable}

-- The bytes of a table's entries, which a step reads.
abbrev pub step_bytes : GivenTable → List ℕ
step_bytes g = table_bytes entry_width g.entries

-- The running place in the new table: the state that the list has for its old one, and the steps as they were counted.
abbrev pub place_over : List ℕ → Place → Place
place_over list place = record { state = get_or list place.state 0; steps = place.steps }
