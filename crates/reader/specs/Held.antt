-- What the tables and counts hold of a sheet of the form whose names of line 1 are not refused.
use Rattle.std.specs.Prelude.{ℕ, ◌≤◌, ◌≡◌, false, List, map, pos, length}
use Rattle.nodes.specs.Evaluate.{stored}
use Rattle.meaning.specs.Expression.{Constraint, Sheet}
use Rattle.meaning.specs.Window.{all_firsts, all_untils}
use Rattle.nodes.specs.Postfix.{all_nodes, stored_constraints, kinds_of, values_of, starts_of}
use Rattle.sheet.specs.Form.{names_of}
use Rattle.sheet.specs.Reading.{any_of, is_integer_beyond, all_expressions, answer_to_sheet}
use Rattle.parse.specs.Bounded.{bounded_constraint}
use Rattle.reader.specs.Constraints.{State, state, counts}
use Rattle.refusals.specs.Names.{names_refused}
use Rattle.header.specs.Streams.{padded, stream_kind_codes, StreamTables, stream_tables_of, streams_read}
use Rattle.reader.specs.Stored.{relations_of, lefts_of, rights_of, reading_of}
use Rattle.header.specs.declared.StreamsRead.{StreamsRead}
use Rattle.reader.specs.declared.Reading.{Reading}

-- The tables and counts of the constraints. An integer beyond the magnitude bound is stored as 0; such a sheet is refused.
unfoldable pub constraint_tables : List Constraint → State
constraint_tables cs =
    let bounded = map bounded_constraint cs in
    let nodes = all_nodes 0 0 bounded in
    let rows = stored_constraints 0 0 bounded in
    state
    (stored (padded 1024 0 (kinds_of nodes)) (padded 1024 (pos 0) (values_of nodes)) (padded 1024 0 (starts_of nodes)))
    (padded 32 0 (relations_of rows))
    (padded 32 0 (lefts_of rows))
    (padded 32 0 (rights_of rows))
    (counts (length cs) (length nodes) (length (all_firsts bounded)) (length (all_untils bounded)) (any_of is_integer_beyond (all_expressions cs)))

pub record Held (s : Sheet) (r : StreamsRead) (tables : StreamTables) (codes : List ℕ) (new : State) : Type 0 where
  pub streams : r ≡ streams_read s.streams
  pub stream_tables : tables ≡ stream_tables_of s.streams
  pub stream_kinds : codes ≡ padded 8 0 (stream_kind_codes s.streams)
  pub constraints : new ≡ constraint_tables s.constraints
  pub few_streams : length s.streams ≤ 8
  pub few_constraints : length s.constraints ≤ 32
  pub few_nodes : length (all_nodes 0 0 (map bounded_constraint s.constraints)) ≤ 1024
  pub names : names_refused (names_of s.streams) ≡ false

-- They hold some sheet.
pub record HeldSheet (r : StreamsRead) (tables : StreamTables) (codes : List ℕ) (new : State) : Type 0 where
  pub sheet : Sheet
  pub held : Held sheet r tables codes new

-- The reading is the answer to the sheet that they hold.
pub record HeldReading (r : StreamsRead) (tables : StreamTables) (codes : List ℕ) (new : State) (reading : Reading) : Type 0 where
  pub gives : (s : Sheet) → Held s r tables codes new → reading ≡ reading_of (answer_to_sheet s)
