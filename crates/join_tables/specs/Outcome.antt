-- What a join of two tables with their streams gives, for all tables, streams and lent tables (document 02, S-9). It is said of tables, not of sheets:
-- "Facts about joined [..] tables are shown once, for whichever release made them" (S-11).
use Rattle.std.specs.Prelude.{ℕ, cond, List, eqb}
use Rattle.automaton.specs.Stored.{final_at}
use Rattle.automaton.specs.Join.{TwoTables}
use Rattle.meaning.specs.Expression.{Stream}
use Rattle.meaning.specs.Letter.{letter_count}
use Rattle.streams.specs.Description.{none_described, description_of}
use Rattle.outcome.specs.Compile.{CompileAnswer, Room, Tables, all_zero}
use Rattle.given_tables.specs.Given.{GivenTable, table_entry, IsFitTable}
use Rattle.joined_streams.specs.Joined.{joined_streams, cut_number, SharedAlike, WithinBounds}
use Rattle.joined_streams.specs.Describing.{describe}
use Rattle.joined_streams.specs.declared.JoinedStreams.{JoinedStreams}
use Rattle.pair_outcome.specs.Outcome.{PairTableOutcome}
use Rattle.join_tables.specs.declared.JoinAnswer.{JoinAnswer}

-- the joined streams of two tables
abbrev pub river_streams : (a b : GivenTable) → List Stream
river_streams a b = joined_streams (description_of a.streams) (description_of b.streams)

-- the two tables, each followed along the cut of a joined letter to its own streams
abbrev pub tables_together : (a b : GivenTable) → TwoTables
tables_together a b =
    record {
      letters = letter_count (river_streams a b);
      left = cut_number (river_streams a b) (description_of a.streams);
      right = cut_number (river_streams a b) (description_of b.streams);
      left_entry = table_entry a;
      right_entry = table_entry b;
      left_final = final_at a.finals;
      right_final = final_at b.finals;
    }

-- neither 11 nor 17 nor 7 applies
pub record CanJoin (a b : GivenTable) : Type 0 where
  pub left_fit : IsFitTable a
  pub right_fit : IsFitTable b
  pub shared : SharedAlike (description_of a.streams) (description_of b.streams)
  pub bounds : WithinBounds (river_streams a b)

-- with a refusal nothing is told
abbrev pub refused_join : ℕ → JoinAnswer
refused_join n = record { refusal = n; states = 0; pairs = 0; letters = 0; streams = none_described }

-- with refusal 0 the numbers of states, pairs and letters, and the streams
abbrev pub told_of : CompileAnswer → List Stream → JoinAnswer
told_of a js = cond (eqb a.refusal 0) (record { refusal = 0; states = a.states; pairs = a.situations; letters = letter_count js; streams = describe js }) (refused_join a.refusal)

-- the same from what joining the streams gave
abbrev pub told_by : CompileAnswer → JoinedStreams → JoinAnswer
told_by a s = cond (eqb a.refusal 0) (record { refusal = 0; states = a.states; pairs = a.situations; letters = s.letters; streams = s.streams }) (refused_join a.refusal)

-- "Turned away: 17, a shared name with another range or kind, before all of these; a malformed table, or one without rows, is 11, as in S-3 and S-8, before
-- 17. The joined table is then zero."
pub data JoinOutcome (a b : GivenTable) (room : Room) : JoinAnswer → Tables → Type 0 where
  unfit : ¬ (IsFitTable a × IsFitTable b) → JoinOutcome a b room (refused_join 11) (all_zero room)
  clash : IsFitTable a → IsFitTable b → ¬ SharedAlike (description_of a.streams) (description_of b.streams) → JoinOutcome a b room (refused_join 17) (all_zero room)
  over_bounds : IsFitTable a → IsFitTable b → SharedAlike (description_of a.streams) (description_of b.streams) → ¬ WithinBounds (river_streams a b) → JoinOutcome a b room (refused_join 7) (all_zero room)
  together : {c : CompileAnswer} {t : Tables} → CanJoin a b → PairTableOutcome (tables_together a b) room c t → JoinOutcome a b room (told_of c (river_streams a b)) t
