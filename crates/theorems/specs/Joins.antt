-- Two sheets on one river, as streams of integers (document 02, S-9): the cut of joined streams to a sheet's own, the joined solutions, and what a join that
-- is not refused gives.
use Rattle.std.specs.Prelude.{ℕ, ◌*◌, ◌≡◌, List, get_or, take}
use Rattle.automaton.specs.Stored.{final_at}
use Rattle.automaton.specs.Join.{TwoTables, IsPair, Together, FinalsStay}
use Rattle.meaning.specs.Value.{Streams}
use Rattle.meaning.specs.Expression.{Stream, absent_stream, Sheet, Solution}
use Rattle.meaning.specs.Letter.{letter_count}
use Rattle.outcome.specs.Compile.{Room, Tables, CountFits, HoldsTable}
use Rattle.given_tables.specs.Given.{GivenTable, given_table, table_entry}
use Rattle.joined_streams.specs.Joined.{place_of, joined_streams, cut_number, SharedAlike, WithinBounds}
use Rattle.joined_streams.specs.Describing.{describe}
use Rattle.join_tables.specs.Outcome.{river_streams, tables_together, CanJoin}
use Rattle.join_tables.specs.declared.JoinAnswer.{JoinAnswer}

-- "streams with the same name are one": the cut of streams, which are those of js, to the streams ss, each of which has the values of the stream with its name.
abbrev pub cut_streams : (js ss : List Stream) → Streams → Streams
cut_streams js ss w k i = w (place_of js (get_or ss k absent_stream).name) i

-- "the first sheet's streams come first, then the second's others"
abbrev pub streams_of_both : Sheet → Sheet → List Stream
streams_of_both s q = joined_streams s.streams q.streams

-- "The joined solutions are those whose cuts to either sheet's streams solve that sheet."
pub record SolvesBoth (s q : Sheet) (w : Streams) : Type 0 where
  pub solves_first : Solution s (cut_streams (streams_of_both s q) s.streams w)
  pub solves_second : Solution q (cut_streams (streams_of_both s q) q.streams w)

-- "any single sheet [..] with those solutions"
pub record HasJoinedSolutions (s q one : Sheet) : Type 0 where
  pub to : (w : Streams) → Solution one w → SolvesBoth s q w
  pub from : (w : Streams) → SolvesBoth s q w → Solution one w

-- ---- what is given

-- Two tables, each followed along the cuts of joined letters to its own streams ss or ts.
abbrev pub tables_over : (ss ts : List Stream) (a b : GivenTable) → TwoTables
tables_over ss ts a b =
    record {
      letters = letter_count (joined_streams ss ts);
      left = cut_number (joined_streams ss ts) ss;
      right = cut_number (joined_streams ss ts) ts;
      left_entry = table_entry a;
      right_entry = table_entry b;
      left_final = final_at a.finals;
      right_final = final_at b.finals;
    }

-- The table of the words that both tables follow together, with its states, pairs, letters and streams.
pub record GivesJoined (ss ts : List Stream) (a b : GivenTable) (room : Room) (r : JoinAnswer) (t : Tables) : Type 0 where
  pub shared : SharedAlike ss ts
  pub bounds : WithinBounds (joined_streams ss ts)
  pub letters : r.letters ≡ letter_count (joined_streams ss ts)
  pub streams : r.streams ≡ describe (joined_streams ss ts)
  pub fits : CountFits (IsPair (tables_over ss ts a b)) (letter_count (joined_streams ss ts)) room r.pairs
  pub stays : FinalsStay (tables_over ss ts a b)
  pub held : HoldsTable (Together (tables_over ss ts a b)) (letter_count (joined_streams ss ts)) room r.states t

-- Its used rows, as a host passes them on to a further call.
abbrev pub joined_table : JoinAnswer → Tables → GivenTable
joined_table r t = given_table (take (r.states * r.letters) t.entries) (take r.states t.finals) r.letters r.streams

-- A refusal 11 of tables that no compile gave: the pairs fit, and a pair with both states final leads to one without.
pub record PairsLeaveFinal (a b : GivenTable) (room : Room) : Type 0 where
  pub can : CanJoin a b
  pub pairs : ℕ
  pub fits : CountFits (IsPair (tables_together a b)) (letter_count (river_streams a b)) room pairs
  pub leave : ¬ FinalsStay (tables_together a b)
