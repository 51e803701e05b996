-- What is given of two tables together: the table of the words that both follow, with as many rows as pairs of states are reached, or a refusal
-- (document 02, S-9: "reachable pairs of states in place of situations give 8 or 10, and 9 means no common solution").
use Rattle.std.specs.Prelude.{ℕ, cond, List, [], ◌∷◌, eqb, ltb, length}
use Rattle.automaton.specs.Join.{TwoTables, IsPair, Together, FinalsStay}
use Rattle.outcome.specs.Room.{LentTable}
use Rattle.outcome.specs.Compile.{CompileAnswer, refused_answer, situation_bound, Room, Tables, all_zero, CountFits, WordsOutcome}
use Rattle.minimise.specs.declared.Minimised.{Minimised}

-- A table with one number a row.
abbrev pub row_table : List ℕ → LentTable
row_table list = record { per_row = 1; size = length list }

-- The lent tables in document 01's terms: a key takes one number, and so does a row in each of the other work tables.
abbrev pub join_room : (entries finals keys live class next heads links envelopes : List ℕ) → Room
join_room entries finals keys live class next heads links envelopes =
    record {
      entries = length entries;
      finals = length finals;
      work = row_table keys ∷ (row_table live ∷ (row_table class ∷ (row_table next ∷ (row_table heads ∷ (row_table links ∷ (row_table envelopes ∷ []))))));
    }

abbrev pub join_tables : (entries finals keys live class next heads links envelopes : List ℕ) → Tables
join_tables entries finals keys live class next heads links envelopes =
    record { entries = entries; finals = finals; work = keys ∷ (live ∷ (class ∷ (next ∷ (heads ∷ (links ∷ (envelopes ∷ [])))))) }

pub data PairTableOutcome (T : TwoTables) (room : Room) : CompileAnswer → Tables → Type 0 where
  -- The pairs fit, and a pair with both states final leads to one without: no compile gave such tables, and for these document 02 leaves the outcome free.
  unsettled : {m : ℕ} → CountFits (IsPair T) T.letters room m → ¬ FinalsStay T → PairTableOutcome T room (refused_answer 11) (all_zero room)
  -- 8, 10, 9, or the table of the words that both tables follow for ever, at some time in final states; where the pairs fit, they stay final
  given : {a : CompileAnswer} {t : Tables} → ((m : ℕ) → CountFits (IsPair T) T.letters room m → FinalsStay T) → WordsOutcome (Together T) T.letters (IsPair T) room a t
      → PairTableOutcome T room a t

-- The answer from the rows lent, the pairs found, 0 where they do not fit, and what the table's making gave: a refusal of pairs that were found is its own.
abbrev pub pair_answer : (rows pairs : ℕ) → Minimised → CompileAnswer
pair_answer rows pairs made =
    cond (eqb made.refusal 0) (record { refusal = 0; states = made.states; situations = pairs })
    (cond (eqb pairs 0) (cond (ltb rows situation_bound) (refused_answer 10) (refused_answer 8)) (refused_answer made.refusal))
