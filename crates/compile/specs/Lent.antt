-- The lent tables in document 01's terms: the room that they give, and what they hold.
use Rattle.std.specs.Prelude.{ℕ, List, [], ◌∷◌, length}
use Rattle.outcome.specs.Room.{LentTable}
use Rattle.outcome.specs.Compile.{Room, Tables}

-- A table with this many numbers a row.
abbrev pub lent : ℕ → List ℕ → LentTable
lent per_row list = record { per_row = per_row; size = length list }

-- A key takes 16 numbers. Each of the other work tables has one number a row.
abbrev pub room_of : (entries finals keys live class next heads links envelopes : List ℕ) → Room
room_of entries finals keys live class next heads links envelopes =
    record {
      entries = length entries;
      finals = length finals;
      work = lent 16 keys ∷ (lent 1 live ∷ (lent 1 class ∷ (lent 1 next ∷ (lent 1 heads ∷ (lent 1 links ∷ (lent 1 envelopes ∷ []))))));
    }

abbrev pub tables_of : (entries finals keys live class next heads links envelopes : List ℕ) → Tables
tables_of entries finals keys live class next heads links envelopes =
    record { entries = entries; finals = finals; work = keys ∷ (live ∷ (class ∷ (next ∷ (heads ∷ (links ∷ (envelopes ∷ [])))))) }
