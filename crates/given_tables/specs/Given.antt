-- Tables as a host gives them to a call, each with a description of its streams, and which of them are turned away with 11 (document 02, S-9 and S-10).
use Rattle.std.specs.Prelude.{ℕ, ◌≡◌, List, length}
use Rattle.automaton.specs.Stored.{entry_at}
use Rattle.automaton.specs.WellFormed.{IsWellFormed}
use Rattle.streams.specs.Description.{description_of, StreamsFit}
use Rattle.streams.specs.declared.StreamsDescription.{StreamsDescription}

pub record GivenTable : Type 0 where
  pub entries : List ℕ
  pub finals : List ℕ
  pub letters : ℕ
  pub streams : StreamsDescription

abbrev pub given_table : (entries finals : List ℕ) (letters : ℕ) (streams : StreamsDescription) → GivenTable
given_table entries finals letters streams = record { entries = entries; finals = finals; letters = letters; streams = streams }

-- how many rows it has, by its final bytes
abbrev pub table_rows : GivenTable → ℕ
table_rows g = length g.finals

-- its entry of a state for a letter
abbrev pub table_entry : GivenTable → ℕ → ℕ → ℕ
table_entry g = entry_at g.letters g.entries

-- Neither "a malformed table, or one without rows, is 11, as in S-3 and S-8" applies, nor, in S-8, "Streams that no accepted sheet could have, or that do
-- not make the table's letters, are 11".
pub record IsFitTable (g : GivenTable) : Type 0 where
  pub well_formed : IsWellFormed g.letters g.entries g.finals
  pub streams_fit : StreamsFit g.streams g.letters

-- not "streams of another name, place, range or kind", nor of another number
abbrev pub SameStreams : StreamsDescription → StreamsDescription → Type 0
SameStreams a b = description_of a ≡ description_of b
