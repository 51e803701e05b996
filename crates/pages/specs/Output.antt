-- What `sluice` prints, place by place (document 01, "Sheets with their answers", P1 and P2). A place has a line, or no text: the heading or the line of
-- a refusal stands at place 0, and the entries, by state and letter, at those after it.
use Rattle.std.specs.Prelude.{ℕ, zero, suc, ◌*◌, min, List, ℤ, length}
use Rattle.meaning.specs.Letter.{letter_count}
use Rattle.letters.specs.Described.{described, cut_count}
use Rattle.print.specs.Text.{heading_line}
use Rattle.table_text.specs.Table.{place_text}
use Rattle.print.specs.Lines.{lines_from, stored_names}
use Rattle.pages.specs.Lines.{or_refused, places_or}
use Rattle.pages.specs.declared.Table.{Table}

-- What is printed: a refusal's number, or 0 and the table of so many states. A name is stored as eight bytes and a length.
pub record Printout : Type 0 where
  pub refusal : ℕ
  pub states : ℕ
  pub names : List ℕ
  pub lengths : List ℕ
  pub lows : List ℤ
  pub highs : List ℤ
  pub entries : List ℕ
  pub finals : List ℕ

-- A table as it is lent.
abbrev pub printout_of_table : Table → Printout
printout_of_table t =
    record {
      refusal = t.refusal;
      states = t.states;
      names = t.names.now;
      lengths = t.lengths.now;
      lows = t.lows.now;
      highs = t.highs.now;
      entries = t.entries.now;
      finals = t.finals.now;
    }

-- "a heading with the names, then a line for each entry that is not 65,535, by state and letter"; any other entry has no text.
abbrev pub table_line : Printout → ℕ → List ℕ
table_line p zero = heading_line (stored_names p.names p.lengths (min (length p.lows) 8))
table_line p (suc place) = place_text p.lows p.highs p.entries p.finals place

-- The text at a place.
abbrev pub output_at : Printout → ℕ → List ℕ
output_at p = or_refused p.refusal (table_line p)

-- How many places there are: one for a refusal; else that of the heading, and one for each entry of the states.
abbrev pub place_count : (refusal states : ℕ) (lows highs : List ℤ) (entries : List ℕ) → ℕ
place_count refusal states lows highs entries = places_or refusal (suc (min (states * cut_count (letter_count (described lows highs))) (length entries)))

abbrev pub places_of : Printout → ℕ
places_of p = place_count p.refusal p.states p.lows p.highs p.entries

-- All that is printed.
abbrev pub output_text : Printout → List ℕ
output_text p = lines_from (output_at p) 0 (places_of p)
