-- What `strategy` prints, place by place: the heading or the line of a refusal stands at place 0, and what the play table holds, by state and choice, at those
-- after it.
use Rattle.std.specs.Prelude.{ℕ, zero, suc, ◌+◌, ◌*◌, ◌/◌, min, cond, List, [], eqb, ℤ, length, get_or}
use Rattle.meaning.specs.Letter.{letter_count}
use Rattle.automaton.specs.Table.{no_state}
use Rattle.letters.specs.Described.{described, cut_count}
use Rattle.table_text.specs.Table.{place_text}
use Rattle.print.specs.Lines.{lines_from}
use Rattle.pages.specs.Lines.{or_refused, places_or}
use Rattle.pages.specs.Output.{Printout, printout_of_table, table_line}
use Rattle.play_text.specs.declared.PrintedPlay.{PrintedPlay}

-- What is printed: a refusal's number, or 0 and a table with its play table, of so many choices.
pub record PlayPrintout : Type 0 where
  pub table : Printout
  pub choices : ℕ
  pub play : List ℕ

-- A table and a play table as they are lent.
abbrev pub printout_of_play : PrintedPlay → PlayPrintout
printout_of_play p = record { table = printout_of_table p.table; choices = p.choices; play = p.play.now }

-- The line of the letter held at a place, counted by state and choice; nothing where the play table holds 65,535, or beyond it.
unfoldable pub held_text : (choices : ℕ) (lows highs : List ℤ) (entries finals play : List ℕ) (place : ℕ) → List ℕ
held_text choices lows highs entries finals play place =
    let letter = get_or play place no_state in
    cond (eqb letter no_state) [] (place_text lows highs entries finals (place / choices * cut_count (letter_count (described lows highs)) + letter))

-- The heading at place 0, then what is held.
abbrev pub play_line : PlayPrintout → ℕ → List ℕ
play_line p zero = table_line p.table zero
play_line p (suc place) = held_text p.choices p.table.lows p.table.highs p.table.entries p.table.finals p.play place

-- The text at a place.
abbrev pub play_at : PlayPrintout → ℕ → List ℕ
play_at p = or_refused p.table.refusal (play_line p)

-- How many places there are: one for a refusal; else that of the heading, and one for each state and choice.
abbrev pub play_places : (refusal states choices : ℕ) (play : List ℕ) → ℕ
play_places refusal states choices play = places_or refusal (suc (min (states * choices) (length play)))

-- All that is printed.
abbrev pub play_output : PlayPrintout → List ℕ
play_output p = lines_from (play_at p) 0 (play_places p.table.refusal p.table.states p.choices p.play)
