-- What is printed of a table with streams that are described.
use Rattle.std.specs.Prelude.{ℕ, min, ◌≡◌, ◌≢◌, List, take}
use Rattle.streams.specs.declared.StreamsDescription.{StreamsDescription}
use Rattle.streams.specs.Description.{StreamsFit}
use Rattle.print.specs.Text.{refusal_line}
use Rattle.print.specs.Lines.{AllFit}
use Rattle.pages.specs.Output.{Printout, output_text}
use Rattle.output.specs.Output.{Hands}
use Rattle.output.specs.declared.Handed.{Handed}

-- A refusal's number or 0, a number of states, and a table, with the names and ranges of streams.
abbrev pub described_printout : StreamsDescription → (refusal states : ℕ) (entries finals : List ℕ) → Printout
described_printout d refusal states entries finals =
    record {
      refusal = refusal;
      states = states;
      names = d.names;
      lengths = d.lengths;
      lows = take (min d.count 8) d.lows;
      highs = take (min d.count 8) d.highs;
      entries = entries;
      finals = finals;
    }

-- The ranges are numbers of the machine, so that no line is longer than a page.
pub record RangesHeld (d : StreamsDescription) : Type 0 where
  pub lows : AllFit (take (min d.count 8) d.lows)
  pub highs : AllFit (take (min d.count 8) d.highs)

-- How many bytes were taken by writes: of "the one line" of a refusal, or of the table, where an accepted sheet could have the streams and they make so many letters.
pub record WritesTable (d : StreamsDescription) (letters refusal states : ℕ) (entries finals : List ℕ) (r : Handed) : Type 0 where
  pub refused : refusal ≢ 0 → Hands (refusal_line refusal) r.size r.whole
  pub table : refusal ≡ 0 → StreamsFit d letters → Hands (output_text (described_printout d refusal states entries finals)) r.size r.whole
