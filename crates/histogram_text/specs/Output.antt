-- What `histogram` prints, place by place: the heading or the line of a refusal stands at place 0; then each stream has 1,024 places, as many as it can have
-- values, each with the line of a value or nothing; and the last place has the total.
use Rattle.std.specs.Prelude.{ℕ, zero, suc, ◌*◌, ◌/◌, ◌%◌, min, cond, List, [], ◌∷◌, map, ltb, ℤ, pos, length}
use Rattle.meaning.specs.Expression.{Stream}
use Rattle.meaning.specs.Letter.{letter_of}
use Rattle.sheet.specs.Refusal.{letter_bound}
use Rattle.letters.specs.Described.{described, has_letter}
use Rattle.sheet.specs.Names.{name_in}
use Rattle.records.specs.Machine.{stream_at}
use Rattle.print.specs.Text.{line, decimal}
use Rattle.print.specs.Lines.{lines_from}
use Rattle.pages.specs.Lines.{or_refused, places_or}
use Rattle.held_lines.specs.Held.{held_lines}
use Rattle.histogram_text.specs.Histogram.{histogram_heading, total_line}

-- What is printed: a refusal's number, or 0 with the number of value lines and of those of each letter. A name is stored as eight bytes and a length.
pub record HistogramPrintout : Type 0 where
  pub refusal : ℕ
  pub total : ℕ
  pub names : List ℕ
  pub lengths : List ℕ
  pub lows : List ℤ
  pub highs : List ℤ
  pub counts : List ℕ

-- The streams that are printed, eight at most.
abbrev pub printed_stream_count : List ℤ → List ℤ → ℕ
printed_stream_count lows highs = min (min (length lows) (length highs)) 8

module _ (p : HistogramPrintout) where
  abbrev pub printed_streams : List Stream
  printed_streams = described p.lows p.highs

  -- The line of the value of a stream that lies so far above its lowest; nothing where the stream has no such value, or more than a sheet allows.
  unfoldable pub value_text : (stream digit : ℕ) → List ℕ
  value_text stream digit =
      cond (has_letter (stream_at printed_streams stream) digit 8)
      (line (name_in p.names p.lengths stream ∷ map decimal (letter_of (stream_at printed_streams stream) digit)) (decimal (pos (held_lines p.counts printed_streams stream digit)))) []

  abbrev pub histogram_line : ℕ → List ℕ
  histogram_line zero = histogram_heading
  histogram_line (suc place) = cond (ltb (place / letter_bound) (printed_stream_count p.lows p.highs)) (value_text (place / letter_bound) (place % letter_bound)) (total_line p.total)

  -- The text at a place.
  abbrev pub histogram_at : ℕ → List ℕ
  histogram_at = or_refused p.refusal histogram_line

-- How many places there are: one for a refusal; else those of the heading, the streams and the total.
abbrev pub histogram_places : (refusal : ℕ) (lows highs : List ℤ) → ℕ
histogram_places refusal lows highs = places_or refusal (suc (suc (printed_stream_count lows highs * letter_bound)))

-- All that is printed.
abbrev pub histogram_output : HistogramPrintout → List ℕ
histogram_output p = lines_from (histogram_at p) 0 (histogram_places p.refusal p.lows p.highs)
