-- What `histogram` prints for the lines of a record, from the streams of the sheet (document 02, S-12). "Record" is document 02's term.
use Rattle.std.specs.Prelude.{ℕ, List, [], ◌∷◌, ◌++◌, ℤ, pos, ◌+ℤ◌, length, get_or, drop}
use Rattle.std.proofs.Math.Option.{Option, none, some}
use Rattle.text.specs.Bytes.{Token, bytes_of}
use Rattle.meaning.specs.Expression.{Stream, range_of}
use Rattle.meaning.specs.Letter.{size}
use Rattle.sheet.specs.Form.{names_of}
use Rattle.print.specs.Text.{line, decimal, refusal_line}
use Rattle.print.specs.Lines.{lines_from}
use Rattle.held_lines.specs.Counts.{lines_holding}
use Rattle.tally.specs.Faults.{record_fault}

-- "print from a record `stream value lines`"
abbrev pub histogram_heading : List ℕ
histogram_heading = line (bytes_of "stream" ∷ bytes_of "value" ∷ []) (bytes_of "lines")

-- The stream's name, the value, and how many lines.
abbrev pub count_line : Token → ℤ → ℕ → List ℕ
count_line name value count = line (name ∷ decimal value ∷ []) (decimal (pos count))

-- "A last line is `total` and the number of value lines."
abbrev pub total_line : ℕ → List ℕ
total_line total = line (bytes_of "total" ∷ []) (decimal (pos total))

-- "a bad record prints nothing but the 13 or 14"
abbrev pub text_or : Option ℕ → List ℕ → List ℕ
text_or none text = text
text_or (some n) text = refusal_line n

module _ (ss : List Stream) where
  -- The value of a stream that lies so far above its lowest.
  abbrev pub range_value : (stream digit : ℕ) → ℤ
  range_value stream digit = (range_of ss stream).low +ℤ pos digit

  -- "each value of its range, rising, how many value lines hold it"; "Values at which no line stands are printed with 0."
  abbrev pub stream_text : List (List ℕ) → (stream : ℕ) → List ℕ
  stream_text ls stream =
      lines_from (λ digit. count_line (get_or (names_of ss) stream []) (range_value stream digit) (lines_holding stream (range_value stream digit) ls)) 0 (size (range_of ss stream))

  -- "for each stream, in order", and the total.
  unfoldable pub histogram_text : List (List ℕ) → List ℕ
  histogram_text ls = histogram_heading ++ (lines_from (stream_text ls) 0 (length ss) ++ total_line (length ls))

  -- All lines of a record, the names first.
  unfoldable pub counted_text : List (List ℕ) → List ℕ
  counted_text ls = text_or (record_fault ss ls) (histogram_text (drop 1 ls))
