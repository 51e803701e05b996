-- What `histogram` prints for the bytes of a sheet and of a record (document 02, S-12).
use Rattle.std.specs.Prelude.{ℕ, List}
use Rattle.text.specs.Bytes.{lines}
use Rattle.meaning.specs.Expression.{Sheet}
use Rattle.sheet.specs.Refusal.{Answer, refused, sheet, AnswerTo}
use Rattle.print.specs.Text.{refusal_line}
use Rattle.histogram_text.specs.Histogram.{counted_text}

pub data PrintsHistogram (sheet_text record_text : List ℕ) : List ℕ → Type 0 where
  -- "Of the sheet only 1 to 7 are judged": the sheet's numbers come before those of the record.
  refused_sheet : {n : ℕ} → AnswerTo sheet_text (refused n) → PrintsHistogram sheet_text record_text (refusal_line n)
  -- "for each stream, in order, and each value of its range, rising, how many value lines hold it [..] and a bad record prints nothing but the 13 or 14 of
  -- its first line with a fault"
  counted : {s : Sheet} → AnswerTo sheet_text (sheet s) → PrintsHistogram sheet_text record_text (counted_text s.streams (lines record_text))

-- What is printed for the answer to a sheet.
abbrev pub text_for : (record_text : List ℕ) → Answer → List ℕ
text_for record_text (refused n) = refusal_line n
text_for record_text (sheet s) = counted_text s.streams (lines record_text)
