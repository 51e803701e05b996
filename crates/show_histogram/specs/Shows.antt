-- What `show_histogram` gives back, and what its parts do. What is printed is said of the reads of the record (reads, Chunks).
use Rattle.std.specs.Prelude.{ℕ, suc, ◌≤◌, min, ◌≡◌, ◌⊎◌, List, [], ◌∷◌, ◌++◌, pos, negsuc, length, take, replicate}
use Rattle.text.specs.Bytes.{lines}
use Rattle.meaning.specs.Expression.{Stream, Sheet}
use Rattle.sheet.specs.Refusal.{refused, sheet, AnswerTo}
use Rattle.reader.specs.declared.StoredSheet.{StoredSheet}
use Rattle.print.specs.Text.{refusal_line}
use Rattle.output.specs.Output.{Hands}
use Rattle.tally.specs.declared.LineCounts.{LineCounts}
use Rattle.tally.specs.Faults.{NoFaultEnded}
use Rattle.tally.specs.Machine.{CountedSheet, counted_sheet}
use Rattle.histogram_text.specs.Histogram.{counted_text}
use Rattle.histogram_text.specs.Output.{HistogramPrintout, histogram_output}
use Rattle.histogram_text.specs.Prints.{PrintsHistogram}
use Rattle.reads.specs.declared.ReadEnd.{ReadEnd}
use Rattle.reads.specs.declared.ReadEnd.TheVariants.{Complete, Stopped, Incomplete}
use Rattle.reads.specs.Chunks.{most_reads, ChunkRead, read_text, last_answer, AllGaveBytes}
use Rattle.record_file.specs.Reads.{CountsFile}
use Rattle.show_histogram.specs.declared.ShownCounts.{ShownCounts}

-- The reads before the last gave bytes, in which no line with a fault had ended: behind a failed read, the end or a fault nothing more is read.
abbrev pub StopsInTime : List Stream → List ChunkRead → Type 0
StopsInTime ss [] = Unit {0}
StopsInTime ss (r ∷ rs) = AllGaveBytes rs × NoFaultEnded ss (read_text rs)

-- What is printed for a sheet and for what the reads of the record gave, by how the reading ended.
pub data PrintsReads (sheet_text : List ℕ) (reads : List ChunkRead) : ReadEnd → List ℕ → Type 0 where
  -- "Of the sheet only 1 to 7 are judged": the record is not opened, whatever it holds.
  unopened : {n : ℕ} → AnswerTo sheet_text (refused n) → reads ≡ [] → PrintsReads sheet_text reads Stopped (refusal_line n)
  -- A read met the end of the record.
  complete : {s : Sheet} → AnswerTo sheet_text (sheet s) → NoFaultEnded s.streams (read_text reads) → last_answer reads ≡ pos 0
      → PrintsReads sheet_text reads Complete (counted_text s.streams (lines (read_text reads)))
  -- "its first line with a fault" was met: whatever follows it, the same is printed.
  faulty : {s : Sheet} → AnswerTo sheet_text (sheet s) → (n : ℕ) → ((rest : List ℕ) → PrintsHistogram sheet_text (read_text reads ++ rest) (refusal_line n))
      → PrintsReads sheet_text reads Stopped (refusal_line n)
  -- "a file it cannot read counts as empty": where a read fails, the first or a later one, nothing but 13 is printed; and so where the record goes on behind the
  -- last read.
  incomplete : {s : Sheet} → AnswerTo sheet_text (sheet s) → NoFaultEnded s.streams (read_text reads) → ((k : ℕ) × (last_answer reads ≡ negsuc k)) ⊎ ((length reads ≡ most_reads) × ((k : ℕ) × (last_answer reads ≡ pos (suc k))))
      → PrintsReads sheet_text reads Incomplete (refusal_line 13)

-- How the reading of the record ended, and how many of the bytes that are printed were taken by writes.
pub record ShowsHistogram (sheet_text : List ℕ) (r : ShownCounts) : Type 0 where
  pub reads : List ChunkRead
  pub most : length reads ≤ most_reads
  pub stops : {s : Sheet} → AnswerTo sheet_text (sheet s) → StopsInTime s.streams reads
  pub bytes : List ℕ
  pub prints : PrintsReads sheet_text reads r.ended bytes
  pub hands : Hands bytes r.handed.size r.handed.whole

-- ---- parts of a call

-- The names and ranges of a stored sheet as they are passed on: the names uncut, the other lists cut to the streams.
abbrev pub passed_streams : StoredSheet → CountedSheet
passed_streams x = let n = min x.streams 8 in counted_sheet x.names (take n x.lengths) (take n x.lows) (take n x.highs)

abbrev pub printout_of_counts : StoredSheet → LineCounts → List ℕ → HistogramPrintout
printout_of_counts x counted counts =
    let s = passed_streams x in
    record { refusal = counted.refusal; total = counted.total; names = s.names; lengths = s.lengths; lows = s.lows; highs = s.highs; counts = counts }

-- The file's lines are counted from zeros, and the counts are printed with the names and ranges of a stored sheet.
pub record ShowsCounts (x : StoredSheet) (r : ShownCounts) : Type 0 where
  pub counted : LineCounts
  pub counts : List ℕ
  pub file : CountsFile (passed_streams x) (replicate 1024 0) counts (record { counted = counted; ended = r.ended })
  pub hands : Hands (histogram_output (printout_of_counts x counted counts)) r.handed.size r.handed.whole
