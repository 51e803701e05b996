-- The arrays are lent as they are, the lengths and ranges cut to the streams.
use Rattle.std.proofs.Common.{ℕ, List, take, replicate}
use mathlib.Core.Path.{transport}
use Rattle.reader.specs.declared.StoredSheet.{StoredSheet}
use Rattle.print.proofs.Lengths.{fit-take}
use Rattle.output.specs.Output.{Hands}
use Rattle.tally.specs.declared.LineCounts.{LineCounts}
use Rattle.tally.specs.Machine.{CountedSheet, counted_sheet}
use Rattle.histogram_text.specs.Output.{HistogramPrintout, histogram_output}
use Rattle.record_file.specs.Reads.{CountsFile}
use Rattle.show_histogram.proofs.show_counts.Goals as goal

-- The sheet, and what is printed, with so many streams.
abbrev cut_to : StoredSheet → ℕ → CountedSheet
cut_to x n = counted_sheet x.names (take n x.lengths) (take n x.lows) (take n x.highs)

abbrev printout_to : StoredSheet → ℕ → LineCounts → List ℕ → HistogramPrintout
printout_to x n counted counts =
    record { refusal = counted.refusal; total = counted.total; names = x.names; lengths = take n x.lengths; lows = take n x.lows; highs = take n x.highs; counts = counts }

pub write_pages-handed-requires : goal.write_pages-handed-requires
write_pages-handed-requires g c = (fit-take c.min-streams.result c.args.sheet.lows c.requires.lows, fit-take c.min-streams.result c.args.sheet.highs c.requires.highs)

pub returns : goal.returns
returns g c =
    let x = c.args.sheet in
    let n = c.min-streams.ensures in
    let f = c.count_file-file in
    let w = c.write_pages-handed in
    record {
      counted = f.result.counted;
      counts = f.new.counts;
      file = transport (λ i. CountsFile (cut_to x (n i)) (replicate 1024 0) f.new.counts f.result) f.ensures;
      hands = transport (λ i. Hands (histogram_output (printout_to x (n i) f.result.counted f.new.counts)) w.result.size w.result.whole) w.ensures;
    }
