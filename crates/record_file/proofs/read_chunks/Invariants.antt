-- Before each turn the bytes of the reads so far are counted, and so many reads may follow (reads, Chunks).
use Rattle.reads.specs.Chunks.{ReadTo, reads_so_far}
use Rattle.tally.specs.Machine.{counted_sheet, counting, start_tally, count_byte}
use Rattle.record_file.specs.Reads.{is_refused_counting}
use Rattle.record_file.proofs.read_chunks.Given as goal

abbrev pub invariant-chunks : goal.invariant-chunks
invariant-chunks g l =
    ReadTo (count_byte (counted_sheet l.names l.lengths l.lows l.highs)) is_refused_counting (counting start_tally l.initial.counts) (counting l.tally l.counts)
    (reads_so_far (is_refused_counting (counting l.tally l.counts)) l.answer l.left) l.left

abbrev pub decreases-chunks : goal.decreases-chunks
decreases-chunks g l = l.left
