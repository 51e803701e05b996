-- Before each turn the bytes of the reads so far are taken, and so many reads may follow (reads, Chunks).
use Rattle.first_line.specs.Machine.{keeping, keep_byte, taken_start}
use Rattle.reads.specs.Chunks.{ReadTo, reads_so_far}
use Rattle.show_counts.specs.Shows.{is_full}
use Rattle.show_counts.proofs.take_input.Given as goal

abbrev pub invariant-chunks : goal.invariant-chunks
invariant-chunks g l =
    ReadTo keep_byte is_full (keeping taken_start l.initial.sheet) (keeping l.taken l.sheet) (reads_so_far (is_full (keeping l.taken l.sheet)) l.answer l.left) l.left

abbrev pub decreases-chunks : goal.decreases-chunks
decreases-chunks g l = l.left
