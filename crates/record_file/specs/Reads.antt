-- What is counted of a record whose bytes come in reads (reads, Chunks). That the reads named are those made, of the file with the path given, is what the loop
-- of `read_chunks` and `count_file` do, and rests on no law.
use Rattle.std.specs.Prelude.{ℕ, Bool, false, List}
use Rattle.reads.specs.declared.ReadEnd.{ReadEnd}
use Rattle.reads.specs.declared.ReadEnd.TheVariants.{Complete, Stopped, Incomplete}
use Rattle.reads.specs.Chunks.{ReadsAll}
use Rattle.tally.specs.declared.TallyStage.TheVariants.{Refused}
use Rattle.tally.specs.declared.Tally.{Tally}
use Rattle.tally.specs.Machine.{CountedSheet, Counting, counting, tally_at, start_tally, is_refused_tally, count_byte, FinishesTally}
use Rattle.record_file.specs.declared.FileCounts.{FileCounts}

-- "its first line with a fault": behind it nothing matters.
abbrev pub is_refused_counting : Counting → Bool
is_refused_counting c = is_refused_tally c.tally.stage

-- The tally, or 13 where the record was not read to its end or to a fault.
abbrev pub or_unread : Tally → ReadEnd → Tally
or_unread t Complete = t
or_unread t Stopped = t
or_unread t Incomplete = tally_at false (Refused 13)

-- The lines of the bytes that were read are counted to their end.
pub record CountsFile (s : CountedSheet) (counts counts' : List ℕ) (r : FileCounts) : Type 0 where
  pub tally : Tally
  pub before : List ℕ
  pub reads : ReadsAll (count_byte s) is_refused_counting (counting start_tally counts) (counting tally before) r.ended
  pub finishes : FinishesTally s (or_unread tally r.ended) before counts' r.counted
