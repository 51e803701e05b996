-- What is kept of a record whose bytes come one after the other (document 02, S-12): scalars, and a count for each letter, whatever the record's length.
use Rattle.std.specs.Prelude.{ℕ, ◌≤◌, ◌<◌, ◌≡◌, Bool, true, false, cond, List, eqb, ℤ, length, replicate}
use Rattle.std.proofs.Math.Seq.{slice}
use Rattle.text.specs.Bytes.{Token}
use Rattle.text.specs.Fold.{run_bytes}
use Rattle.text.specs.Lines.{text_byte}
use Rattle.meaning.specs.Expression.{Stream}
use Rattle.letters.specs.Described.{described}
use Rattle.sheet.specs.Names.{name_in}
use Rattle.records.specs.Machine.{line_start, line_byte, line_end}
use Rattle.record_names.specs.Machine.{names_start, names_byte, names_end}
use Rattle.records.specs.declared.LineEnd.{LineEnd}
use Rattle.record_names.specs.declared.NamesState.{NamesState}
use Rattle.record_lines.specs.Runs.{one_more}
use Rattle.held_lines.specs.Held.{raised_count}
use Rattle.tally.specs.declared.TallyStage.{TallyStage}
use Rattle.tally.specs.declared.TallyStage.TheVariants.{Names, Values, Refused}
use Rattle.tally.specs.declared.Tally.{Tally}
use Rattle.tally.specs.declared.LineCounts.{LineCounts}
use Rattle.tally.specs.declared.Part.{Part}

-- A sheet's streams as they are stored: eight bytes for each name, the names' lengths, and the lowest and highest values.
pub record CountedSheet : Type 0 where
  pub names : List ℕ
  pub lengths : List ℕ
  pub lows : List ℤ
  pub highs : List ℤ

abbrev pub counted_sheet : (names lengths : List ℕ) (lows highs : List ℤ) → CountedSheet
counted_sheet names lengths lows highs = record { names = names; lengths = lengths; lows = lows; highs = highs }

-- A record that is being read, and the counts so far.
pub record Counting : Type 0 where
  pub tally : Tally
  pub counts : List ℕ

abbrev pub counting : Tally → List ℕ → Counting
counting t counts = record { tally = t; counts = counts }

abbrev pub tally_at : Bool → TallyStage → Tally
tally_at begun stage = record { begun = begun; stage = stage }

abbrev pub start_tally : Tally
start_tally = tally_at false (Names names_start)

abbrev pub is_refused_tally : TallyStage → Bool
is_refused_tally (Names line) = false
is_refused_tally (Values line total) = false
is_refused_tally (Refused n) = true

-- ---- the end of a line of values

abbrev pub stage_after : ℕ → LineEnd → TallyStage
stage_after total e = cond (eqb e.refusal 0) (Values line_start (one_more total)) (Refused e.refusal)

abbrev pub counts_after : List ℕ → LineEnd → List ℕ
counts_after counts e = cond (eqb e.refusal 0) (raised_count counts e.letter) counts

-- ---- the end of a record

abbrev pub refused_counts : ℕ → LineCounts
refused_counts n = record { refusal = n; total = 0 }

-- "a bad record prints nothing but the 13 or 14"; a record without lines has no names.
abbrev pub counts_answer : TallyStage → LineCounts
counts_answer (Names line) = refused_counts 13
counts_answer (Values line total) = record { refusal = 0; total = total }
counts_answer (Refused n) = refused_counts n

-- After a refusal all counts are 0.
abbrev pub counts_left : TallyStage → List ℕ → List ℕ
counts_left (Names line) counts = replicate (length counts) 0
counts_left (Values line total) counts = counts
counts_left (Refused n) counts = replicate (length counts) 0

module _ (s : CountedSheet) where
  abbrev pub counted_streams : List Stream
  counted_streams = described s.lows s.highs

  abbrev pub counted_name : ℕ → Token
  counted_name = name_in s.names s.lengths

  -- ---- a byte of a line

  abbrev pub byte_in : TallyStage → ℕ → TallyStage
  byte_in (Names line) b = Names (names_byte counted_name line b)
  byte_in (Values line total) b = Values (line_byte counted_streams line b) total
  byte_in (Refused n) b = Refused n

  abbrev pub byte_counted : Counting → ℕ → Counting
  byte_counted c b = counting (tally_at true (byte_in c.tally.stage b)) c.counts

  -- ---- the end of a line

  abbrev pub are_counted_names : NamesState → Bool
  are_counted_names line = names_end counted_name (length s.lengths) line

  abbrev pub stage_ended : TallyStage → TallyStage
  stage_ended (Names line) = cond (are_counted_names line) (Values line_start 0) (Refused 13)
  stage_ended (Values line total) = stage_after total (line_end counted_streams line)
  stage_ended (Refused n) = Refused n

  abbrev pub end_counts : TallyStage → List ℕ → List ℕ
  end_counts (Names line) counts = counts
  end_counts (Values line total) counts = counts_after counts (line_end counted_streams line)
  end_counts (Refused n) counts = counts

  abbrev pub line_counted : Counting → Counting
  line_counted c = counting (tally_at false (stage_ended c.tally.stage)) (end_counts c.tally.stage c.counts)

  -- ---- a record

  unfoldable pub count_byte : Counting → ℕ → Counting
  count_byte = text_byte byte_counted line_counted

  -- "the last may lack it": a line that is begun ends with the record.
  unfoldable pub last_counted : Counting → Counting
  last_counted c = cond c.tally.begun (line_counted c) c

  -- What is given at the end of a record, and the counts that are left.
  pub record FinishesTally (tally : Tally) (counts counts' : List ℕ) (r : LineCounts) : Type 0 where
    pub answer : r ≡ counts_answer (last_counted (counting tally counts)).tally.stage
    pub left : counts' ≡ counts_left (last_counted (counting tally counts)).tally.stage (last_counted (counting tally counts)).counts

  -- ---- a part of a chunk

  -- The bytes from a place to before `next` are read, at least one of them.
  pub record ReadsPart (tally : Tally) (chunk : List ℕ) (from : ℕ) (counts counts' : List ℕ) (r : Part) : Type 0 where
    pub onward : from < r.next
    pub inside : r.next ≤ length chunk
    pub run : counting r.tally counts' ≡ run_bytes count_byte (counting tally counts) (slice from r.next chunk)
