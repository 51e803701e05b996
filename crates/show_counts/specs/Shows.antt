-- What `show_counts` and `show_input` give back, and what their parts do.
use Rattle.std.specs.Prelude.{Option as MachineOption, Some, None, ℕ, suc, ◌≤◌, ◌<◌, ◌≡◌, ◌⊎◌, Bool, List, [], ◌∷◌, ◌++◌, leb, pos, negsuc, length, get_or}
use Rattle.std.proofs.Math.Option.{Option, none, some}
use Rattle.meaning.specs.Expression.{Sheet}
use Rattle.sheet.specs.Refusal.{byte_bound}
use Rattle.outcome.specs.Compile.{CompileAnswer, Tables}
use Rattle.lend.specs.Lend.{CompiledLent}
use Rattle.reads.specs.Chunks.{most_reads, ChunkRead, read_text, last_answer, AllGaveBytes}
use Rattle.reads.specs.declared.ReadEnd.{ReadEnd}
use Rattle.reads.specs.declared.ReadEnd.TheVariants.{Complete, Stopped, Incomplete}
use Rattle.first_line.specs.declared.Taken.{Taken}
use Rattle.first_line.specs.Input.{text_behind}
use Rattle.first_line.specs.Machine.{kept_bytes, KeptInput, taken_start}
use Rattle.output.specs.Output.{Hands}
use Rattle.output.specs.declared.Handed.{Handed}
use Rattle.print.specs.Text.{refusal_line}
use Rattle.show_counts.specs.declared.ShownInput.{ShownInput}
use Rattle.show_counts.specs.Prints.{TooMany, AreFigures, PrintsCounts, PrintsFor}

-- The number of the line, where it is one.
abbrev pub number_given : MachineOption ℕ → Option ℕ
number_given None = none
number_given (Some n) = some n

-- How many of the bytes that `record_counts` prints for a number and a text were taken by writes.
pub record ShowsRecordCounts (number : Option ℕ) (text : List ℕ) (r : Handed) : Type 0 where
  pub bytes : List ℕ
  pub prints : PrintsCounts number text bytes
  pub hands : Hands bytes r.size r.whole

-- ---- an input that is read

-- What is printed for what the reads of the input gave, by how the reading ended.
pub data PrintsInput (reads : List ChunkRead) : ReadEnd → List ℕ → Type 0 where
  -- A read met the end of the input.
  complete : {bytes : List ℕ} → last_answer reads ≡ pos 0 → PrintsFor (read_text reads) bytes → PrintsInput reads Complete bytes
  -- "1, over 16,384 bytes" of the sheet: whatever follows them, the same is printed.
  stopped : {bytes : List ℕ} → ((rest : List ℕ) → PrintsFor (read_text reads ++ rest) bytes) → PrintsInput reads Stopped bytes
  -- "a file it cannot read counts as empty": where a read fails, the first or a later one; and so where the input goes on behind the last read.
  incomplete : {bytes : List ℕ} → ((k : ℕ) × (last_answer reads ≡ negsuc k)) ⊎ ((length reads ≡ most_reads) × ((k : ℕ) × (last_answer reads ≡ pos (suc k)))) → PrintsFor [] bytes
      → PrintsInput reads Incomplete bytes

-- The reads before the last gave bytes, and not more behind the line than a sheet may have: behind a failed read, the end or such bytes nothing more is read.
abbrev pub StopsAtBound : List ChunkRead → Type 0
StopsAtBound [] = Unit {0}
StopsAtBound (r ∷ rs) = AllGaveBytes rs × (length (text_behind (read_text rs)) ≤ byte_bound)

-- How the reading of the input ended, and how many of the bytes that are printed were taken by writes.
pub record ShowsInput (r : ShownInput) : Type 0 where
  pub reads : List ChunkRead
  pub most : length reads ≤ most_reads
  pub stops : StopsAtBound reads
  pub bytes : List ℕ
  pub prints : PrintsInput reads r.ended bytes
  pub hands : Hands bytes r.handed.size r.handed.whole

-- ---- parts of a call

-- As many bytes are kept as tell that the sheet has too many.
abbrev pub is_full : KeptInput → Bool
is_full s = leb kept_bytes s.taken.size

-- What was taken, or nothing where the input was not read to its end or to more bytes than a sheet may have.
abbrev pub or_nothing : Taken → ReadEnd → Taken
or_nothing t Complete = t
or_nothing t Stopped = t
or_nothing t Incomplete = taken_start

-- The refusal that is printed, or 0 and the figures in two lists.
pub data FindsFigures (number : Option ℕ) (text : List ℕ) : (refusal : ℕ) (figures final_figures : List ℕ) → Type 0 where
  is_refused : {n : ℕ} {figures final_figures : List ℕ} → 0 < n → PrintsCounts number text (refusal_line n) → FindsFigures number text n figures final_figures
  are_found : {m : ℕ} {s : Sheet} {a : CompileAnswer} {t : Tables} {figures final_figures : List ℕ} → number ≡ some m → CompiledLent text s a t → a.refusal ≡ 0 → (TooMany s m → ⊥)
      → AreFigures s m (λ t. get_or figures t 0) (λ t. get_or final_figures t 0) → FindsFigures number text 0 figures final_figures
