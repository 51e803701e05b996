-- The reads of an input in chunks. Which bytes they give is outside the logic: they are named, and what a program does is said of them. That the reads named
-- are those made is what the loop of a caller does, and rests on no law.
use Rattle.std.specs.Prelude.{ℕ, zero, suc, ◌+◌, ◌≡◌, Bool, true, false, cond, Option, Some, None, List, [], ◌∷◌, ◌++◌, ltb, ℤ, pos, negsuc, length}
use Rattle.io.specs.Counts.{clamp_len}
use Rattle.text.specs.Fold.{run_bytes}
use Rattle.reads.specs.declared.ReadEnd.{ReadEnd}
use Rattle.reads.specs.declared.ReadEnd.TheVariants.{Complete, Stopped, Incomplete}

-- The most reads of an input, each of at most 65,536 bytes: those that 9,223,372,036,854,775,808 bytes fill, and no file is longer, and one more that meets
-- its end.
abbrev pub most_reads : ℕ
most_reads = 140737488355329

-- One read: its answer is the number of bytes that it gave, 0 at the end of the input, or negative where it failed.
pub record ChunkRead : Type 0 where
  pub answer : ℤ
  pub bytes : List ℕ
  pub size : length bytes ≡ clamp_len answer 65536

-- The bytes that reads gave, where the last read stands first.
abbrev pub read_text : List ChunkRead → List ℕ
read_text [] = []
read_text (r ∷ rs) = read_text rs ++ r.bytes

-- The answer of the last read; 1 before the first, since bytes may follow.
abbrev pub last_answer : List ChunkRead → ℤ
last_answer [] = pos 1
last_answer (r ∷ rs) = r.answer

-- All of these reads gave bytes: none failed, and none met the end.
abbrev pub AllGaveBytes : List ChunkRead → Type 0
AllGaveBytes [] = Unit {0}
AllGaveBytes (r ∷ rs) = ((k : ℕ) × (r.answer ≡ pos (suc k))) × AllGaveBytes rs

-- ---- what reads come to

-- After a read with this answer, where so many reads may follow: how the reading ended, or nothing where a read follows. As long as reads may follow, the input
-- is not read to its end.
abbrev pub reads_so_far : (stopped : Bool) → ℤ → (left : ℕ) → Option ReadEnd
reads_so_far true answer left = Some Stopped
reads_so_far false (negsuc k) left = Some Incomplete
reads_so_far false (pos zero) left = Some Complete
reads_so_far false (pos (suc k)) left = cond (ltb 0 left) None (Some Incomplete)

-- ---- what a machine makes of the bytes

module _ {S : Type 0} (step : S → ℕ → S) (stops : S → Bool) (start : S) where
  -- The reads before the last gave bytes, at which the machine had not stopped: behind a failed read, the end or a stop nothing more is read.
  abbrev pub ReadsUntilStop : List ChunkRead → Type 0
  ReadsUntilStop [] = Unit {0}
  ReadsUntilStop (r ∷ rs) = AllGaveBytes rs × (stops (run_bytes step start (read_text rs)) ≡ false)

  -- The machine has taken the bytes that reads gave, and so many reads may follow.
  pub record ReadTo (state : S) (r : Option ReadEnd) (left : ℕ) : Type 0 where
    pub chunks : List ChunkRead
    pub all : length chunks + left ≡ most_reads
    pub run : state ≡ run_bytes step start (read_text chunks)
    pub stands : r ≡ reads_so_far (stops state) (last_answer chunks) left
    pub stopped : ReadsUntilStop chunks

  -- No more reads follow, and the reading ended so.
  pub record ReadsAll (state : S) (ended : ReadEnd) : Type 0 where
    pub left : ℕ
    pub reads : ReadTo state (Some ended) left
