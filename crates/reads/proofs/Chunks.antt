-- The reads of an input, one after the other: a machine takes their bytes, there are no more than so many, and what the reading has come to is told by the last
-- answer. From the law of texts in parts (text, Lines) and the definitions.
use Prim.Native.Nat.{ℕ, zero, suc, ◌-◌, ◌*◌, ◌≤◌, ◌<◌}
use native.Mathlib.Omega.{arith}
use mathlib.Core.Path.{◌≡◌, refl, sym, ◌∙◌, ap, subst}
use mathlib.Core.Bool.{Bool, true, false, cond}
use mathlib.Core.List.{List, [], ◌∷◌}
use lib.Dec.{ltb}
use lib.IntN.{ℤ, pos, negsuc}
use lib.ListN.{length, length-append}
use borrow.Author.Tests.{ltb-true, ltb-false}
use Rattle.io.specs.Counts.{clamp_len}
use Rattle.text.specs.Fold.{run_bytes}
use Rattle.text.proofs.Lines.{run-append}
use Rattle.reads.specs.declared.ReadEnd.TheVariants.{Complete, Stopped, Incomplete}
use Rattle.std.specs.Prelude.{Option, Some, None}
use Rattle.reads.specs.declared.ReadEnd.{ReadEnd}
use Rattle.reads.specs.Chunks.{most_reads, ChunkRead, read_text, last_answer, AllGaveBytes, reads_so_far, ReadsUntilStop, ReadTo, ReadsAll}

-- ---- how many bytes

clamped_few : (answer : ℤ) → clamp_len answer 65536 ≤ 65536
clamped_few (pos k) = omega arith
clamped_few (negsuc k) = omega arith

pub text-few : (reads : List ChunkRead) → length (read_text reads) ≤ length reads * 65536
text-few [] = omega arith
text-few (r ∷ rs) = omega (arith, text-few rs, length-append (read_text rs) r.bytes, r.size, clamped_few r.answer)

-- ---- what a read comes to

-- Where there is more to read, a read may follow, nothing has stopped, and the last read gave bytes.
more_left : (stopped : Bool) (answer : ℤ) (left : ℕ) → reads_so_far stopped answer left ≡ None → 0 < left
more_left true a left e = cc
more_left false (negsuc k) left e = cc
more_left false (pos zero) left e = cc
more_left false (pos (suc k)) left e = by (ltb 0 left) refl e
  where
    by : (t : Bool) → ltb 0 left ≡ t → cond t None (Some Incomplete) ≡ None → 0 < left
    by true q f = ltb-true 0 left q
    by false q f = cc

more_unstopped : (stopped : Bool) (answer : ℤ) (left : ℕ) → reads_so_far stopped answer left ≡ None → stopped ≡ false
more_unstopped true a left e = cc
more_unstopped false a left e = refl

more_bytes : (stopped : Bool) (answer : ℤ) (left : ℕ) → reads_so_far stopped answer left ≡ None → (k : ℕ) × (answer ≡ pos (suc k))
more_bytes true a left e = absurd (let no : ⊥ = cc in no)
more_bytes false (negsuc k) left e = absurd (let no : ⊥ = cc in no)
more_bytes false (pos zero) left e = absurd (let no : ⊥ = cc in no)
more_bytes false (pos (suc k)) left e = (k, refl)

-- ---- reads one after the other

module _ {S : Type 0} (step : S → ℕ → S) (stops : S → Bool) (start : S) where
  -- Before the first read, where the machine stands at its start and b says whether it has stopped.
  pub nothing_read : {s : S} {b : Bool} {r : Option ReadEnd} → s ≡ start → b ≡ stops s → r ≡ reads_so_far b (pos 1) 140737488355329 → ReadTo step stops start s r 140737488355329
  nothing_read e f q = record { chunks = []; all = refl; run = e; stands = q ∙ ap (λ t. reads_so_far t (pos 1) 140737488355329) f; stopped = tt }

  pub may_read : {s : S} {r : Option ReadEnd} {left : ℕ} → ReadTo step stops start s r left → r ≡ None → 0 < left
  may_read {s} {left = left} p e = more_left (stops s) (last_answer p.chunks) left (sym p.stands ∙ e)

  -- Where there is more to read, all reads so far gave bytes, at which the machine has not stopped.
  goes_on : {s : S} {r : Option ReadEnd} {left : ℕ} (p : ReadTo step stops start s r left) → r ≡ None
      → AllGaveBytes p.chunks × (stops (run_bytes step start (read_text p.chunks)) ≡ false)
  goes_on {s} {left = left} p more =
      let e = sym p.stands ∙ more in
      (by p.chunks (more_bytes (stops s) (last_answer p.chunks) left e) p.stopped, ap stops (sym p.run) ∙ more_unstopped (stops s) (last_answer p.chunks) left e)
    where
      by : (rs : List ChunkRead) → (k : ℕ) × (last_answer rs ≡ pos (suc k)) → ReadsUntilStop step stops start rs → AllGaveBytes rs
      by [] h st = tt
      by (x ∷ rs) h st = (h, st.0)

  -- One read more, whose bytes the machine has taken.
  pub chunk_read : {s s' : S} {b : Bool} {r r' : Option ReadEnd} {left : ℕ} → ReadTo step stops start s r left → r ≡ None → (chunk : ChunkRead) → s' ≡ run_bytes step s chunk.bytes
      → b ≡ stops s' → r' ≡ reads_so_far b chunk.answer (left - 1) → ReadTo step stops start s' r' (left - 1)
  chunk_read {left = left} p more chunk e f q =
      let some = may_read p more in
      record {
        chunks = chunk ∷ p.chunks;
        all = omega (arith, p.all);
        run = e ∙ ap (λ x. run_bytes step x chunk.bytes) p.run ∙ sym (run-append step start (read_text p.chunks) chunk.bytes);
        stands = q ∙ ap (λ t. reads_so_far t chunk.answer (left - 1)) f;
        stopped = goes_on p more;
      }

  -- ---- the end

  -- The reading has ended so.
  pub all_read : {s : S} {ended : ReadEnd} {r : Option ReadEnd} {left : ℕ} → ReadTo step stops start s r left → Some ended ≡ r → ReadsAll step stops start s ended
  all_read {s} {left = left} p e = record { left = left; reads = subst (λ r. ReadTo step stops start s r left) (sym e) p }

  -- How the reading ended: the machine stopped; or a read met the end; or a read failed, or the last that may be made gave bytes.
  pub data Ended (state : S) (chunks : List ChunkRead) (ended : ReadEnd) : Type 0 where
    at_stop : stops state ≡ true → ended ≡ Stopped → Ended state chunks ended
    at_end : stops state ≡ false → last_answer chunks ≡ pos 0 → ended ≡ Complete → Ended state chunks ended
    at_failure : stops state ≡ false → {k : ℕ} → last_answer chunks ≡ negsuc k → ended ≡ Incomplete → Ended state chunks ended
    at_most : stops state ≡ false → length chunks ≡ most_reads → {k : ℕ} → last_answer chunks ≡ pos (suc k) → ended ≡ Incomplete → Ended state chunks ended

  pub reading-ended : {s : S} {ended : ReadEnd} (p : ReadsAll step stops start s ended) → Ended s p.reads.chunks ended
  reading-ended {s} {ended} p = by (stops s) refl (last_answer p.reads.chunks) refl p.reads.stands
    where
      none-left : (t : Bool) → ltb 0 p.left ≡ t → {k : ℕ} → stops s ≡ false → last_answer p.reads.chunks ≡ pos (suc k) → Some ended ≡ cond t None (Some Incomplete)
          → Ended s p.reads.chunks ended
      none-left true l e q stood = absurd (let no : ⊥ = cc in no)
      none-left false l e q stood = let none = ltb-false 0 p.left l in at_most e (omega (arith, p.reads.all)) q (let same : ended ≡ Incomplete = cc in same)

      by : (stopped : Bool) → stops s ≡ stopped → (a : ℤ) → last_answer p.reads.chunks ≡ a → Some ended ≡ reads_so_far stopped a p.left → Ended s p.reads.chunks ended
      by true e a q stood = at_stop e (let same : ended ≡ Stopped = cc in same)
      by false e (negsuc k) q stood = at_failure e q (let same : ended ≡ Incomplete = cc in same)
      by false e (pos zero) q stood = at_end e q (let same : ended ≡ Complete = cc in same)
      by false e (pos (suc k)) q stood = none-left (ltb 0 p.left) refl e q stood
