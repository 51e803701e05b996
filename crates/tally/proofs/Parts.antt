-- A part of a chunk, as the code reads it: the line of names, lines of values one after the other, and the rest behind a refusal. From the laws of the
-- machine (Steps) and of the bytes of a line (record_lines).
use Prim.Native.Nat.{ℕ, ◌+◌, ◌-◌, ◌≤◌, ◌<◌}
use native.Mathlib.Omega.{arith}
use mathlib.Core.Path.{◌≡◌, sym, ◌∙◌, ap, subst}
use mathlib.Core.Logic.{◌≢◌}
use mathlib.Core.Bool.{Bool, true, false, not, cond}
use mathlib.Core.List.{List}
use lib.Dec.{eqb}
use lib.ListN.{length, get_or}
use lib.Seq.{slice, slice_empty, take-length}
use borrow.Author.Tests.{eq-eqb, ne_eqb}
use Rattle.text.specs.Fold.{run_bytes}
use Rattle.text.proofs.Lines.{run-append}
use Rattle.records.specs.Machine.{line_start, line_byte, line_end}
use Rattle.record_names.specs.Machine.{names_byte}
use Rattle.records.specs.declared.LineState.{LineState}
use Rattle.records.specs.declared.LineEnd.{LineEnd}
use Rattle.record_names.specs.declared.NamesState.{NamesState}
use Rattle.record_lines.specs.Runs.{one_more, RunsLine}
use Rattle.record_lines.proofs.Slices.{slice_split, slice_more}
use Rattle.record_lines.proofs.Runs.{begun_by, begun-part, line-bytes, whole-line}
use Rattle.tally.specs.declared.TallyStage.{TallyStage}
use Rattle.tally.specs.declared.TallyStage.TheVariants.{Names, Values, Refused}
use Rattle.tally.specs.declared.Tally.{Tally}
use Rattle.tally.specs.declared.Part.{Part}
use Rattle.tally.specs.Machine.{CountedSheet, Counting, counting, tally_at, counted_streams, counted_name, byte_counted, line_counted, are_counted_names, count_byte, ReadsPart}
use Rattle.held_lines.specs.Held.{raised_count}
use Rattle.tally.proofs.Steps.{names-run, values-run, refused-bytes}

abbrev part_to : Bool → TallyStage → ℕ → Part
part_to g stage next = record { tally = tally_at g stage; next = next }

module _ (s : CountedSheet) (chunk : List ℕ) where
  abbrev run : Counting → ℕ → ℕ → Counting
  run c from next = run_bytes (count_byte s) c (slice from next chunk)

  -- Bytes from a place to another, and those from there on.
  run_then : (c : Counting) {from at next : ℕ} → from ≤ at → at ≤ next → run (run c from at) at next ≡ run c from next
  run_then c {from} {at} {next} o i = sym (run-append (count_byte s) c (slice from at chunk) (slice at next chunk)) ∙ ap (run_bytes (count_byte s) c) (slice_split from at next chunk o i)

  -- ---- the line of names

  module _ {from next : ℕ} (l : RunsLine chunk from next) (g : Bool) (x : NamesState) (counts : List ℕ) {y : NamesState}
      (e : y ≡ run_bytes (names_byte (counted_name s)) x (slice from next chunk)) where
    names-bytes : run_bytes (byte_counted s) (counting (tally_at g (Names x)) counts) (slice from next chunk) ≡ counting (tally_at (begun_by g (slice from next chunk)) (Names y)) counts
    names-bytes = names-run s (slice from next chunk) g x counts ∙ ap (λ z. counting (tally_at (begun_by g (slice from next chunk)) (Names z)) counts) (sym e)

    -- It goes on behind the chunk.
    pub names_on : from < length chunk → length chunk ≤ next → {r : Part} → r ≡ part_to true (Names y) next → ReadsPart s (tally_at g (Names x)) chunk from counts counts r
    unfolding count_byte
    names_on h k {r} z =
        let i = l.inside in
        let inside : next ≤ length chunk = omega arith in
        let same = ap (λ p. counting p.tally counts) z in
        let place = ap (λ p. p.next) z in
        record {
          onward = omega arith;
          inside = omega arith;
          run = same ∙ ap (λ t. counting (tally_at t (Names y)) counts) (sym (begun-part g chunk from next (omega arith) inside)) ∙ sym (line-bytes (byte_counted s) (line_counted s) l _ names-bytes)
              ∙ ap (λ n. run (counting (tally_at g (Names x)) counts) from n) (sym place);
        }

    -- It ends with a byte 10.
    module _ (k : next < length chunk) where
      names-end : {same : Bool} → are_counted_names s y ≡ same → counting (tally_at false (cond same (Values line_start 0) (Refused 13))) counts ≡ run (counting (tally_at g (Names x)) counts) from (next + 1)
      unfolding count_byte
      names-end n =
          ap (λ t. counting (tally_at false (cond t (Values line_start 0) (Refused 13))) counts) (sym n) ∙ sym (whole-line (byte_counted s) (line_counted s) l _ names-bytes k)

      names-part : {r : Part} {stage : TallyStage} → r ≡ part_to false stage (next + 1) → counting (tally_at false stage) counts ≡ run (counting (tally_at g (Names x)) counts) from (next + 1)
          → ReadsPart s (tally_at g (Names x)) chunk from counts counts r
      names-part {r} {stage} z ended =
          let o = l.onward in
          let place = ap (λ p. p.next) z in
          record {
            onward = omega arith;
            inside = omega arith;
            run = ap (λ p. counting p.tally counts) z ∙ ended ∙ ap (λ n. run (counting (tally_at g (Names x)) counts) from n) (sym place);
          }

      pub names_same : are_counted_names s y ≡ true → {start : LineState} → start ≡ line_start → {r : Part} → r ≡ part_to false (Values start 0) (next + 1)
          → ReadsPart s (tally_at g (Names x)) chunk from counts counts r
      names_same n a z = names-part z (ap (λ line. counting (tally_at false (Values line 0)) counts) a ∙ names-end n)

      pub names-differ : are_counted_names s y ≡ false → {r : Part} → r ≡ part_to false (Refused 13) (next + 1) → ReadsPart s (tally_at g (Names x)) chunk from counts counts r
      names-differ n z = names-part z (names-end n)

  -- ---- lines of values

  -- The bytes so far are read.
  pub record ReadSoFar (start : Counting) (from at : ℕ) (c : Counting) : Type 0 where
    pub onward : from ≤ at
    pub inside : at ≤ length chunk
    pub run : c ≡ run_bytes (count_byte s) start (slice from at chunk)

  pub nothing_read : (start : Counting) (from : ℕ) → from ≤ length chunk → ReadSoFar start from from start
  nothing_read start from h = record { onward = omega arith; inside = omega arith; run = sym (ap (run_bytes (count_byte s) start) (slice_empty from chunk)) }

  pub read-part : {start : Tally} {from : ℕ} {counts counts' : List ℕ} {r : Part} {g : Bool} {stage : TallyStage} {next : ℕ} → r ≡ part_to g stage next → from < next
      → ReadSoFar (counting start counts) from next (counting (tally_at g stage) counts') → ReadsPart s start chunk from counts counts' r
  read-part {start} {from} {counts} {counts'} {r} z h p =
      let place = ap (λ q. q.next) z in
      record {
        onward = omega arith;
        inside = omega (arith, p.inside);
        run = ap (λ q. counting q.tally counts') z ∙ p.run ∙ ap (λ n. run (counting start counts) from n) (sym place);
      }

  module _ {start : Counting} {from at : ℕ} {g : Bool} {x : LineState} {n : ℕ} {counts : List ℕ} (p : ReadSoFar start from at (counting (tally_at g (Values x n)) counts))
      {next : ℕ} (l : RunsLine chunk at next) {y : LineState} (e : y ≡ run_bytes (line_byte (counted_streams s)) x (slice at next chunk)) where
    values-bytes : run_bytes (byte_counted s) (counting (tally_at g (Values x n)) counts) (slice at next chunk) ≡ counting (tally_at (begun_by g (slice at next chunk)) (Values y n)) counts
    values-bytes = values-run s (slice at next chunk) g x n counts ∙ ap (λ z. counting (tally_at (begun_by g (slice at next chunk)) (Values z n)) counts) (sym e)

    -- It goes on behind the chunk.
    pub values_on : at < length chunk → length chunk ≤ next → ReadSoFar start from next (counting (tally_at true (Values y n)) counts)
    unfolding count_byte
    values_on h k =
        let i = l.inside in
        let o = p.onward in
        let inside : next ≤ length chunk = omega arith in
        record {
          onward = omega arith;
          inside = inside;
          run = ap (λ t. counting (tally_at t (Values y n)) counts) (sym (begun-part g chunk at next (omega arith) inside)) ∙ sym (line-bytes (byte_counted s) (line_counted s) l _ values-bytes)
              ∙ ap (λ c. run c at next) p.run ∙ run_then start o l.onward;
        }

    -- It ends with a byte 10.
    module _ (k : next < length chunk) {end : LineEnd} (f : end ≡ line_end (counted_streams s) y) where
      values-end : {counts' : List ℕ} {stage : TallyStage} → counting (tally_at false stage) counts' ≡ line_counted s (counting (tally_at (begun_by g (slice at next chunk)) (Values y n)) counts)
          → ReadSoFar start from (next + 1) (counting (tally_at false stage) counts')
      unfolding count_byte
      values-end z =
          let o = p.onward in
          let i = l.onward in
          record {
            onward = omega arith;
            inside = omega arith;
            run = z ∙ sym (whole-line (byte_counted s) (line_counted s) l _ values-bytes k) ∙ ap (λ c. run c at (next + 1)) p.run ∙ run_then start {next = next + 1} o (omega arith);
          }

      -- A letter is counted.
      pub values-counted : end.refusal ≡ 0 → {counts' : List ℕ} → counts' ≡ raised_count counts end.letter → {line : LineState} → line ≡ line_start → {total : ℕ} → total ≡ one_more n
          → ReadSoFar start from (next + 1) (counting (tally_at false (Values line total)) counts')
      values-counted z a b c =
          let t = eq-eqb (line_end (counted_streams s) y).refusal 0 (ap (λ x. x.refusal) (sym f) ∙ z) in
          values-end
          ((λ i. counting (tally_at false (Values (b i) (c i))) (a i)) ∙ ap (λ x. counting (tally_at false (Values line_start (one_more n))) (raised_count counts x.letter)) f
          ∙ ap (λ t'. counting (tally_at false (cond t' (Values line_start (one_more n)) (Refused (line_end (counted_streams s) y).refusal))) (cond t' (raised_count counts (line_end (counted_streams s) y).letter) counts)) (sym t))

      -- A line with a fault is not.
      pub values-refused : end.refusal ≢ 0 → ReadSoFar start from (next + 1) (counting (tally_at false (Refused end.refusal)) counts)
      values-refused z =
          let t = ne_eqb (line_end (counted_streams s) y).refusal 0 (λ q. z (ap (λ x. x.refusal) f ∙ q)) in
          values-end
          (ap (λ x. counting (tally_at false (Refused x.refusal)) counts) f
          ∙ ap (λ t'. counting (tally_at false (cond t' (Values line_start (one_more n)) (Refused (line_end (counted_streams s) y).refusal))) (cond t' (raised_count counts (line_end (counted_streams s) y).letter) counts)) (sym t))

  -- ---- behind a refusal

  pub rest-refused : {from : ℕ} → from < length chunk → (g : Bool) (n : ℕ) (counts : List ℕ) {r : Part}
      → r ≡ part_to (not (eqb (get_or chunk (length chunk - 1) 0) 10)) (Refused n) (length chunk) → ReadsPart s (tally_at g (Refused n)) chunk from counts counts r
  rest-refused {from} h g n counts {r} z =
      let last = length chunk - 1 in
      let whole : last + 1 ≡ length chunk = omega arith in
      let place = ap (λ p. p.next) z in
      record {
        onward = omega arith;
        inside = omega arith;
        run = ap (λ p. counting p.tally counts) z ∙ sym (refused-bytes s (slice from last chunk) g n counts (get_or chunk last 0))
            ∙ ap (run_bytes (count_byte s) (counting (tally_at g (Refused n)) counts)) (sym (slice_more from last chunk (omega arith) (omega arith)) ∙ ap (λ m. slice from m chunk) (whole ∙ sym place));
      }

  -- ---- the whole chunk

  -- A tally by its stage.
  pub at_stage : {t : Tally} {stage : TallyStage} → t.stage ≡ stage → {from : ℕ} {counts counts' : List ℕ} {r : Part} → ReadsPart s (tally_at t.begun stage) chunk from counts counts' r
      → ReadsPart s t chunk from counts counts' r
  at_stage {t} e {from} {counts} {counts'} {r} p = subst (λ k. ReadsPart s (tally_at t.begun k) chunk from counts counts' r) (sym e) p

  pub read_more : {start c : Counting} {from at : ℕ} → ReadSoFar start from at c → {counts' : List ℕ} {r : Part} → ReadsPart s c.tally chunk at c.counts counts' r
      → ReadSoFar start from r.next (counting r.tally counts')
  read_more {start} {c} {from} {at} p {counts'} {r} q =
      let o = p.onward in
      let i = q.onward in
      record { onward = omega arith; inside = q.inside; run = q.run ∙ ap (λ c'. run c' at r.next) p.run ∙ run_then start {next = r.next} o (omega arith) }

  pub read_all : {start c : Counting} {at : ℕ} → ReadSoFar start 0 at c → length chunk ≤ at → c ≡ run_bytes (count_byte s) start chunk
  read_all {start} {c} {at} p h =
      let i = p.inside in
      let e : at ≡ length chunk = omega arith in
      p.run ∙ ap (run_bytes (count_byte s) start) (ap (λ n. slice 0 n chunk) e ∙ take-length chunk)
