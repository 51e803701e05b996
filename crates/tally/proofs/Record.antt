-- What is counted of a record to an accepted sheet, however its bytes come in chunks, is what document 02 says of its lines. From the law of texts in chunks
-- (text, Lines), the laws of one line (records, Sheets) and of the counts (Held), and induction over the lines.
use Prim.Native.Nat.{ℕ, zero, suc, ◌+◌, ◌<◌}
use native.Mathlib.Omega.{arith}
use mathlib.Core.Path.{◌≡◌, refl, sym, ◌∙◌, ap, subst}
use mathlib.Core.Bool.{Bool, true, false, cond}
use mathlib.Core.List.{List, [], ◌∷◌, ◌++◌, map, append-nil, append_assoc}
use mathlib.Core.Option.{Option, none, some}
use lib.IntN.{pos, ◌+ℤ◌}
use lib.ListN.{length, drop, replicate}
use Rattle.basics.proofs.Tests.{not-both}
use Rattle.text.specs.Bytes.{lines}
use Rattle.text.specs.Fold.{run_bytes}
use Rattle.text.specs.Lines.{all_chunks, run_chunks, lines_read, EndsLines}
use Rattle.text.proofs.Lines.{run-append, chunks-lines}
use Rattle.meaning.specs.Arithmetic.{Interval}
use Rattle.meaning.specs.Expression.{Stream, Sheet, range_of}
use Rattle.meaning.specs.Letter.{size, letter_count}
use Rattle.meaning.specs.Window.{join_over}
use Rattle.nodes.specs.Bounds.{lows_of, highs_of}
use Rattle.sheet.specs.Form.{names_of}
use Rattle.sheet.specs.Names.{eight_bytes}
use Rattle.sheet.specs.Accepted.{Accepted}
use Rattle.sheet.proofs.Accepted.{letter_count-positive}
use Rattle.letters.proofs.Streams.{unnamed, length-unnamed, letter_count-unnamed, letter_number-unnamed, is_letter-unnamed, is_letter-sound, is_letter-complete}
use Rattle.records.specs.Line.{ValueLine, malformed, outside, letter, line_values, value_line, record_of_lines, letters_of}
use Rattle.record_names.specs.Line.{is_names_line}
use Rattle.records.specs.Machine.{line_start, end_of}
use Rattle.record_names.specs.Machine.{names_start}
use Rattle.records.proofs.Sheets.{accepted-line, accepted-names}
use Rattle.records.proofs.Letters.{letter-line}
use Rattle.record_lines.specs.Runs.{one_more}
use Rattle.record_lines.proofs.Runs.{some-line, text-end}
use Rattle.tally.specs.declared.TallyStage.{TallyStage}
use Rattle.tally.specs.declared.TallyStage.TheVariants.{Values, Refused}
use Rattle.held_lines.specs.Counts.{lines_holding}
use Rattle.tally.specs.Faults.{line_fault, first_of, values_fault, record_fault, NoFaultEnded}
use Rattle.tally.specs.Machine.{CountedSheet, counted_sheet, Counting, counting, tally_at, start_tally, is_refused_tally, counts_answer, refused_counts, stage_after, counts_after, byte_counted, line_counted, count_byte, last_counted}
use Rattle.held_lines.specs.Held.{raised_count}
use Rattle.held_lines.specs.Held.{cut_lines, held_lines}
use Rattle.tally.proofs.Steps.{names-run, values-run, refused-run, refused-stays, refused-last}
use Rattle.tally.proofs.Ends.{no_last_line}
use Rattle.held_lines.proofs.Held.{raised_by, HaveLetters, held-counted}

-- ---- the machine ends lines

module _ (s : CountedSheet) where
  ends-lines : EndsLines (byte_counted s) (line_counted s) (last_counted s) (λ c. c.tally.begun)
  unfolding last_counted
  ends-lines =
      record {
        begins = λ c b e. refl;
        ends = λ c. refl;
        last_line = λ c e. ap (λ t. cond t (line_counted s c) c) e;
        no_line = λ c e. ap (λ t. cond t (line_counted s c) c) e;
      }

  abbrev read : Counting → List (List ℕ) → Counting
  read = lines_read (byte_counted s) (line_counted s)

  -- Chunks, however the record is cut, are its lines.
  chunks-read : (chunks : List (List ℕ)) (counts : List ℕ) → last_counted s (run_chunks (count_byte s) (counting start_tally counts) chunks) ≡ read (counting start_tally counts) (lines (all_chunks chunks))
  unfolding count_byte
  chunks-read chunks counts = chunks-lines (byte_counted s) (line_counted s) ends-lines chunks (counting start_tally counts) refl

  -- Behind a refusal nothing is counted.
  refused-lines : (ls : List (List ℕ)) (n : ℕ) (counts : List ℕ) → read (counting (tally_at false (Refused n)) counts) ls ≡ counting (tally_at false (Refused n)) counts
  refused-lines [] n counts = refl
  refused-lines (l ∷ ls) n counts = ap (λ c. read (line_counted s c) ls) (refused-run s l false n counts) ∙ refused-lines ls n counts

-- ---- an accepted sheet

pub range-unnamed : (ss : List Stream) (k : ℕ) → range_of (unnamed ss) k ≡ range_of ss k
range-unnamed [] k = refl
range-unnamed (s ∷ ss) zero = refl
range-unnamed (s ∷ ss) (suc k) = range-unnamed ss k

module _ {s : Sheet} (a : Accepted s) (rest : List ℕ) where
  abbrev streams : List Stream
  streams = s.streams

  -- The sheet as the reader stores it, with any bytes behind the names.
  abbrev pub stored : CountedSheet
  stored = counted_sheet (join_over eight_bytes streams ++ rest) (map (λ x. length x.name) streams) (lows_of streams) (highs_of streams)

  abbrev at : TallyStage → List ℕ → Counting
  at stage counts = counting (tally_at false stage) counts

  -- One line of values, read to its end.
  line-counted : (l : List ℕ) (total : ℕ) (counts : List ℕ)
      → line_counted stored (run_bytes (byte_counted stored) (at (Values line_start total) counts) l) ≡ at (stage_after total (end_of (value_line streams l))) (counts_after counts (end_of (value_line streams l)))
  line-counted l total counts =
      ap (line_counted stored) (values-run stored l false line_start total counts) ∙ ap (λ e. at (stage_after total e) (counts_after counts e)) (accepted-line a l)

  -- "the 13 or 14 of its first line with a fault"
  values-refused : (ls : List (List ℕ)) (total : ℕ) (counts : List ℕ) {n : ℕ} → values_fault streams ls ≡ some n → (read stored (at (Values line_start total) counts) ls).tally.stage ≡ Refused n
  unfolding values_fault
  values-refused [] total counts e = let z : ◌≡◌ {A = ℕ} 0 1 = cc in absurd (omega arith)
  values-refused (l ∷ ls) total counts {n} e =
      ap (λ c. (read stored c ls).tally.stage) (line-counted l total counts) ∙ by (value_line streams l) e (λ t c q. values-refused ls t c q)
    where
      by : (v : ValueLine) → first_of (line_fault v) (values_fault streams ls) ≡ some n
          → ((t : ℕ) (c : List ℕ) → values_fault streams ls ≡ some n → (read stored (at (Values line_start t) c) ls).tally.stage ≡ Refused n)
          → (read stored (at (stage_after total (end_of v)) (counts_after counts (end_of v))) ls).tally.stage ≡ Refused n
      by malformed q again = let m : 13 ≡ n = cc in ap (λ c. c.tally.stage) (refused-lines stored ls 13 counts) ∙ ap Refused m
      by outside q again = let m : 14 ≡ n = cc in ap (λ c. c.tally.stage) (refused-lines stored ls 14 counts) ∙ ap Refused m
      by (letter m) q again = again (one_more total) (raised_count counts m) q

  -- Lines without a fault are letters, and each is counted.
  values-letters : (ls : List (List ℕ)) → values_fault streams ls ≡ none → HaveLetters streams ls
  unfolding values_fault
  values-letters [] e = tt
  values-letters (l ∷ ls) e = by (value_line streams l) refl e (values-letters ls)
    where
      by : (v : ValueLine) → value_line streams l ≡ v → first_of (line_fault v) (values_fault streams ls) ≡ none → (values_fault streams ls ≡ none → HaveLetters streams ls) → HaveLetters streams (l ∷ ls)
      by malformed p q again = let z : ◌≡◌ {A = ℕ} 0 1 = cc in absurd (omega arith)
      by outside p q again = let z : ◌≡◌ {A = ℕ} 0 1 = cc in absurd (omega arith)
      by (letter m) p q again = ((letter-line streams l p).0, again q)

  -- The total stays at the highest number of the machine, as each count does.
  values-counted : (ls : List (List ℕ)) (total : ℕ) (counts : List ℕ) → values_fault streams ls ≡ none
      → read stored (at (Values line_start (cut_lines total)) counts) ls ≡ at (Values line_start (cut_lines (total + length ls))) (raised_by counts (letters_of streams ls))
  unfolding values_fault
  values-counted [] total counts e = let z : total ≡ total + 0 = omega arith in ap (λ n. at (Values line_start (cut_lines n)) counts) z
  values-counted (l ∷ ls) total counts e =
      ap (λ c. read stored c ls) (line-counted l (cut_lines total) counts) ∙ by (value_line streams l) refl e (λ t c q. values-counted ls t c q)
    where
      by : (v : ValueLine) → value_line streams l ≡ v → first_of (line_fault v) (values_fault streams ls) ≡ none
          → ((t : ℕ) (c : List ℕ) → values_fault streams ls ≡ none → read stored (at (Values line_start (cut_lines t)) c) ls ≡ at (Values line_start (cut_lines (t + length ls))) (raised_by c (letters_of streams ls)))
          → read stored (at (stage_after (cut_lines total) (end_of v)) (counts_after counts (end_of v))) ls ≡ at (Values line_start (cut_lines (total + suc (length ls)))) (raised_by counts (letters_of streams (l ∷ ls)))
      by malformed p q again = let z : ◌≡◌ {A = ℕ} 0 1 = cc in absurd (omega arith)
      by outside p q again = let z : ◌≡◌ {A = ℕ} 0 1 = cc in absurd (omega arith)
      by (letter m) p q again =
          let next : one_more (cut_lines total) ≡ cut_lines (suc total) = omega arith in
          let sum : suc total + length ls ≡ total + suc (length ls) = omega arith in
          ap (λ t. read stored (at (Values line_start t) (raised_count counts m)) ls) next ∙ again (suc total) (raised_count counts m) q
          ∙ (λ i. at (Values line_start (cut_lines (sum i))) (raised_by (raised_count counts ((letter-line streams l p).1 i)) (letters_of streams ls)))

  -- ---- the whole record

  -- The line of names, read to its end.
  names-counted : (l : List ℕ) (counts : List ℕ) → line_counted stored (run_bytes (byte_counted stored) (counting start_tally counts) l) ≡ at (cond (is_names_line (names_of streams) l) (Values line_start 0) (Refused 13)) counts
  names-counted l counts =
      ap (line_counted stored) (names-run stored l false names_start counts) ∙ ap (λ t. at (cond t (Values line_start 0) (Refused 13)) counts) (accepted-names a rest l)

  -- Behind lines with a fault the stage is that of its number.
  lines-refused : (l : List ℕ) (ls : List (List ℕ)) (counts : List ℕ) {n : ℕ} → record_fault streams (l ∷ ls) ≡ some n → (read stored (counting start_tally counts) (l ∷ ls)).tally.stage ≡ Refused n
  unfolding record_fault
  lines-refused l ls counts {n} e = ap (λ c. (read stored c ls).tally.stage) (names-counted l counts) ∙ by (is_names_line (names_of streams) l) e
    where
      by : (t : Bool) → cond t (values_fault streams ls) (some 13) ≡ some n → (read stored (at (cond t (Values line_start 0) (Refused 13)) counts) ls).tally.stage ≡ Refused n
      by true q = values-refused ls 0 counts q
      by false q = let m : 13 ≡ n = cc in ap (λ c. c.tally.stage) (refused-lines stored ls 13 counts) ∙ ap Refused m

  record_refused : (ls : List (List ℕ)) (counts : List ℕ) {n : ℕ} → record_fault streams ls ≡ some n → counts_answer (read stored (counting start_tally counts) ls).tally.stage ≡ refused_counts n
  unfolding record_fault
  record_refused [] counts {n} e = let m : 13 ≡ n = cc in ap refused_counts m
  record_refused (l ∷ ls) counts e = ap counts_answer (lines-refused l ls counts e)

  record_counted : (ls : List (List ℕ)) (counts : List ℕ) → record_fault streams ls ≡ none
      → (read stored (counting start_tally counts) ls ≡ at (Values line_start (cut_lines (length (drop 1 ls)))) (raised_by counts (letters_of streams (drop 1 ls)))) × HaveLetters streams (drop 1 ls)
  unfolding record_fault
  record_counted [] counts e = let z : ◌≡◌ {A = ℕ} 0 1 = cc in absurd (omega arith)
  record_counted (l ∷ ls) counts e = by (is_names_line (names_of streams) l) refl e
    where
      by : (t : Bool) → is_names_line (names_of streams) l ≡ t → cond t (values_fault streams ls) (some 13) ≡ none
          → (read stored (counting start_tally counts) (l ∷ ls) ≡ at (Values line_start (cut_lines (length ls))) (raised_by counts (letters_of streams ls))) × HaveLetters streams ls
      by true p q =
          let z : 0 + length ls ≡ length ls = omega arith in (
            ap (λ c. read stored c ls) (names-counted l counts ∙ ap (λ t. at (cond t (Values line_start 0) (Refused 13)) counts) p) ∙ values-counted ls 0 counts q
                ∙ ap (λ n. at (Values line_start (cut_lines n)) (raised_by counts (letters_of streams ls))) z,
            values-letters ls q,
          )
      by false p q = let z : ◌≡◌ {A = ℕ} 0 1 = cc in absurd (omega arith)

  -- ---- the record in chunks of any sizes

  -- "a bad record prints nothing but the 13 or 14 of its first line with a fault"
  pub chunks-refused : (chunks : List (List ℕ)) (counts : List ℕ) {n : ℕ} → record_fault streams (lines (all_chunks chunks)) ≡ some n
      → counts_answer (last_counted stored (run_chunks (count_byte stored) (counting start_tally counts) chunks)).tally.stage ≡ refused_counts n
  chunks-refused chunks counts e = ap (λ c. counts_answer c.tally.stage) (chunks-read stored chunks counts) ∙ record_refused (lines (all_chunks chunks)) counts e

  -- The value lines of a record without a fault, of any length, are letters, and are counted.
  pub chunks-counted : (chunks : List (List ℕ)) → record_fault streams (lines (all_chunks chunks)) ≡ none
      → (last_counted stored (run_chunks (count_byte stored) (counting start_tally (replicate 1024 0)) chunks)
      ≡ counting (tally_at false (Values line_start (cut_lines (length (drop 1 (lines (all_chunks chunks))))))) (raised_by (replicate 1024 0) (letters_of streams (drop 1 (lines (all_chunks chunks))))))
      × HaveLetters streams (drop 1 (lines (all_chunks chunks)))
  chunks-counted chunks e =
      let counted = record_counted (lines (all_chunks chunks)) (replicate 1024 0) e in
      (chunks-read stored chunks (replicate 1024 0) ∙ counted.0, counted.1)

  -- ---- a record that is read in part

  abbrev behind : List ℕ → List ℕ → Counting
  behind counts text = run_bytes (count_byte stored) (counting start_tally counts) text

  text-read : (text counts : List ℕ) → last_counted stored (behind counts text) ≡ read stored (counting start_tally counts) (lines text)
  text-read text counts = chunks-read stored (text ∷ []) counts ∙ ap (λ t. read stored (counting start_tally counts) (lines t)) (append-nil text)

  -- A fault that is met decides, whatever follows: it is that of the whole record.
  pub refused-whole : (counts text : List ℕ) {n : ℕ} → (behind counts text).tally.stage ≡ Refused n → (more : List ℕ) → record_fault streams (lines (text ++ more)) ≡ some n
  refused-whole counts text {n} e more = by (record_fault streams (lines (text ++ more))) refl
    where
      ends : (read stored (counting start_tally counts) (lines (text ++ more))).tally.stage ≡ Refused n
      ends =
          ap (λ c. c.tally.stage) (sym (text-read (text ++ more) counts))
          ∙ refused-last stored (behind counts (text ++ more)) (ap (λ c. c.tally.stage) (run-append (count_byte stored) (counting start_tally counts) text more) ∙ refused-stays stored more (behind counts text) e)

      by : (o : Option ℕ) → record_fault streams (lines (text ++ more)) ≡ o → o ≡ some n
      by none q = not-both (ap (λ c. is_refused_tally c.tally.stage) (sym (record_counted (lines (text ++ more)) counts q).0) ∙ ap is_refused_tally ends)
      by (some m) q = ap some (ap (λ c. c.refusal) (sym (record_refused (lines (text ++ more)) counts q) ∙ ap counts_answer ends))

  -- Where none is met, no line that has ended has one.
  pub unrefused_front : (counts text : List ℕ) → is_refused_tally (behind counts text).tally.stage ≡ false → NoFaultEnded streams text
  unfolding count_byte
  unrefused_front counts text e front more split = by (record_fault streams (lines (front ++ (10 ∷ [])))) refl
    where
      begun_anew : (behind counts (front ++ (10 ∷ []))).tally.begun ≡ false
      begun_anew =
          ap (λ c. c.tally.begun) (run-append (count_byte stored) (counting start_tally counts) front (10 ∷ []))
          ∙ ap (λ c. c.tally.begun) (text-end (byte_counted stored) (line_counted stored) (behind counts front) 10 refl)

      same : last_counted stored (behind counts (front ++ (10 ∷ []))) ≡ behind counts (front ++ (10 ∷ []))
      same = no_last_line stored (behind counts (front ++ (10 ∷ []))) begun_anew

      by : (o : Option ℕ) → record_fault streams (lines (front ++ (10 ∷ []))) ≡ o → o ≡ none
      by none q = refl
      by (some n) q =
          let f = some-line front in
          let met = ap (λ c. c.tally.stage) (sym same ∙ text-read (front ++ (10 ∷ [])) counts) ∙ ap (λ ls. (read stored (counting start_tally counts) ls).tally.stage) f.2 ∙ lines-refused f.0 f.1 counts (ap (record_fault streams) (sym f.2) ∙ q) in
          let stays = refused-stays stored more (behind counts (front ++ (10 ∷ []))) met in
          let whole = ap (λ t. behind counts t) (split ∙ sym (append_assoc front (10 ∷ []) more)) ∙ run-append (count_byte stored) (counting start_tally counts) (front ++ (10 ∷ [])) more in
          not-both (sym e ∙ ap (λ c. is_refused_tally c.tally.stage) whole ∙ ap is_refused_tally stays)

  -- ---- how many value lines hold each value

  some-letters : 0 < letter_count (unnamed streams)
  some-letters = omega (arith, letter_count-unnamed streams, letter_count-positive streams a.streams.ranges_ordered)

  letters-unnamed : (ls : List (List ℕ)) → HaveLetters streams ls → HaveLetters (unnamed streams) ls
  letters-unnamed [] h = tt
  letters-unnamed (l ∷ ls) h = (is_letter-sound (unnamed streams) (line_values l) (is_letter-unnamed streams (line_values l) ∙ is_letter-complete h.0), letters-unnamed ls h.1)

  -- From the counts that are left, with the lowest and highest values as they are stored.
  pub held-lines : (ls : List (List ℕ)) → HaveLetters streams ls → (k digit : ℕ) → k < length streams → digit < size (range_of streams k)
      → held_lines (raised_by (replicate 1024 0) (letters_of streams ls)) (unnamed streams) k digit ≡ cut_lines (lines_holding k ((range_of streams k).low +ℤ pos digit) ls)
  held-lines ls h k digit there known =
      let same = range-unnamed streams k in
      (λ i. held_lines (raised_by (replicate 1024 0) (map (λ v. sym (letter_number-unnamed streams v) i) (record_of_lines ls))) (unnamed streams) k digit)
      ∙ held-counted (unnamed streams) (omega (arith, letter_count-unnamed streams, a.letters)) some-letters k digit (omega (arith, length-unnamed streams)) (subst (λ (I : Interval). digit < size I) (sym same) known) ls (letters-unnamed ls h)
      ∙ ap (λ (I : Interval). cut_lines (lines_holding k (I.low +ℤ pos digit) ls)) same
