-- What `histogram` prints by its calls is what document 02 says of the sheet and of the bytes that reads of the record gave. Said in the terms of the calls'
-- contracts. From what is counted of a record (tally, Record), the text of a printout (histogram_text, Text), and the stored sheet (stored_ranges).
use Prim.Native.Nat.{ℕ, suc, ◌+◌, ◌*◌, ◌≤◌, ◌<◌}
use native.Mathlib.Omega.{arith}
use mathlib.Core.Path.{◌≡◌, refl, sym, ◌∙◌, ap, subst}
use mathlib.Core.Logic.{◌⊎◌, inl, inr}
use mathlib.Core.Bool.{Bool, true, false, cond}
use mathlib.Core.List.{List, [], ◌∷◌, ◌++◌, append-nil}
use mathlib.Core.Option.{Option, none, some}
use lib.IntN.{pos, negsuc}
use lib.ListN.{length, drop, replicate, length-drop}
use Rattle.basics.proofs.Tests.{not-both}
use Rattle.text.specs.Bytes.{lines}
use Rattle.text.specs.Fold.{run_bytes}
use Rattle.text.specs.Lines.{all_chunks}
use Rattle.meaning.specs.Expression.{Stream, Sheet, range_of}
use Rattle.meaning.specs.Letter.{size, letter_count}
use Rattle.sheet.specs.Form.{names_of}
use Rattle.sheet.specs.Refusal.{Answer, refused, sheet, AnswerTo}
use Rattle.sheet.specs.Reading.{answer_to}
use Rattle.sheet.specs.Accepted.{Accepted}
use Rattle.sheet.proofs.Reading.{answer_correct}
use Rattle.sheet.proofs.Accepted.{accepted_facts, letter_count-positive}
use Rattle.sheet.proofs.Names.{short-names}
use Rattle.outcome.proofs.Answers.{one-sheet}
use Rattle.outcome.proofs.AcceptedCompile.{refusal-positive}
use Rattle.letters.proofs.Streams.{unnamed}
use Rattle.reader.specs.declared.Reading.{Reading}
use Rattle.reader.specs.declared.StoredSheet.{StoredSheet}
use Rattle.reader.specs.Stored.{stored_sheet, reading_of}
use Rattle.records.specs.Line.{ValueLine, malformed, outside, letter, value_line}
use Rattle.record_names.specs.Line.{is_names_line}
use Rattle.print.specs.Text.{refusal_line}
use Rattle.pages.proofs.Refused.{refused-text}
use Rattle.stored_ranges.proofs.Passed.{behind_names, names-passed, lengths-passed, lows-passed, highs-passed}
use Rattle.tally.specs.declared.TallyStage.{TallyStage}
use Rattle.tally.specs.declared.TallyStage.TheVariants.{Names, Values, Refused}
use Rattle.tally.specs.declared.Tally.{Tally}
use Rattle.tally.specs.declared.LineCounts.{LineCounts}
use Rattle.held_lines.specs.Counts.{holds_value, lines_holding}
use Rattle.tally.specs.Faults.{line_fault, first_of, values_fault, record_fault, NoFaultEnded}
use Rattle.tally.specs.Machine.{counted_sheet, Counting, counting, tally_at, start_tally, is_refused_tally, count_byte, refused_counts, counts_answer, counts_left, last_counted, FinishesTally}
use Rattle.held_lines.specs.Held.{cut_lines, held_lines}
use Rattle.tally.proofs.Ends.{no_last_line}
use Rattle.held_lines.proofs.Digits.{count-around, factors}
use Rattle.held_lines.proofs.Held.{how_many-few}
use Rattle.tally.proofs.Record.{stored, chunks-refused, chunks-counted, refused-whole, unrefused_front, held-lines}
use Rattle.tally.proofs.Steps.{refused-last}
use Rattle.record_lines.specs.Runs.{highest_number}
use Rattle.record_lines.proofs.Runs.{lines_few}
use Rattle.histogram_text.specs.Histogram.{range_value, histogram_text, text_or, counted_text}
use Rattle.histogram_text.specs.Output.{histogram_line, histogram_output}
use Rattle.histogram_text.specs.Prints.{PrintsHistogram, counted}
use Rattle.histogram_text.proofs.Text.{histogram_text_lem}
use Rattle.reads.specs.declared.ReadEnd.{ReadEnd}
use Rattle.reads.specs.declared.ReadEnd.TheVariants.{Stopped, Incomplete}
use Rattle.show_histogram.specs.declared.ShownCounts.{ShownCounts}
use Rattle.reads.specs.Chunks.{most_reads, ChunkRead, read_text, last_answer, ReadsUntilStop}
use Rattle.reads.proofs.Chunks.{text-few, Ended, at_stop, at_end, at_failure, at_most, reading-ended}
use Rattle.record_file.specs.Reads.{is_refused_counting, or_unread}
use Rattle.show_histogram.specs.Shows.{StopsInTime, PrintsReads, unopened, complete, faulty, incomplete, ShowsHistogram, passed_streams, printout_of_counts, ShowsCounts}

-- ---- the numbers of faults are not 0

fault-positive : (ss : List Stream) (ls : List (List ℕ)) {n : ℕ} → values_fault ss ls ≡ some n → 0 < n
unfolding values_fault
fault-positive ss [] e = let z : ◌≡◌ {A = ℕ} 0 1 = cc in absurd (omega arith)
fault-positive ss (l ∷ ls) {n} e = by (value_line ss l) e (fault-positive ss ls)
  where
    by : (v : ValueLine) → first_of (line_fault v) (values_fault ss ls) ≡ some n → (values_fault ss ls ≡ some n → 0 < n) → 0 < n
    by malformed q again = let m : 13 ≡ n = cc in omega arith
    by outside q again = let m : 14 ≡ n = cc in omega arith
    by (letter m) q again = again q

record_positive : (ss : List Stream) (ls : List (List ℕ)) {n : ℕ} → record_fault ss ls ≡ some n → 0 < n
unfolding record_fault
record_positive ss [] {n} e = let m : 13 ≡ n = cc in omega arith
record_positive ss (l ∷ ls) {n} e = by (is_names_line (names_of ss) l) e
  where
    by : (t : Bool) → cond t (values_fault ss ls) (some 13) ≡ some n → 0 < n
    by true q = fault-positive ss ls q
    by false q = let m : 13 ≡ n = cc in omega arith

fault-counted : (ss : List Stream) (ls : List (List ℕ)) {n : ℕ} → record_fault ss ls ≡ some n → counted_text ss ls ≡ refusal_line n
unfolding counted_text
fault-counted ss ls e = ap (λ o. text_or o (histogram_text ss (drop 1 ls))) e

-- ---- what is printed of counts

-- A refusal is printed as its line.
refusal-printed : (x : StoredSheet) (counts : List ℕ) {c : LineCounts} {n : ℕ} → c ≡ refused_counts n → 0 < n → histogram_output (printout_of_counts x c counts) ≡ refusal_line n
refusal-printed x counts {c} {n} e Some-number =
    let r = ap (λ y. y.refusal) e in
    refused-text c.refusal (histogram_line (printout_of_counts x c counts)) (λ z. omega arith) _ ∙ ap refusal_line r

module _ (s : Sheet) (accepted : Accepted s) {x : StoredSheet} (same : x ≡ stored_sheet s) where
  abbrev streams : List Stream
  streams = s.streams

  passed : passed_streams x ≡ stored accepted (behind_names s)
  passed =
      let names = names-passed s accepted same in
      let lengths = lengths-passed s accepted same in
      let lows = lows-passed s accepted same in
      let highs = highs-passed s accepted same in
      λ i. counted_sheet (names i) (lengths i) (lows i) (highs i)

  few-values : (k : ℕ) → k < length streams → size (range_of streams k) ≤ 1024
  few-values k there =
      let f = factors _ _ _ (letter_count streams) (count-around streams k there) (letter_count-positive streams accepted.streams.ranges_ordered) in
      omega (arith, f.second, accepted.letters)

  module _ (text : List ℕ) (few : length text ≤ most_reads * 65536) {ended : Counting} (run : ended ≡ run_bytes (count_byte (passed_streams x)) (counting start_tally (replicate 1024 0)) text)
      {counts : List ℕ} {c : LineCounts} (finishes : FinishesTally (passed_streams x) ended.tally ended.counts counts c) where
    abbrev value_lines : List (List ℕ)
    value_lines = drop 1 (lines text)

    -- The record's end, with the sheet as it is stored.
    abbrev final : Counting
    final = last_counted (stored accepted (behind_names s)) (run_bytes (count_byte (stored accepted (behind_names s))) (counting start_tally (replicate 1024 0)) text)

    final-is : last_counted (passed_streams x) (counting ended.tally ended.counts) ≡ final
    final-is = ap (last_counted (passed_streams x)) run ∙ (λ i. last_counted (passed i) (run_bytes (count_byte (passed i)) (counting start_tally (replicate 1024 0)) text))

    answer-is : c ≡ counts_answer final.tally.stage
    answer-is = finishes.answer ∙ ap (λ y. counts_answer y.tally.stage) final-is

    counts_are : counts ≡ counts_left final.tally.stage final.counts
    counts_are = finishes.left ∙ ap (λ y. counts_left y.tally.stage y.counts) final-is

    whole : all_chunks (text ∷ []) ≡ text
    whole = append-nil text

    with_fault : {n : ℕ} → record_fault streams (lines text) ≡ some n → histogram_output (printout_of_counts x c counts) ≡ refusal_line n
    with_fault e =
        refusal-printed x counts (answer-is ∙ chunks-refused accepted (behind_names s) (text ∷ []) (replicate 1024 0) (ap (λ t. record_fault streams (lines t)) whole ∙ e))
        (record_positive streams (lines text) e)

    without-fault : record_fault streams (lines text) ≡ none → histogram_output (printout_of_counts x c counts) ≡ histogram_text streams value_lines
    without-fault e =
        let read = chunks-counted accepted (behind_names s) (text ∷ []) (ap (λ t. record_fault streams (lines t)) whole ∙ e) in
        let ls = drop 1 (lines (all_chunks (text ∷ []))) in
        let lines_are : ls ≡ value_lines = ap (λ t. drop 1 (lines t)) whole in
        let answered = answer-is ∙ ap (λ y. counts_answer y.tally.stage) read.0 in
        let left = counts_are ∙ ap (λ y. counts_left y.tally.stage y.counts) read.0 in
        let short : length ls ≤ highest_number = lines-short ls lines_are in
        histogram_text_lem streams accepted.streams.stream_count few-values (short-names accepted.streams) ls (printout_of_counts x c counts) (ap (λ y. y.refusal) answered) (ap (λ y. y.total) answered ∙ exact (length ls) short)
        (behind_names s) (names-passed s accepted same) (lengths-passed s accepted same) (lows-passed s accepted same) (highs-passed s accepted same)
        (λ k digit there known.
        ap (λ l. held_lines l (unnamed streams) k digit) left ∙ held-lines accepted (behind_names s) ls read.1 k digit there known
        ∙ exact (lines_holding k (range_value streams k digit) ls) (omega (arith, how_many-few (holds_value k (range_value streams k digit)) ls)))
        ∙ ap (histogram_text streams) lines_are
      where
        lines-short : (ls : List (List ℕ)) → ls ≡ value_lines → length ls ≤ highest_number
        lines-short ls e = omega (arith, ap length e, length-drop 1 (lines text), lines_few text, few)

        exact : (n : ℕ) → n ≤ highest_number → cut_lines n ≡ n
        exact n h = omega arith

    pub counts-printed : histogram_output (printout_of_counts x c counts) ≡ counted_text streams (lines text)
    unfolding counted_text
    counts-printed = by (record_fault streams (lines text)) refl
      where
        by : (o : Option ℕ) → record_fault streams (lines text) ≡ o → histogram_output (printout_of_counts x c counts) ≡ text_or o (histogram_text streams value_lines)
        by none e = without-fault e
        by (some n) e = with_fault e

  -- ---- what is printed by how the reading ended

  -- The stage behind the bytes that were read, with the sheet as it is stored.
  module _ (text : List ℕ) {read : Tally} {before : List ℕ} (run : counting read before ≡ run_bytes (count_byte (passed_streams x)) (counting start_tally (replicate 1024 0)) text) where
    stage_is : read.stage ≡ (run_bytes (count_byte (stored accepted (behind_names s))) (counting start_tally (replicate 1024 0)) text).tally.stage
    stage_is = ap (λ c. c.tally.stage) run ∙ (λ i. (run_bytes (count_byte (passed i)) (counting start_tally (replicate 1024 0)) text).tally.stage)

    pub no_fault_ended : is_refused_tally read.stage ≡ false → NoFaultEnded streams text
    no_fault_ended e = unrefused_front accepted (behind_names s) (replicate 1024 0) text (ap is_refused_tally (sym stage_is) ∙ e)

    -- A fault that was met decides, whatever follows.
    pub fault-whole : {n : ℕ} → read.stage ≡ Refused n → (rest : List ℕ) → record_fault streams (lines (text ++ rest)) ≡ some n
    fault-whole e rest = refused-whole accepted (behind_names s) (replicate 1024 0) text (sym stage_is ∙ e) rest

    pub fault-printed : {n : ℕ} → read.stage ≡ Refused n → {counts : List ℕ} {c : LineCounts} → FinishesTally (passed_streams x) read before counts c
        → histogram_output (printout_of_counts x c counts) ≡ refusal_line n
    fault-printed e {counts} f =
        refusal-printed x counts (f.answer ∙ ap counts_answer (refused-last (passed_streams x) (counting read before) e)) (record_positive streams (lines (text ++ [])) (fault-whole e []))

-- Where the record was not read to its end or to a fault, nothing but 13 is printed.
unread-printed : (x : StoredSheet) (before : List ℕ) {counts : List ℕ} {c : LineCounts} → FinishesTally (passed_streams x) (tally_at false (Refused 13)) before counts c → histogram_output (printout_of_counts x c counts) ≡ refusal_line 13
unread-printed x before {counts} {c} f =
    refusal-printed x counts (f.answer ∙ ap (λ y. counts_answer y.tally.stage) (no_last_line (passed_streams x) (counting (tally_at false (Refused 13)) before) refl)) (omega arith)

refusal-of : (stage : TallyStage) → is_refused_tally stage ≡ true → (n : ℕ) × (stage ≡ Refused n)
refusal-of (Names line) e = not-both e
refusal-of (Values line total) e = not-both e
refusal-of (Refused n) e = (n, refl)

-- ---- what `show_histogram` gives back

module _ (text : List ℕ) {reading : Reading} (read_as : reading ≡ reading_of (answer_to text)) where
  read-sheet : reading.refusal ≡ 0 → (s : Sheet) × AnswerTo text (sheet s) × (reading.sheet ≡ stored_sheet s)
  read-sheet z = go (answer_to text) (answer_correct text) (ap (λ y. y.refusal) (sym read_as) ∙ z) (ap (λ y. y.sheet) read_as)
    where
      go : (a : Answer) → AnswerTo text a → (reading_of a).refusal ≡ 0 → reading.sheet ≡ (reading_of a).sheet → (s : Sheet) × AnswerTo text (sheet s) × (reading.sheet ≡ stored_sheet s)
      go (refused n) r q e = absurd (omega (arith, refusal-positive r))
      go (sheet s) r q e = (s, r, e)

  pub sheet-refused : 0 < reading.refusal → PrintsReads text [] Stopped (refusal_line reading.refusal)
  sheet-refused h = go (answer_to text) (answer_correct text) (ap (λ y. y.refusal) read_as)
    where
      go : (a : Answer) → AnswerTo text a → reading.refusal ≡ (reading_of a).refusal → PrintsReads text [] Stopped (refusal_line reading.refusal)
      go (refused n) r e = subst (λ m. PrintsReads text [] Stopped (refusal_line m)) (sym e) (unopened r refl)
      go (sheet s) r e = absurd (omega arith)

  module _ (z : reading.refusal ≡ 0) {r : ShownCounts} (shown : ShowsCounts reading.sheet r) where
    abbrev x : StoredSheet
    x = reading.sheet

    abbrev tally : Tally
    tally = shown.file.tally

    abbrev chunks : List ChunkRead
    chunks = shown.file.reads.reads.chunks

    abbrev printed : List ℕ
    printed = histogram_output (printout_of_counts x shown.counted shown.counts)

    all-reads : length chunks + shown.file.reads.left ≡ most_reads
    all-reads = shown.file.reads.reads.all

    -- The record's end, by how the reading ended.
    finished : {ended : ReadEnd} → r.ended ≡ ended → FinishesTally (passed_streams x) (or_unread tally ended) shown.file.before shown.counts shown.counted
    finished e = subst (λ w. FinishesTally (passed_streams x) (or_unread tally w) shown.file.before shown.counts shown.counted) e shown.file.finishes

    module _ {s : Sheet} (answered : AnswerTo text (sheet s)) (same : x ≡ stored_sheet s) where
      abbrev accepted : Accepted s
      accepted = accepted_facts answered

      few : length (read_text chunks) ≤ most_reads * 65536
      few = omega (arith, text-few chunks, all-reads)

      print_as : {ended : ReadEnd} {bytes : List ℕ} → r.ended ≡ ended → printed ≡ bytes → PrintsReads text chunks ended bytes → PrintsReads text chunks r.ended printed
      print_as e q p = subst (λ w. PrintsReads text chunks w printed) (sym e) (subst (PrintsReads text chunks _) (sym q) p)

      faulty-read : (n : ℕ) → tally.stage ≡ Refused n → r.ended ≡ Stopped → PrintsReads text chunks r.ended printed
      faulty-read n q e =
          print_as e (fault-printed s accepted same (read_text chunks) shown.file.reads.reads.run q (finished e))
          (faulty answered n (λ rest. subst (PrintsHistogram text (read_text chunks ++ rest)) (fault-text rest) (counted answered)))
        where
          fault-text : (rest : List ℕ) → counted_text s.streams (lines (read_text chunks ++ rest)) ≡ refusal_line n
          fault-text rest = fault-counted s.streams (lines (read_text chunks ++ rest)) (fault-whole s accepted same (read_text chunks) shown.file.reads.reads.run q rest)

      unread : is_refused_tally tally.stage ≡ false → ((k : ℕ) × (last_answer chunks ≡ negsuc k)) ⊎ ((length chunks ≡ most_reads) × ((k : ℕ) × (last_answer chunks ≡ pos (suc k))))
          → r.ended ≡ Incomplete → PrintsReads text chunks r.ended printed
      unread u why e =
          print_as e (unread-printed x shown.file.before (finished e)) (incomplete answered (no_fault_ended s accepted same (read_text chunks) shown.file.reads.reads.run u) why)

      shown-reads : PrintsReads text chunks r.ended printed
      shown-reads = by (reading-ended _ is_refused_counting _ shown.file.reads)
        where
          by : Ended (count_byte (passed_streams x)) is_refused_counting (counting start_tally (replicate 1024 0)) (counting tally shown.file.before) chunks r.ended
              → PrintsReads text chunks r.ended printed
          by (at_stop e q) = let n = refusal-of tally.stage e in faulty-read n.0 n.1 q
          by (at_end e a q) =
              print_as q (counts-printed s accepted same (read_text chunks) few shown.file.reads.reads.run (finished q))
              (complete answered (no_fault_ended s accepted same (read_text chunks) shown.file.reads.reads.run e) a)
          by (at_failure e {k} a q) = unread e (inl (k, a)) q
          by (at_most e m {k} a q) = unread e (inr (m, (k, a))) q

    stops_in_time : {s : Sheet} → AnswerTo text (sheet s) → StopsInTime s.streams chunks
    stops_in_time {s} answered =
        let found = read-sheet z in
        let same : x ≡ stored_sheet s = found.2 ∙ ap stored_sheet (one-sheet found.1 answered) in
        by same chunks shown.file.reads.reads.stopped
      where
        by : x ≡ stored_sheet s → (rs : List ChunkRead) → ReadsUntilStop (count_byte (passed_streams x)) is_refused_counting (counting start_tally (replicate 1024 0)) rs → StopsInTime s.streams rs
        by same [] st = tt
        by same (q ∷ rs) st = (st.0, no_fault_ended s (accepted_facts answered) same (read_text rs) refl st.1)

    pub shows-counts : ShowsHistogram text r
    shows-counts =
        let found = read-sheet z in
        record {
          reads = chunks;
          most = omega (arith, all-reads);
          stops = stops_in_time;
          bytes = printed;
          prints = shown-reads found.1 found.2;
          hands = shown.hands;
        }
