-- What `histogram` prints: the file to open for request S-12 of document 02. First for any streams and value lines: which lines a number counts, that each
-- stream's counts add up to the number of lines, and records in two parts. Then which records are bad, and that nothing but the number of the first line
-- with a fault is printed of them. Then for the texts of a sheet and of a record (`PrintsHistogram` of histogram_text). Last, how far the counts are exact
-- that are kept while the bytes of a record come in chunks (`count_byte` of tally). From the laws of counted lines (`CountedLines`), of a record's text
-- (`RecordTexts`), of what is printed (histogram_text) and of records in chunks (tally).
use Prim.Native.Nat.{ℕ, ◌+◌, ◌≤◌, ◌<◌}
use native.Mathlib.Omega.{arith}
use mathlib.Core.Path.{◌≡◌, refl, sym, ◌∙◌, ap, subst}
use mathlib.Core.Logic.{◌↔◌, ◌⊎◌, inl, inr}
use mathlib.Core.Bool.{true, cond}
use mathlib.Core.List.Memᴰ
use mathlib.Core.List.{List, [], ◌∷◌, ◌++◌, Memᴰ, append_assoc}
use mathlib.Core.Option.{Option, none, some}
use lib.IntN.{ℤ}
use lib.ListN.{length, get_or, drop, replicate, length-append, length-drop}
use Rattle.basics.specs.Count.{CountOf}
use Rattle.text.specs.Bytes.{lines}
use Rattle.text.specs.Lines.{all_chunks, run_chunks}
use Rattle.meaning.specs.Expression.{Stream, Sheet, range_of}
use Rattle.meaning.specs.Letter.{size}
use Rattle.meaning.specs.StreamKinds.{SameNamesAndRanges}
use Rattle.sheet.specs.Form.{names_of}
use Rattle.sheet.specs.Refusal.{refused, sheet, AnswerTo}
use Rattle.sheet.specs.Accepted.{Accepted}
use Rattle.outcome.proofs.AcceptedCompile.{refusal-in_range}
use Rattle.letters.proofs.Streams.{unnamed}
use Rattle.print.specs.Text.{refusal_line}
use Rattle.records.specs.Line.{ValueLine, malformed, outside, letter, value_line, AreLetters}
use Rattle.record_names.specs.Line.{is_names_line}
use Rattle.record_lines.specs.Runs.{highest_number}
use Rattle.record_lines.proofs.Runs.{lines_few}
use Rattle.held_lines.specs.Counts.{how_many, holds_value, lines_holding}
use Rattle.tally.specs.Faults.{line_fault, values_fault, record_fault}
use Rattle.tally.specs.Machine.{Counting, counting, start_tally, counts_answer, refused_counts, count_byte, last_counted}
use Rattle.held_lines.specs.Held.{cut_lines, held_lines}
use Rattle.held_lines.proofs.Held.{how_many-few}
use Rattle.tally.proofs.Record.{stored, chunks-refused, chunks-counted, held-lines}
use Rattle.histogram_text.specs.Histogram.{histogram_heading, range_value, histogram_text, text_or, counted_text}
use Rattle.histogram_text.specs.Prints.{PrintsHistogram, refused_sheet, counted}
use Rattle.histogram_text.proofs.Prints.{printed_for}
use Rattle.theorems.specs.Replaying.{EndsWithLine}
use Rattle.theorems.specs.Histograms.{LineHolds, summed_counts, zeros_text, BadRecord, no_names, other_names, faulty_line, GoodRecord}
use Rattle.theorems.proofs.CountedLines.{how_many-parts, holding_counted, counts-sum, bad_fault, good_fault, good_or_bad, counted_same}
use Rattle.theorems.proofs.RecordTexts.{cut-lines}

-- ---- what is counted of value lines

-- Value lines in two parts: each number is the sum of those of the parts, and so is the total.
pub parts_add : (stream : ℕ) (value : ℤ) (first second : List (List ℕ))
    → (lines_holding stream value (first ++ second) ≡ lines_holding stream value first + lines_holding stream value second) × (length (first ++ second) ≡ length first + length second)
parts_add stream value first second = (how_many-parts (holds_value stream value) first second, length-append first second)

module _ (ss : List Stream) where
  module _ (stream : ℕ) (known : stream < length ss) (ls : List (List ℕ)) (letters : AreLetters ss ls) where
    -- "how many value lines hold it": the number counts the value lines, by their numbers, that have this value for the stream.
    pub lines-counted : (value : ℤ) → CountOf (LineHolds stream value ls) (lines_holding stream value ls)
    lines-counted value = holding_counted ss stream known value ls letters

    -- "Values at which no line stands are printed with 0", and no others.
    pub zero↔no_line : (value : ℤ) → (lines_holding stream value ls ≡ 0) ↔ ((number : ℕ) → LineHolds stream value ls number → ⊥)
    zero↔no_line value =
        let c = lines-counted value in
        (λ e number h. empty c.list (c.count ∙ e) (c.every number h), λ none. sym c.count ∙ ap length (nothing c.list (λ number m. none number (c.found number m))))
      where
        empty : (xs : List ℕ) → length xs ≡ 0 → {x : ℕ} → Memᴰ x xs → ⊥
        empty [] e m = Memᴰ.not-nil m
        empty (x ∷ xs) e m = omega arith

        nothing : (xs : List ℕ) → ((x : ℕ) → Memᴰ x xs → ⊥) → xs ≡ []
        nothing [] h = refl
        nothing (x ∷ xs) h = absurd (h x (Memᴰ.head refl))

    -- "Each stream's counts must add up to that total": the lines that are letters hold one value of the stream's range each.
    pub counts_add_up : summed_counts ss ls stream ≡ length ls
    counts_add_up = counts-sum ss stream known ls letters

  -- ---- bad records

  -- Every record is bad or good, and not both; and there is one number.
  pub good_or_bad_record : (ls : List (List ℕ)) → GoodRecord ss ls ⊎ ((n : ℕ) × BadRecord ss ls n)
  good_or_bad_record ls = good_or_bad ss ls

  pub bad_not_good : {ls : List (List ℕ)} {n : ℕ} → BadRecord ss ls n → GoodRecord ss ls → ⊥
  bad_not_good {n = n} b g =
      let e : ◌≡◌ {A = Option ℕ} (some n) none = sym (bad_fault ss b) ∙ good_fault ss g in
      let z : ◌≡◌ {A = ℕ} 0 1 = cc in
      omega arith

  pub one_number : {ls : List (List ℕ)} {m n : ℕ} → BadRecord ss ls m → BadRecord ss ls n → m ≡ n
  one_number {m = m} {n = n} b c =
      let e : ◌≡◌ {A = Option ℕ} (some m) (some n) = sym (bad_fault ss b) ∙ bad_fault ss c in
      cc

  -- It is 13 or 14.
  pub thirteen_or_fourteen : {ls : List (List ℕ)} {n : ℕ} → BadRecord ss ls n → (n ≡ 13) ⊎ (n ≡ 14)
  thirteen_or_fourteen no_names = inl refl
  thirteen_or_fourteen (other_names e) = inl refl
  thirteen_or_fourteen {n = n} (faulty_line e f) = go (value_line ss f.line) f.fault
    where
      go : (v : ValueLine) → line_fault v ≡ some n → (n ≡ 13) ⊎ (n ≡ 14)
      go malformed q = let m : 13 ≡ n = cc in inl (sym m)
      go outside q = let m : 14 ≡ n = cc in inr (sym m)
      go (letter a) q = let z : ◌≡◌ {A = ℕ} 0 1 = cc in absurd (omega arith)

  -- What follows a line with a fault changes nothing.
  pub bad_stays : {l : List ℕ} {ls : List (List ℕ)} {n : ℕ} → BadRecord ss (l ∷ ls) n → (more : List (List ℕ)) → BadRecord ss (l ∷ (ls ++ more)) n
  bad_stays (other_names e) more = other_names e
  bad_stays (faulty_line e f) more =
      faulty_line e
      (record { before = f.before; line = f.line; after = f.after ++ more; split = ap (◌++ more) f.split ∙ append_assoc f.before (f.line ∷ f.after) more; letters = f.letters; fault = f.fault })

  -- ---- what is printed of a record

  -- "a bad record prints nothing but the 13 or 14 of its first line with a fault"
  pub bad_printed : {ls : List (List ℕ)} {n : ℕ} → BadRecord ss ls n → counted_text ss ls ≡ refusal_line n
  unfolding counted_text
  bad_printed {ls} b = ap (λ o. text_or o (histogram_text ss (drop 1 ls))) (bad_fault ss b)

  pub good_printed : {ls : List (List ℕ)} (g : GoodRecord ss ls) → counted_text ss ls ≡ histogram_text ss g.values
  unfolding counted_text
  good_printed {ls} g = ap (λ o. text_or o (histogram_text ss (drop 1 ls))) (good_fault ss g) ∙ ap (λ k. histogram_text ss (drop 1 k)) g.split

  -- "Values at which no line stands are printed with 0.": of the names alone every value is.
  pub names-only-zeros : (names : List ℕ) → is_names_line (names_of ss) names ≡ true → counted_text ss (names ∷ []) ≡ zeros_text ss
  unfolding counted_text record_fault values_fault histogram_text how_many
  names-only-zeros names e = ap (λ t. text_or (cond t none (some 13)) (histogram_text ss [])) e

  -- A record need not be read on behind a line with a fault: whatever follows, the same is printed.
  pub read_no_further : (front : List ℕ) → EndsWithLine front → {l : List ℕ} {ls : List (List ℕ)} → lines front ≡ l ∷ ls → {n : ℕ} → BadRecord ss (lines front) n → (rest : List ℕ)
      → counted_text ss (lines (front ++ rest)) ≡ refusal_line n
  read_no_further front cut {l} {ls} e {n} b rest =
      bad_printed (subst (λ k. BadRecord ss k n) (sym (cut-lines front rest cut ∙ ap (◌++ lines rest) e)) (bad_stays (subst (λ k. BadRecord ss k n) e b) (lines rest)))

-- ---- what is printed for the texts of a sheet and of a record

module _ {sheet_text record_text printed : List ℕ} (p : PrintsHistogram sheet_text record_text printed) where
  -- "Of the sheet only 1 to 7 are judged", and the sheet's number comes first.
  pub refused-sheet-prints : {n : ℕ} → AnswerTo sheet_text (refused n) → (printed ≡ refusal_line n) × ((0 < n) × (n ≤ 7))
  refused-sheet-prints r = (printed_for record_text r p, refusal-in_range r)

  module _ {s : Sheet} (read : AnswerTo sheet_text (sheet s)) where
    pub bad_record_prints : {n : ℕ} → BadRecord s.streams (lines record_text) n → printed ≡ refusal_line n
    bad_record_prints b = printed_for record_text read p ∙ bad_printed s.streams b

    -- Of any other record the counts of its value lines are printed and their number, and "each stream's counts must add up to that total".
    pub good_record_prints : (g : GoodRecord s.streams (lines record_text))
        → (printed ≡ histogram_text s.streams g.values) × ((stream : ℕ) → stream < length s.streams → summed_counts s.streams g.values stream ≡ length g.values)
    good_record_prints g =
        (printed_for record_text read p ∙ good_printed s.streams g, λ stream known. counts_add_up s.streams stream known g.values g.letters)

-- Nothing else is judged of the sheet: sheets whose streams have the same names and ranges print the same of a record, whatever their constraints and kinds,
-- and so also sheets that a compile refuses by 8, 9 or 10.
pub same-streams_print : {sheet_text sheet_text' record_text printed printed' : List ℕ} → PrintsHistogram sheet_text record_text printed → PrintsHistogram sheet_text' record_text printed'
    → {s s' : Sheet} → AnswerTo sheet_text (sheet s) → AnswerTo sheet_text' (sheet s') → SameNamesAndRanges s.streams s'.streams → printed ≡ printed'
same-streams_print {record_text = record_text} p p' r r' same = printed_for record_text r p ∙ counted_same same (lines record_text) ∙ sym (printed_for record_text r' p')

-- Nothing is printed before a fault is ruled out: if the heading is printed, the sheet was read and no line of the record has a fault.
pub heading_printed : {sheet_text record_text printed rest : List ℕ} → PrintsHistogram sheet_text record_text printed → printed ≡ histogram_heading ++ rest
    → (s : Sheet) × AnswerTo sheet_text (sheet s) × GoodRecord s.streams (lines record_text)
heading_printed {record_text = record_text} {rest = rest} p e = go p e
  where
    other_byte : (n : ℕ) → refusal_line n ≡ histogram_heading ++ rest → ⊥
    other_byte n q = let z : ◌≡◌ {A = ℕ} 114 115 = ap (λ l. get_or l 0 0) q in omega arith

    go : {sheet_text printed : List ℕ} → PrintsHistogram sheet_text record_text printed → printed ≡ histogram_heading ++ rest
        → (s : Sheet) × AnswerTo sheet_text (sheet s) × GoodRecord s.streams (lines record_text)
    go (refused_sheet {n} r) q = absurd (other_byte n q)
    go (counted {s} r) q = elim (good_or_bad s.streams (lines record_text)) [ inl g ↦ (s, r, g) | inr b ↦ absurd (other_byte b.0 (sym (bad_printed s.streams b.1) ∙ q)) ]

-- ---- how far the counts are exact

-- No count is above the total, and no total above the number of bytes: a record of at most 18,446,744,073,709,551,615 bytes has no number that a number of the
-- machine does not hold.
pub counts-fit : (record_text : List ℕ) (stream : ℕ) (value : ℤ) → length record_text ≤ highest_number
    → (lines_holding stream value (drop 1 (lines record_text)) ≤ length (drop 1 (lines record_text))) × (length (drop 1 (lines record_text)) ≤ highest_number)
counts-fit record_text stream value few =
    (how_many-few (holds_value stream value) (drop 1 (lines record_text)), omega (arith, length-drop 1 (lines record_text), lines_few record_text))

-- A number below the highest of the machine is the number of lines, and where there are no more lines than that, so is every number.
pub below-exact : {told lines : ℕ} → told ≡ cut_lines lines → told < highest_number → told ≡ lines
below-exact e h = omega arith

pub few-exact : {told lines : ℕ} → told ≡ cut_lines lines → lines ≤ highest_number → told ≡ lines
few-exact e h = omega arith

-- What is kept while the bytes come, in chunks of any sizes and of a record of any length, to an accepted sheet with any bytes behind its names.
module _ {s : Sheet} (accepted : Accepted s) (behind : List ℕ) (chunks : List (List ℕ)) where
  abbrev values : List (List ℕ)
  values = drop 1 (lines (all_chunks chunks))

  abbrev ended : Counting
  ended = last_counted (stored accepted behind) (run_chunks (count_byte (stored accepted behind)) (counting start_tally (replicate 1024 0)) chunks)

  pub chunks_bad : {n : ℕ} → BadRecord s.streams (lines (all_chunks chunks)) n → counts_answer ended.tally.stage ≡ refused_counts n
  chunks_bad b = chunks-refused accepted behind chunks (replicate 1024 0) (bad_fault s.streams b)

  -- The total, "which is counted from the record itself", and how many lines hold each value: no number wraps, since each stays at the highest of the machine.
  pub chunks-total : GoodRecord s.streams (lines (all_chunks chunks)) → counts_answer ended.tally.stage ≡ record { refusal = 0; total = cut_lines (length values) }
  chunks-total g = ap (λ c. counts_answer c.tally.stage) (chunks-counted accepted behind chunks (good_fault s.streams g)).0

  pub chunks-held : GoodRecord s.streams (lines (all_chunks chunks)) → (stream digit : ℕ) → stream < length s.streams → digit < size (range_of s.streams stream)
      → held_lines ended.counts (unnamed s.streams) stream digit ≡ cut_lines (lines_holding stream (range_value s.streams stream digit) values)
  chunks-held g stream digit there known =
      let c = chunks-counted accepted behind chunks (good_fault s.streams g) in
      ap (λ x. held_lines x.counts (unnamed s.streams) stream digit) c.0 ∙ held-lines accepted behind values c.1 stream digit there known
