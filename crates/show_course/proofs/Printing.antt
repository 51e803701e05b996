-- What `shortest` prints by its calls is what document 02 says of the sheet and the state: the table that `open_table` gives is passed to `course` cut to its
-- used rows, and the names and values of the letters that it leaves, or the refusal, are printed page by page. Said in the terms of the calls' contracts. From
-- what is given of a compiled sheet (Prints), and the text of a printout (course_text, Output).
use Prim.Native.Nat.{ℕ, ◌-◌, ◌*◌, ◌<◌, min}
use native.Mathlib.Omega.{arith}
use mathlib.Core.Path.{◌≡◌, refl, sym, ◌∙◌, ap, subst, transport}
use mathlib.Core.List.{List, ◌++◌}
use mathlib.Core.Option.{Option}
use lib.ListN.{length, take, replicate}
use lib.Seq.{take-append-le}
use Rattle.text.specs.Bytes.{Token}
use Rattle.meaning.specs.Expression.{Sheet}
use Rattle.meaning.specs.Letter.{letter_count}
use Rattle.sheet.specs.Reading.{answer_to}
use Rattle.sheet.proofs.Accepted.{accepted_facts}
use Rattle.sheet.proofs.Names.{short-names}
use Rattle.header.specs.Streams.{name_bytes, name_lengths}
use Rattle.reader.specs.Stored.{stored_sheet, reading_of}
use Rattle.situations.proofs.Stored.{part_held, lows-part, highs-part, sheet-letters}
use Rattle.outcome.specs.Room.{zeros}
use Rattle.outcome.specs.Compile.{CompileAnswer, Tables}
use Rattle.theorems.specs.UsedRows.{used_entries, used_finals}
use Rattle.lend.specs.Lend.{CompiledLent}
use Rattle.lend.proofs.Outcome.{compiled-held, refused-positive, stored_is}
use Rattle.print.specs.Text.{refusal_line}
use Rattle.pages.proofs.Refused.{refused-text}
use Rattle.compiled_sheet.specs.Told.{sheet_streams}
use Rattle.course.specs.Outcome.{BestCourse}
use Rattle.stored_ranges.specs.Ranges.{HasRanges}
use Rattle.stored_ranges.proofs.Ranges.{read_ranges}
use Rattle.course.specs.declared.CourseAnswer.{CourseAnswer}
use Rattle.opening.specs.declared.OpenedTable.{OpenedTable}
use Rattle.opening.specs.Opens.{OpensTable, OpensTable.refused_sheet as gives_no_table, OpensTable.no_start as gives_no_state, OpensTable.opened as table}
use Rattle.course_text.specs.Course.{course_text}
use Rattle.course_text.specs.Output.{course_line, course_output}
use Rattle.course_text.proofs.Output.{course-text}
use Rattle.show_course.specs.Prints.{IsCourseFrom, PrintsCourse, refused_sheet, no_start, found}
use Rattle.show_course.specs.Shows.{FindsCourse, course_printout}
use Rattle.show_course.proofs.Prints.{course_exists}

-- ---- the used rows of what is opened

module _ {text : List ℕ} {s : Sheet} {a : CompileAnswer} {t : Tables} (c : CompiledLent text s a t) (z : a.refusal ≡ 0) where
  abbrev letters : ℕ
  letters = (reading_of (answer_to text)).sheet.letters

  letters_are : letters ≡ letter_count s.streams
  letters_are = sheet-letters s (stored_is text refl c.reads)

  -- With zeros behind them the rows lent have the same used rows.
  along_used : (m n : ℕ) {state refusal count room work : ℕ} {list : List ℕ}
      → BestCourse letters (take (a.states * letters) (t.entries ++ zeros m)) (take a.states (t.finals ++ zeros n)) (sheet_streams (reading_of (answer_to text)).sheet) state room work refusal count list
      → BestCourse (letter_count s.streams) (used_entries s a t) (used_finals a t) (sheet_streams (stored_sheet s)) state room work refusal count list
  along_used m n {state} {refusal} {count} {room} {work} {list} o =
      let held = (compiled-held c z).table in
      let k = letter_count s.streams in
      let entries = take-append-le (a.states * k) t.entries (zeros m) held.entries_fit in
      let finals = take-append-le a.states t.finals (zeros n) held.finals_fit in
      let streams = sheet_streams (reading_of (answer_to text)).sheet in
      let stored : streams ≡ sheet_streams (stored_sheet s) = ap sheet_streams (stored_is text refl c.reads) in
      let same = subst (λ l. BestCourse l (take (a.states * l) (t.entries ++ zeros m)) (take a.states (t.finals ++ zeros n)) streams state room work refusal count list) letters_are o in
      transport (λ i. BestCourse k (entries i) (finals i) (stored i) state room work refusal count list) same

  -- The text of a course that is given.
  course-bytes : {state refusal : ℕ} (course : List ℕ) → refusal ≡ 0 → IsCourseFrom s a t state course
      → course_output (course_printout (reading_of (answer_to text)).sheet refusal course) ≡ course_text s.streams course
  unfolding stored_sheet
  course-bytes course given best =
      let f = accepted_facts c.reads in
      let stored = (reading_of (answer_to text)).sheet in
      let same = stored_is text refl c.reads in
      let k : min stored.streams 8 ≡ stored.streams = omega (arith, ap (λ y. y.streams) same, f.streams.stream_count) in
      course-text s.streams f.streams.stream_count f.letters (short-names f.streams) (course_printout stored _ course) given
      (replicate (64 - length (name_bytes s.streams)) 0) (replicate (8 - length (name_lengths s.streams)) 0) (ap (λ y. y.names) same) (ap (λ y. y.lengths) same)
      (ap (λ n. take n stored.lows) k ∙ part_held (lows-part s same)) (ap (λ n. take n stored.highs) k ∙ part_held (highs-part s same)) best.course.letters

-- ---- what the calls print

abbrev printed : OpenedTable → CourseAnswer → List ℕ → List ℕ
printed opened r list = course_output (course_printout opened.sheet r.refusal (take (min r.count 256) list))

-- A refusal is printed as its line.
refusal-printed : (opened : OpenedTable) (r : CourseAnswer) (list : List ℕ) {n : ℕ} → r.refusal ≡ n → 0 < n → printed opened r list ≡ refusal_line n
refusal-printed opened r list e positive =
    refused-text r.refusal (course_line (course_printout opened.sheet r.refusal (take (min r.count 256) list))) (λ z. omega arith) _ ∙ ap refusal_line e

module _ {text : List ℕ} {start : Option Token} where
  -- The ranges of the sheet are numbers of the machine.
  pub opened_ranges : {opened : OpenedTable} {entries finals : List ℕ} → OpensTable text start opened entries finals → HasRanges opened.sheet
  opened_ranges (gives_no_table r) = read_ranges text refl
  opened_ranges (gives_no_state c z e) = read_ranges text refl
  opened_ranges (table c z e) = read_ranges text refl

  pub calls_print : {opened : OpenedTable} {entries finals list : List ℕ} {r : CourseAnswer} → OpensTable text start opened entries finals → FindsCourse opened entries finals list r
      → PrintsCourse text start (printed opened r list)
  calls_print {opened} {list = list} {r} (gives_no_table x) finds =
      let positive = refused-positive x in subst (PrintsCourse text start) (sym (refusal-printed opened r list (finds.refused (λ z. omega arith)) positive)) (refused_sheet x)
  calls_print {opened} {list = list} {r} (gives_no_state c z e) finds =
      subst (PrintsCourse text start) (sym (refusal-printed opened r list (finds.refused (λ z. omega arith)) (omega arith))) (no_start c z e)
  calls_print {list = list} {r} (table {s} {a} {t} {state} c z e) finds =
      let x = course_exists c z start e (along_used c z (32768 - length t.entries) (256 - length t.finals) (finds.found refl)) in
      let k : min r.count 256 ≡ r.count = omega (arith, x.1) in
      let best = subst (λ n. IsCourseFrom s a t state (take n list)) (sym k) x.2 in
      subst (PrintsCourse text start) (sym (course-bytes c z (take (min r.count 256) list) x.0 best)) (found c z e best)
