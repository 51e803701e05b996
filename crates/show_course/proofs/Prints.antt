-- What `shortest` prints is there for every sheet and every text of a state, and is one: the table that a compile gave has one best course from each of its
-- states, and a call for it with the sheet's streams, a list of 256 numbers and work room for every entry gives it. From the one outcome of a compile in the
-- rows lent (lend), what a call for a course gives on the used rows of a compile (theorems, Courses), and the laws of courses (automaton).
use Prim.Native.Nat.{ℕ, ◌*◌, ◌≤◌, ◌<◌}
use native.Mathlib.Omega.{arith}
use mathlib.Core.Path.{◌≡◌, refl, sym, ap, ap₂, subst, transport}
use mathlib.Core.List.{List}
use mathlib.Core.Option.{Option, none, some}
use lib.ListN.{length, take, replicate}
use lib.Seq.{length-take-le, take_at}
use Rattle.text.specs.Bytes.{Token}
use Rattle.meaning.specs.Expression.{Sheet}
use Rattle.meaning.specs.Letter.{letter_count}
use Rattle.automaton.specs.Stored.{entry_at, final_at}
use Rattle.automaton.specs.Course.{IsBest, CourseOutcome.unfit, CourseOutcome.endless, CourseOutcome.short, CourseOutcome.found as best}
use Rattle.automaton.proofs.Course.{best_unique}
use Rattle.sheet.proofs.Accepted.{accepted_facts}
use Rattle.reader.specs.Stored.{stored_sheet}
use Rattle.streams.specs.Description.{description_of}
use Rattle.streams.specs.declared.StreamsDescription.{StreamsDescription}
use Rattle.changes.specs.Changes.{changed}
use Rattle.compiled_sheet.specs.Told.{sheet_streams}
use Rattle.compiled_sheet.proofs.Sheets.{stored_description, stored-streams-fit}
use Rattle.course.specs.Outcome.{BestCourse, CourseCall}
use Rattle.course.proofs.Outcome.{call-total}
use Rattle.outcome.specs.Compile.{CompileAnswer, Tables}
use Rattle.theorems.specs.UsedRows.{used_entries, used_finals}
use Rattle.theorems.proofs.Courses.{state-answered}
use Rattle.theorems.proofs.Replaying.{start-is-state}
use Rattle.lend.specs.Lend.{CompiledLent, HasOutcome, is_refused, is_compiled}
use Rattle.lend.proofs.Rows.{lent-entries}
use Rattle.lend.proofs.Outcome.{compiled_unique, compiled-held, refused_unique, refused-not-compiled, lent_total}
use Rattle.print.specs.Text.{refusal_line}
use Rattle.opening.proofs.Sizes.{few_rows}
use Rattle.opening.specs.Start.{start_state}
use Rattle.opening.proofs.Plays.{none≢some, same_start, same_state}
use Rattle.course_text.specs.Course.{course_text}
use Rattle.show_course.specs.Prints.{IsCourseFrom, PrintsCourse, refused_sheet, no_start, found, HasCourseOutput}

-- ---- the course from a state of a compiled sheet

-- The front of the list that a call without refusal leaves is the best course.
front-best : {k : ℕ} {entries finals : List ℕ} {streams : StreamsDescription} {state room work refusal count : ℕ} {list : List ℕ} → BestCourse k entries finals streams state room work refusal count list
    → refusal ≡ 0 → IsBest (changed (description_of streams)) k (entry_at k entries) (final_at finals) state (take count list)
front-best (unfit x) e = absurd (omega arith)
front-best (endless f x) e = absurd (omega arith)
front-best (short f b h) e = absurd (omega arith)
front-best (best {r} f b h) e = rw (take_at r _ (length r) refl) b

module _ {text : List ℕ} {s : Sheet} {a : CompileAnswer} {t : Tables} (c : CompiledLent text s a t) (z : a.refusal ≡ 0) where
  -- There are no more entries of the used rows than numbers of work room lent.
  few-entries : length (used_entries s a t) ≤ 32768
  few-entries =
      let held = compiled-held c z in
      omega (arith, length-take-le (a.states * letter_count s.streams) t.entries held.table.entries_fit, held.table.entries_fit, held.entries_size, lent-entries (letter_count s.streams))

  -- "from every state of a compiled table one of fewer letters than there are states does": so neither 15 nor 10 is met; and the streams of a sheet that is
  -- compiled fit.
  pub course_exists : (start : Option Token) {state refusal count : ℕ} {list : List ℕ} → start_state a.states start ≡ some state
      → BestCourse (letter_count s.streams) (used_entries s a t) (used_finals a t) (sheet_streams (stored_sheet s)) state 256 32768 refusal count list
      → (refusal ≡ 0) × (count < 256) × IsCourseFrom s a t state (take count list)
  course_exists start {state} {refusal} {count} {list} e o =
      let k = letter_count s.streams in
      let f = accepted_facts c.reads in
      let call : CourseCall k (used_entries s a t) (used_finals a t) (sheet_streams (stored_sheet s)) state 256 32768 refusal count list (replicate 32768 0) = record { outcome = o; cleared = refl } in
      let answered = state-answered c.call c.reads z call (start-is-state c.call c.reads z start e) (stored-streams-fit s f) (omega (arith, few_rows c z)) few-entries in (
        answered.0,
        omega (arith, answered.1, few_rows c z),
        subst (λ ss. IsBest (changed ss) k (entry_at k (used_entries s a t)) (final_at (used_finals a t)) state (take count list)) (stored_description s f) (front-best o answered.0),
      )

-- ---- one outcome

module _ {text : List ℕ} (start : Option Token) where
  pub prints_unique : {b c : List ℕ} → PrintsCourse text start b → PrintsCourse text start c → b ≡ c
  prints_unique (refused_sheet r) (refused_sheet q) = ap refusal_line (refused_unique r q)
  prints_unique (refused_sheet r) (no_start d z f) = absurd (refused-not-compiled r d z)
  prints_unique (refused_sheet r) (found d z f y) = absurd (refused-not-compiled r d z)
  prints_unique (no_start c y e) (refused_sheet q) = absurd (refused-not-compiled q c y)
  prints_unique (no_start c y e) (no_start d z f) = refl
  prints_unique (no_start c y e) (found d z f x) = absurd (none≢some (sym (same_start start c d e refl)) f)
  prints_unique (found c y e x) (refused_sheet q) = absurd (refused-not-compiled q c y)
  prints_unique (found c y e x) (no_start d z f) = absurd (none≢some f (sym (same_start start c d e refl)))
  prints_unique (found {course = p} c y e x) (found {s = q} {a = b} {t = u} {state = j} {course = r} d z f w) =
      let same = compiled_unique c d in
      let state = same_state start c d e f in
      let moved = transport (λ i. IsCourseFrom (same.0 i) (same.1.0 i) (same.1.1 i) (state i) p) x in
      let k = letter_count q.streams in
      ap₂ course_text (ap (λ y. y.streams) same.0) (best_unique (changed q.streams) k (entry_at k (used_entries q b u)) (final_at (used_finals b u)) j p r moved w)

-- ---- and always one

pub prints-total : (text : List ℕ) (start : Option Token) → HasCourseOutput text start
prints-total text start = go (lent_total text)
  where
    by : {s : Sheet} {a : CompileAnswer} {t : Tables} → CompiledLent text s a t → a.refusal ≡ 0 → (o : Option ℕ) → start_state a.states start ≡ o → HasCourseOutput text start
    by c z none e = record { bytes = _; prints = no_start c z e }
    by {s} {a} {t} c z (some state) e =
        let o = call-total (letter_count s.streams) (used_entries s a t) (used_finals a t) (sheet_streams (stored_sheet s)) state 256 32768 in
        record { bytes = _; prints = found c z e (course_exists c z start e o.call.outcome).2 }

    go : HasOutcome text → HasCourseOutput text start
    go (is_refused r) = record { bytes = _; prints = refused_sheet r }
    go (is_compiled {a = a} c z) = by c z (start_state a.states start) refl
