-- What `shortest` prints for the bytes of a sheet and for the text of a state (document 02, S-3 and S-8).
use Rattle.std.specs.Prelude.{ℕ, ◌≡◌, List}
use Rattle.std.proofs.Math.Option.{Option, none, some}
use Rattle.text.specs.Bytes.{Token}
use Rattle.meaning.specs.Expression.{Sheet}
use Rattle.meaning.specs.Letter.{letter_count}
use Rattle.automaton.specs.Stored.{entry_at, final_at}
use Rattle.automaton.specs.Course.{IsBest}
use Rattle.changes.specs.Changes.{changed}
use Rattle.outcome.specs.Compile.{CompileAnswer, Tables}
use Rattle.lend.specs.Lend.{CompiledLent, RefusedLent}
use Rattle.print.specs.Text.{refusal_line}
use Rattle.theorems.specs.UsedRows.{used_entries, used_finals}
use Rattle.opening.specs.Start.{start_state}
use Rattle.course_text.specs.Course.{course_text}

-- "the fewest letters that lead to a final state"; "Among shortest courses of S-3, the one with the fewest changes now comes first [..] Only courses still
-- equal go by number order": the course from a state of the used rows.
abbrev pub IsCourseFrom : Sheet → CompileAnswer → Tables → (state : ℕ) (course : List ℕ) → Type 0
IsCourseFrom s a t state course =
    IsBest (changed s.streams) (letter_count s.streams) (entry_at (letter_count s.streams) (used_entries s a t)) (final_at (used_finals a t)) state course

pub data PrintsCourse (sheet_text : List ℕ) (start : Option Token) : List ℕ → Type 0 where
  -- The sheet's numbers come before all others.
  refused_sheet : {n : ℕ} → RefusedLent sheet_text n → PrintsCourse sheet_text start (refusal_line n)
  -- "11": the state given is no state of the table; it is written as the start of a record, and without one it is 0.
  no_start : {s : Sheet} {a : CompileAnswer} {t : Tables} → CompiledLent sheet_text s a t → a.refusal ≡ 0 → start_state a.states start ≡ none → PrintsCourse sheet_text start (refusal_line 11)
  -- "give the fewest letters that lead to a final state, and the letters"
  found : {s : Sheet} {a : CompileAnswer} {t : Tables} {state : ℕ} {course : List ℕ} → CompiledLent sheet_text s a t → a.refusal ≡ 0 → start_state a.states start ≡ some state
      → IsCourseFrom s a t state course → PrintsCourse sheet_text start (course_text s.streams course)

-- There is an outcome.
pub record HasCourseOutput (sheet_text : List ℕ) (start : Option Token) : Type 0 where
  pub bytes : List ℕ
  pub prints : PrintsCourse sheet_text start bytes
