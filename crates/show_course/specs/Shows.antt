-- What `show_course` gives back, and what its parts do.
use Rattle.std.specs.Prelude.{ℕ, ◌*◌, min, ◌≡◌, ◌≢◌, List, take}
use Rattle.std.proofs.Math.Option.{Option}
use Rattle.text.specs.Bytes.{Token}
use Rattle.reader.specs.declared.StoredSheet.{StoredSheet}
use Rattle.compiled_sheet.specs.Told.{sheet_streams}
use Rattle.course.specs.Outcome.{BestCourse}
use Rattle.course.specs.declared.CourseAnswer.{CourseAnswer}
use Rattle.opening.specs.declared.OpenedTable.{OpenedTable}
use Rattle.output.specs.Output.{Hands}
use Rattle.output.specs.declared.Handed.{Handed}
use Rattle.course_text.specs.Output.{CoursePrintout}
use Rattle.show_course.specs.Prints.{PrintsCourse}

-- How many of the bytes that `shortest` prints for the text of a sheet and that of a state were taken by writes.
pub record ShowsCourse (sheet_text : List ℕ) (start : Option Token) (r : Handed) : Type 0 where
  pub bytes : List ℕ
  pub prints : PrintsCourse sheet_text start bytes
  pub hands : Hands bytes r.size r.whole

-- ---- parts of a call

-- The refusal with which a table was opened, or the course from the state along its used rows.
pub record FindsCourse (table : OpenedTable) (entries finals list : List ℕ) (r : CourseAnswer) : Type 0 where
  pub refused : table.refusal ≢ 0 → r.refusal ≡ table.refusal
  pub found : table.refusal ≡ 0
      → BestCourse table.sheet.letters (take (table.states * table.sheet.letters) entries) (take table.states finals) (sheet_streams table.sheet) table.state 256 32768 r.refusal r.count list

-- A refusal or a course, with the names and ranges of a stored sheet.
abbrev pub course_printout : StoredSheet → (refusal : ℕ) (course : List ℕ) → CoursePrintout
course_printout stored refusal course =
    record {
      refusal = refusal;
      names = stored.names;
      lengths = stored.lengths;
      lows = take (min stored.streams 8) stored.lows;
      highs = take (min stored.streams 8) stored.highs;
      course = course;
    }
