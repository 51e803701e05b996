-- What `shortest` prints, place by place: the names of the streams or the line of a refusal stands at place 0, and the values of the course's letters at
-- those after it.
use Rattle.std.specs.Prelude.{ℕ, zero, suc, min, cond, List, [], map, ℤ, length, get_or}
use Rattle.letters.specs.Described.{described, has_letter}
use Rattle.print.specs.Text.{tokens_line}
use Rattle.print.specs.Lines.{lines_from, stored_names}
use Rattle.pages.specs.Lines.{or_refused, places_or}
use Rattle.course_text.specs.Course.{letter_line}
use Rattle.course_text.specs.declared.PrintedCourse.{PrintedCourse}

-- What is printed: a refusal's number, or 0 and the letters of a course by their numbers. A name is stored as eight bytes and a length.
pub record CoursePrintout : Type 0 where
  pub refusal : ℕ
  pub names : List ℕ
  pub lengths : List ℕ
  pub lows : List ℤ
  pub highs : List ℤ
  pub course : List ℕ

-- A course as it is lent.
abbrev pub printout_of_course : PrintedCourse → CoursePrintout
printout_of_course c = record { refusal = c.refusal; names = c.names.now; lengths = c.lengths.now; lows = c.lows.now; highs = c.highs.now; course = c.course.now }

-- The line of a letter, from the streams' lowest and highest values; nothing for a number that is no letter's, or where the streams are more than eight
-- or have more letters than a sheet can have.
unfoldable pub values_text : List ℤ → List ℤ → ℕ → List ℕ
values_text lows highs letter = cond (has_letter (described lows highs) letter 8) (letter_line (described lows highs) letter) []

-- The names at place 0, then a line for each letter of the course.
abbrev pub course_line : CoursePrintout → ℕ → List ℕ
course_line p zero = tokens_line (stored_names p.names p.lengths (min (length p.lows) 8))
course_line p (suc i) = get_or (map (values_text p.lows p.highs) p.course) i []

-- The text at a place.
abbrev pub course_at : CoursePrintout → ℕ → List ℕ
course_at p = or_refused p.refusal (course_line p)

-- How many places there are: one for a refusal; else that of the names, and one for each letter.
abbrev pub course_places : (refusal : ℕ) (course : List ℕ) → ℕ
course_places refusal course = places_or refusal (suc (length course))

-- All that is printed.
abbrev pub course_output : CoursePrintout → List ℕ
course_output p = lines_from (course_at p) 0 (course_places p.refusal p.course)
