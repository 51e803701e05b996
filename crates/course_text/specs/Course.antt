-- What `shortest` prints of a course (document 02, S-3: "give the fewest letters that lead to a final state, and the letters"): the names of the streams,
-- and a line of values for each letter. So it is a record of the sheet.
use Rattle.std.specs.Prelude.{ℕ, List, ◌++◌, map}
use Rattle.meaning.specs.Expression.{Stream}
use Rattle.meaning.specs.Letter.{letter_of}
use Rattle.meaning.specs.Window.{join_over}
use Rattle.sheet.specs.Form.{names_of}
use Rattle.print.specs.Text.{decimal, tokens_line}

-- The values of the letter with this number, in the order of the streams.
abbrev pub letter_line : List Stream → ℕ → List ℕ
letter_line ss letter = tokens_line (map decimal (letter_of ss letter))

-- The names, and a line for each letter of the course; for a course of no letters the names alone.
abbrev pub course_text : List Stream → List ℕ → List ℕ
course_text ss course = tokens_line (names_of ss) ++ join_over (letter_line ss) course
