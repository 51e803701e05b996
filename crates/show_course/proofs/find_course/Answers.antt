-- `show_course::find_course` meets its contract: the used rows lie within the lists, the list has 256 numbers, and the work room 32,768.
use mathlib.Core.Path.{refl, sym}
use lib.Seq.{length-take-le}
use Rattle.show_course.proofs.find_course.Goals as goal

pub returns-then-table-ne0 : goal.returns-then-table-ne0
returns-then-table-ne0 c = record { refused = λ h. refl; found = λ z. absurd (c.if-table-ne0.true z) }

pub slice_bounds-course-end : goal.slice_bounds-course-end
slice_bounds-course-end c = sym (length-take-le _ _ c.requires.1)

pub slice_bounds-course-end-2 : goal.slice_bounds-course-end-2
slice_bounds-course-end-2 c = sym (length-take-le _ _ c.requires.0)
