-- `course_text::PrintedCourse::place_count` meets its contract, by the cases of a refusal's number.
use mathlib.Core.Path.{◌∙◌}
use lib.ListN.{length}
use native.Mathlib.Numerals.{add-one}
use Rattle.pages.proofs.Refused.{refused-places, given-places}
use Rattle.course_text.proofs.PrintedCoursePlacedText.place_count.Goals as goal

pub returns-then-self-ne0 : goal.returns-then-self-ne0
returns-then-self-ne0 c = refused-places _ c.if-self-ne0.true _

pub returns : goal.returns
returns c = add-one (length c.args.self.now.course.now) ∙ given-places _ c.if-self-ne0.false _
