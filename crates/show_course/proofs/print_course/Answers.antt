-- The ranges cut to the streams are numbers of the machine, so that each line has room, and what is handed over is the text of all lines.
use Rattle.std.proofs.Common.{ℕ, List, arith, subst}
use Prim.Native.Nat.{min}
use lib.ListN.{replicate, take}
use Rattle.std.proofs.lemmas.List.{length-replicate}
use Rattle.reader.specs.declared.StoredSheet.{StoredSheet}
use Rattle.output.specs.Output.{Hands}
use Rattle.print.proofs.Lengths.{fit-take}
use Rattle.pages.proofs.Fitting.{hands_all}
use Rattle.course_text.specs.Output.{CoursePrintout, course_output}
use Rattle.course_text.proofs.Output.{line-short}
use Rattle.show_course.proofs.print_course.Goals as goal

-- What is printed of so many streams and letters.
abbrev cut_to : StoredSheet → (refusal : ℕ) (list : List ℕ) (streams count : ℕ) → CoursePrintout
cut_to sheet refusal list streams count =
    record { refusal = refusal; names = sheet.names; lengths = sheet.lengths; lows = take streams sheet.lows; highs = take streams sheet.highs; course = take count list }

pub returns : goal.returns
returns g c =
    let a = c.args in
    let r = c.write_pages.result in
    let streams = c.min-streams.result in
    let printed = cut_to a.sheet a.answer.refusal a.list.now streams c.min-count.result in
    let short = line-short printed (omega arith) (fit-take streams a.sheet.lows c.requires.0.lows) (fit-take streams a.sheet.highs c.requires.0.highs) in
    let hands = hands_all (replicate 4096 0) (omega (arith, length-replicate {A = ℕ} 4096 0)) short c.write_pages.ensures in
    subst (λ n. Hands (course_output (cut_to a.sheet a.answer.refusal a.list.now n (min a.answer.count 256))) r.size r.whole) c.min-streams.ensures
    (subst (λ k. Hands (course_output (cut_to a.sheet a.answer.refusal a.list.now streams k)) r.size r.whole) c.min-count.ensures hands)
