-- What the calls print is what the texts print (Printing).
use Rattle.std.proofs.Common.{refl}
use Rattle.opening.proofs.Sizes.{rows_fit}
use Rattle.show_course.proofs.Printing.{opened_ranges, calls_print}
use Rattle.show_course.proofs.show_course.Goals as goal

pub find_course-answer-requires : goal.find_course-answer-requires
find_course-answer-requires g c = let fit = rows_fit c.open_table-table.ensures in (fit.0, fit.1, refl, refl)

pub print_course-requires : goal.print_course-requires
print_course-requires g c = (opened_ranges c.open_table-table.ensures, c.find_course-answer.auto.list)

pub returns : goal.returns
returns g c = record { bytes = _; prints = calls_print c.open_table-table.ensures c.find_course-answer.ensures; hands = c.print_course.ensures }
