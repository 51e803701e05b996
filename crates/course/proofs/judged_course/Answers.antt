-- `course::judged_course` meets its contract: 11 where the call is not fit, and else what `find_course` gives.
use Rattle.automaton.specs.Course.{CourseOutcome.unfit}
use mathlib.Core.Path.{sym, ap, ◌∙◌}
use Prim.Native.Nat.{◌<◌, ◌≤◌}
use native.Mathlib.Omega.{arith}
use lib.ListN.{length, replicate}
use Rattle.basics.proofs.Answers.{says_yes, says_no}
use Rattle.automaton.specs.WellFormed.{most_rows}
use Rattle.changes.proofs.Streams.{shape_letters}
use Rattle.course_tests.specs.Refusals.{IsFit}
use Rattle.course_tests.specs.Goal.{not_met}
use Rattle.course.proofs.Outcome.{outcome-refused, filled-length, filled-part}
use Rattle.course.proofs.judged_course.Goals as goal

pub returns-then-not-is_fit : goal.returns-then-not-is_fit
returns-then-not-is_fit c =
    outcome-refused c.refused.ensures c.requires
    (unfit (says_no c.if-not-is_fit.true c.is_fit.ensures))

pub overflow_cast-state : goal.overflow_cast-state
overflow_cast-state c =
    let fit : let a = c.args in IsFit a.letters a.entries.now a.finals.now a.streams a.state = says_yes c.if-not-is_fit.false c.is_fit.ensures in
    let few : length c.args.finals.now ≤ most_rows = (fit).state.well_formed.whole.few_rows in
    omega (arith, few, (fit).state.is_row)

pub slice_bounds-layers-end : goal.slice_bounds-layers-end
slice_bounds-layers-end c =
    let fit : let a = c.args in IsFit a.letters a.entries.now a.finals.now a.streams a.state = says_yes c.if-not-is_fit.false c.is_fit.ensures in
    let few : length c.args.finals.now ≤ most_rows = (fit).state.well_formed.whole.few_rows in
    few

pub slice_bounds-find_course-end : goal.slice_bounds-find_course-end
slice_bounds-find_course-end c =
    let fit : let a = c.args in IsFit a.letters a.entries.now a.finals.now a.streams a.state = says_yes c.if-not-is_fit.false c.is_fit.ensures in
    let few : length c.args.finals.now ≤ most_rows = (fit).state.well_formed.whole.few_rows in
    sym (filled-length (length c.args.finals.now) most_rows not_met (few))

pub slice_bounds-queue-end : goal.slice_bounds-queue-end
slice_bounds-queue-end c =
    let fit : let a = c.args in IsFit a.letters a.entries.now a.finals.now a.streams a.state = says_yes c.if-not-is_fit.false c.is_fit.ensures in
    let few : length c.args.finals.now ≤ most_rows = (fit).state.well_formed.whole.few_rows in
    few

pub slice_bounds-find_course-end-2 : goal.slice_bounds-find_course-end-2
slice_bounds-find_course-end-2 c =
    let fit : let a = c.args in IsFit a.letters a.entries.now a.finals.now a.streams a.state = says_yes c.if-not-is_fit.false c.is_fit.ensures in
    let few : length c.args.finals.now ≤ most_rows = (fit).state.well_formed.whole.few_rows in
    sym (filled-length (length c.args.finals.now) most_rows 0 (few))

pub find_course-requires : goal.find_course-requires
find_course-requires c =
    let fit : let a = c.args in IsFit a.letters a.entries.now a.finals.now a.streams a.state = says_yes c.if-not-is_fit.false c.is_fit.ensures in
    let few : length c.args.finals.now ≤ most_rows = (fit).state.well_formed.whole.few_rows in
    let start = c in
    let up = c in
    let n = length start.args.finals.now in
    let f = fit in
    let most = few in
    let long = filled-length n most_rows not_met most in
    let letter : 0 < start.args.letters = let ne = f.state.well_formed.whole.some_letter in omega arith in
    record {
      whole_table = rw long f.state.well_formed.whole;
      finals_len = (sym long, filled-length n most_rows 0 most ∙ sym long, omega (arith, f.state.is_row, long), shape_letters c.shape_of.ensures f.streams_fit letter, f.streams_fit.few_letters);
      layers_value = (filled-part n most_rows not_met most ∙ ap (λ m. replicate m not_met) (sym long), start.requires);
    }

pub returns : goal.returns
returns c =
    let fit : let a = c.args in IsFit a.letters a.entries.now a.finals.now a.streams a.state = says_yes c.if-not-is_fit.false c.is_fit.ensures in
    let start = c in
    c.find_course.ensures start.args.streams c.shape_of.ensures (fit)
