-- `course_text::values_line` meets its contract: nothing, or the values of the letter (Output).
use native.Mathlib.Omega.{arith}
use mathlib.Core.Path.{◌≡◌, refl, sym, ◌∙◌}
use lib.IntN.{pos}
use lib.ListN.{length, replicate}
use lib.Seq.{length-take-le}
use Rattle.print.proofs.Append.{appends_nothing, appends_same}
use Rattle.course_text.proofs.Output.{no_values, few_streams, values-there}
use Rattle.course_text.proofs.values_line.Goals as goal

pub returns-then-not-letter_values : goal.returns-then-not-letter_values
returns-then-not-letter_values c =
    let a = c.args in
    appends_same (appends_nothing (omega arith)) (no_values a.lows.now a.highs.now a.letter (sym c.letter_values.ensures.0 ∙ c.if-not-letter_values.true))

pub slice_bounds-values-end : goal.slice_bounds-values-end
slice_bounds-values-end c =
    let a = c.args in
    let h = few_streams a.lows.now a.highs.now a.letter (sym c.letter_values.ensures.0 ∙ c.if-not-letter_values.false) in
    let k : length c.letter_values.new.out ≡ 8 = c.letter_values.auto.out in
    omega (arith, c.min-streams.ensures)

pub slice_bounds-numbers_line-end : goal.slice_bounds-numbers_line-end
slice_bounds-numbers_line-end c =
    let a = c.args in
    let h = few_streams a.lows.now a.highs.now a.letter (sym c.letter_values.ensures.0 ∙ c.if-not-letter_values.false) in
    let k : length c.letter_values.new.out ≡ 8 = c.letter_values.auto.out in
    sym (length-take-le _ _ (omega (arith, c.min-streams.ensures)))

pub returns : goal.returns
returns c =
    let a = c.args in
    appends_same c.numbers_line.ensures
    (values-there a.lows.now a.highs.now a.letter (sym c.letter_values.ensures.0 ∙ c.if-not-letter_values.false) c.min-streams.ensures (replicate 8 (pos 0)) refl c.letter_values.ensures.1)
