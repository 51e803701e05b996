-- `counting::count_records` meets its contract: from the tests of the table and the rooms, and of the figures, by way of lists that are cleared first (Figures).
use Prim.Native.Nat.{◌<◌}
use native.Mathlib.Omega.{arith}
use mathlib.Core.Path.{◌∙◌}
use lib.ListN.{length}
use Rattle.basics.proofs.Answers.{says_yes, says_no}
use Rattle.basics.proofs.Clearing.{zeroed}
use Rattle.automaton.specs.WellFormed.{IsWellFormed}
use Rattle.counting.proofs.Figures.{not-counted, all-counted, too_high}
use Rattle.counting.proofs.count_records.Goals as goal

pub returns-then-are_bounded : goal.returns-then-are_bounded
returns-then-are_bounded c =
    let a = c.args in
    let passed = says_yes c.if-not-can_be_counted.false c.can_be_counted.ensures in
    let formed : IsWellFormed a.letters a.entries.now a.finals.now × (a.most < length a.figures.now) × (a.most < length a.final_figures.now) = (passed.0, omega (arith, passed.1, c.fill.auto.self), omega (arith, passed.2, c.fill-2.auto.self)) in
    all-counted a.letters a.entries.now a.finals.now a.most (length a.figures.now) (length a.final_figures.now) (c.fill.ensures.after (λ y e. e)) (c.fill-2.ensures.after (λ y e. e))
    formed c.count_rows.ensures.0 c.count_rows.ensures.1 (says_yes c.if-are_bounded.true c.are_bounded.ensures)

pub returns : goal.returns
returns c =
    let a = c.args in
    let rows = c.count_rows in
    let clear = c.fill in
    let final-clear = c.fill-2 in
    let passed = says_yes c.if-not-can_be_counted.false c.can_be_counted.ensures in
    let formed : IsWellFormed a.letters a.entries.now a.finals.now × (a.most < length a.figures.now) × (a.most < length a.final_figures.now) = (passed.0, omega (arith, passed.1, clear.auto.self), omega (arith, passed.2, final-clear.auto.self)) in
    not-counted a.letters a.entries.now a.finals.now a.most (length a.figures.now) (length a.final_figures.now)
    (too_high a.letters a.entries.now a.finals.now a.most (length a.figures.now) (length a.final_figures.now) (clear.ensures.after (λ y e. e)) (final-clear.ensures.after (λ y e. e)) formed rows.ensures.0 rows.ensures.1 (says_no c.if-are_bounded.false c.are_bounded.ensures))
    (zeroed (c.fill-3.ensures.after (λ y e. e)) (rows.auto.figures ∙ clear.auto.self)) (zeroed (c.fill-4.ensures.after (λ y e. e)) (rows.auto.final_figures ∙ final-clear.auto.self))
