-- `winning_rows::turn_row` meets its contract: each way out turns the row or finds it settled, by the tests that lead there.
use Prim.Native.Nat.{◌*◌, ◌+◌, ◌≤◌}
use mathlib.Core.Path.{refl, ap}
use native.Mathlib.Omega.{arith}
use borrow.Author.Tests.{not-true, not-false}
use lib.ListN.{length, get_or, set}
use Rattle.std.proofs.Common.{Fits, w32, rules}
use Rattle.basics.proofs.Lists.{row_fits}
use Rattle.winning_rows.proofs.Rows.{row-length, settled_rank, row_settled, row_turnable}
use Rattle.winning_rows.proofs.turn_row.Goals as goal

pub returns-then-ranks-row : goal.returns-then-ranks-row
returns-then-ranks-row c =
    λ final. (refl, settled_rank _ c.args.to c.args.ranks.now c.args.row c.if-ranks-row.true)

pub overflow_mul-start : goal.overflow_mul-start
overflow_mul-start c =
    let inside : c.args.row * length c.args.choice.now + length c.args.choice.now ≤ length c.args.entries.now = row_fits c.args.row (length c.args.ranks.now) (length c.args.choice.now) (length c.args.entries.now) c.requires.1 c.requires.0.entries_fit in
    omega (arith, inside)

pub overflow_add-end : goal.overflow_add-end
overflow_add-end c =
    let inside : c.args.row * length c.args.choice.now + length c.args.choice.now ≤ length c.args.entries.now = row_fits c.args.row (length c.args.ranks.now) (length c.args.choice.now) (length c.args.entries.now) c.requires.1 c.requires.0.entries_fit in
    omega (arith, inside)

pub offset_bounds-entries-start : goal.offset_bounds-entries-start
offset_bounds-entries-start c =
    let inside : c.args.row * length c.args.choice.now + length c.args.choice.now ≤ length c.args.entries.now = row_fits c.args.row (length c.args.ranks.now) (length c.args.choice.now) (length c.args.entries.now) c.requires.1 c.requires.0.entries_fit in
    omega (arith, inside)

pub slice_bounds-answer_row-end : goal.slice_bounds-answer_row-end
slice_bounds-answer_row-end c =
    let inside : c.args.row * length c.args.choice.now + length c.args.choice.now ≤ length c.args.entries.now = row_fits c.args.row (length c.args.ranks.now) (length c.args.choice.now) (length c.args.entries.now) c.requires.1 c.requires.0.entries_fit in
    inside

pub answer_row-requires : goal.answer_row-requires
answer_row-requires c =
    let inside : c.args.row * length c.args.choice.now + length c.args.choice.now ≤ length c.args.entries.now = row_fits c.args.row (length c.args.ranks.now) (length c.args.choice.now) (length c.args.entries.now) c.requires.1 c.requires.0.entries_fit in
    (row-length c.args.entries.now (length c.args.choice.now) c.args.row (inside), c.requires.0.choices_fit)

pub returns-then-all_answered-to : goal.returns-then-all_answered-to
returns-then-all_answered-to c =
    let inside : c.args.row * length c.args.choice.now + length c.args.choice.now ≤ length c.args.entries.now = row_fits c.args.row (length c.args.ranks.now) (length c.args.choice.now) (length c.args.entries.now) c.requires.1 c.requires.0.entries_fit in
    let start = c in
    let args = start.args in
    λ final. (
      refl,
      row_settled args.entries.now args.choice.now args.ranks.now (length args.answers.now) (length args.ranks.now) args.row final
          (row-length args.entries.now (length args.choice.now) args.row (inside)) start.requires.0.choices_fit.few c.answer_row.auto.answers c.answer_row.ensures
          args.to c.all_answered.result (λ t. let fits : Fits w32 (get_or c.args.ranks.now t 0) = search rules in omega (arith, fits)) (not-true _ c.if-all_answered-to.true) c.all_answered.ensures,
    )

pub returns : goal.returns
returns c =
    let inside : c.args.row * length c.args.choice.now + length c.args.choice.now ≤ length c.args.entries.now = row_fits c.args.row (length c.args.ranks.now) (length c.args.choice.now) (length c.args.entries.now) c.requires.1 c.requires.0.entries_fit in
    let start = c in
    let args = start.args in
    λ final. (
      row_turnable args.entries.now args.choice.now args.ranks.now (length args.answers.now) (length args.ranks.now) args.row final
          (row-length args.entries.now (length args.choice.now) args.row (inside)) start.requires.0.choices_fit.few c.answer_row.auto.answers c.answer_row.ensures
          args.to c.all_answered.result (λ t. let fits : Fits w32 (get_or c.args.ranks.now t 0) = search rules in omega (arith, fits)) c.if-ranks-row.false (not-false _ c.if-all_answered-to.false) c.all_answered.ensures,
      ap (set args.ranks.now args.row) c.turned_to.ensures,
    )
