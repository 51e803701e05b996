-- `winning_rows::find_play` meets its contract: the rows are ranked and played, and the play table is cleared behind them, or all of it.
use Prim.Native.Nat.{◌≤◌}
use mathlib.Core.Path.{◌≡◌, refl, sym, ◌∙◌}
use mathlib.Core.List.{◌++◌}
use native.Mathlib.Omega.{arith}
use lib.ListN.{length, take, drop, length-append, length-drop}
use lib.Seq.{length-take-le}
use Rattle.basics.proofs.Answers.{says_yes, says_no}
use Rattle.basics.proofs.Clearing.{zeros, zeroed}
use Rattle.basics.proofs.Lists.{row_fits}
use Rattle.winning_rows.specs.Play.{PlayFits}
use Rattle.winning_rows.proofs.Sweeping.{fits-sized}
use Rattle.winning_rows.proofs.Outcome.{room-sized, unfit-cleared, play-outcome}
use Rattle.winning_rows.proofs.find_play.Goals as goal

pub returns-then-not-can_play : goal.returns-then-not-can_play
returns-then-not-can_play c =
    let args = c.args in (
      unfit-cleared args.entries.now args.finals.now args.choice.now args.choices (length args.ranks.now) (length args.play.now) (says_no c.if-not-can_play.true c.can_play.ensures) refl
          (record { same = c.fill.ensures.len; below = λ i h. absurd (omega arith); beyond = λ i h. rw (c.fill.ensures.after (λ y e. e)) (zeros (length args.play.now) i) }),
      c.fill-then-not-can_play.ensures.after (λ y e. e),
    )

pub slice_bounds-rank_rows-end : goal.slice_bounds-rank_rows-end
slice_bounds-rank_rows-end c =
    let fits : PlayFits c.args.entries.now c.args.choice.now c.args.choices (length c.args.ranks.now) (length c.args.play.now) = says_yes c.if-not-can_play.false c.can_play.ensures in
    let one-row : c.args.choices ≤ length c.args.play.now = (let args = c.args in
    omega (arith, row_fits 0 (length args.ranks.now) args.choices (length args.play.now) (fits).some_row (fits).play_fits)) in
    one-row

pub slice_bounds-rank_rows-end-2 : goal.slice_bounds-rank_rows-end-2
slice_bounds-rank_rows-end-2 c =
    let fits : PlayFits c.args.entries.now c.args.choice.now c.args.choices (length c.args.ranks.now) (length c.args.play.now) = says_yes c.if-not-can_play.false c.can_play.ensures in
    let one-row : c.args.choices ≤ length c.args.play.now = (let args = c.args in
    omega (arith, row_fits 0 (length args.ranks.now) args.choices (length args.play.now) (fits).some_row (fits).play_fits)) in
    let row-choices : length (take c.args.choices c.args.play.now) ≡ c.args.choices = length-take-le _ _ (one-row) in
    sym (row-choices)

pub rank_rows-requires : goal.rank_rows-requires
rank_rows-requires c =
    let fits : PlayFits c.args.entries.now c.args.choice.now c.args.choices (length c.args.ranks.now) (length c.args.play.now) = says_yes c.if-not-can_play.false c.can_play.ensures in
    let one-row : c.args.choices ≤ length c.args.play.now = (let args = c.args in
    omega (arith, row_fits 0 (length args.ranks.now) args.choices (length args.play.now) (fits).some_row (fits).play_fits)) in
    let row-choices : length (take c.args.choices c.args.play.now) ≡ c.args.choices = length-take-le _ _ (one-row) in
    fits-sized (sym (row-choices)) refl (fits).rows_fit

pub bounds-ranks-0 : goal.bounds-ranks-0
bounds-ranks-0 c =
    let fits : PlayFits c.args.entries.now c.args.choice.now c.args.choices (length c.args.ranks.now) (length c.args.play.now) = says_yes c.if-not-can_play.false c.can_play.ensures in
    omega (arith, c.rank_rows.auto.ranks, (fits).some_row)

pub fill_play-requires : goal.fill_play-requires
fill_play-requires c =
    let fits : PlayFits c.args.entries.now c.args.choice.now c.args.choices (length c.args.ranks.now) (length c.args.play.now) = says_yes c.if-not-can_play.false c.can_play.ensures in
    let one-row : c.args.choices ≤ length c.args.play.now = (let args = c.args in
    omega (arith, row_fits 0 (length args.ranks.now) args.choices (length args.play.now) (fits).some_row (fits).play_fits)) in
    let row-choices : length (take c.args.choices c.args.play.now) ≡ c.args.choices = length-take-le _ _ (one-row) in
    let back-length : length (c.rank_rows.new.answers ++ drop c.args.choices c.args.play.now) ≡ length c.args.play.now = (let args = c.args in
    let inside = c in
    omega (arith, length-append c.rank_rows.new.answers (drop args.choices args.play.now), length-drop args.choices args.play.now, c.rank_rows.auto.answers, row-choices, one-row)) in
    let inside = c in
    (fits-sized refl (sym c.rank_rows.auto.ranks) (fits).rows_fit, room-sized c.args.choices c.rank_rows.auto.ranks (back-length) (fits).play_fits)

pub numbers_kept-kept-requires : goal.numbers_kept-kept-requires
numbers_kept-kept-requires c =
    let fits : PlayFits c.args.entries.now c.args.choice.now c.args.choices (length c.args.ranks.now) (length c.args.play.now) = says_yes c.if-not-can_play.false c.can_play.ensures in
    let one-row : c.args.choices ≤ length c.args.play.now = (let args = c.args in
    omega (arith, row_fits 0 (length args.ranks.now) args.choices (length args.play.now) (fits).some_row (fits).play_fits)) in
    let row-choices : length (take c.args.choices c.args.play.now) ≡ c.args.choices = length-take-le _ _ (one-row) in
    let back-length : length (c.rank_rows.new.answers ++ drop c.args.choices c.args.play.now) ≡ length c.args.play.now = (let args = c.args in
    let inside = c in
    omega (arith, length-append c.rank_rows.new.answers (drop args.choices args.play.now), length-drop args.choices args.play.now, c.rank_rows.auto.answers, row-choices, one-row)) in
    room-sized c.args.choices c.rank_rows.auto.ranks (c.fill_play.auto.play ∙ back-length) (fits).play_fits

pub returns : goal.returns
returns c =
    let fits : PlayFits c.args.entries.now c.args.choice.now c.args.choices (length c.args.ranks.now) (length c.args.play.now) = says_yes c.if-not-can_play.false c.can_play.ensures in
    let one-row : c.args.choices ≤ length c.args.play.now = (let args = c.args in
    omega (arith, row_fits 0 (length args.ranks.now) args.choices (length args.play.now) (fits).some_row (fits).play_fits)) in
    let row-choices : length (take c.args.choices c.args.play.now) ≡ c.args.choices = length-take-le _ _ (one-row) in
    let back-length : length (c.rank_rows.new.answers ++ drop c.args.choices c.args.play.now) ≡ length c.args.play.now = (let args = c.args in
    let inside = c in
    omega (arith, length-append c.rank_rows.new.answers (drop args.choices args.play.now), length-drop args.choices args.play.now, c.rank_rows.auto.answers, row-choices, one-row)) in
    let args = c.args in
    let inside = c in
    let ranked = c in (
      play-outcome args.entries.now args.finals.now args.choice.now args.choices (length args.ranks.now) (length args.play.now) (row-choices) c.rank_rows.auto.ranks (fits) c.rank_rows.ensures
          (c.fill_play.auto.play ∙ back-length) c.fill_play.ensures c.numbers_kept-kept.ensures c.clear_from.ensures,
      zeroed (c.fill-2.ensures.after (λ y e. e)) c.rank_rows.auto.ranks,
    )
