-- `winning_rows::fill_play` meets its contract: the rows before `row` are played.
use Prim.Native.Nat.{◌+◌, ◌*◌, ◌≤◌}
use mathlib.Core.Path.{◌≡◌, sym, ◌∙◌, subst}
use native.Mathlib.Omega.{arith}
use lib.ListN.{length}
use Rattle.basics.proofs.Lists.{row_fits}
use Rattle.winning_rows.specs.Answers.{ChoicesFit}
use Rattle.winning_rows.specs.Sweeps.{lent_game}
use Rattle.winning_rows.proofs.Rows.{row-length, row-plays}
use Rattle.winning_rows.proofs.Filling.{part_length, played-more}
use Rattle.winning_rows.proofs.fill_play.Goals as goal

pub answer_row-requires : goal.answer_row-requires
answer_row-requires c =
    let entries-inside : c.loop-row.row * length c.args.choice.now + length c.args.choice.now ≤ length c.args.entries.now = (let start = c in
    row_fits c.loop-row.row (length start.args.ranks.now) (length start.args.choice.now) (length start.args.entries.now) c.loop-row-test.true start.requires.0.entries_fit) in
    let play-inside : c.loop-row.row * c.args.choices + c.args.choices ≤ length c.loop-row.play = (let start = c in
    omega (arith, row_fits c.loop-row.row (length start.args.ranks.now) start.args.choices (length start.args.play.now) c.loop-row-test.true start.requires.1, c.loop-row.auto.play)) in
    let inside = c in
    let args = c.args in
    (row-length args.entries.now (length args.choice.now) c.loop-row.row (entries-inside), subst (ChoicesFit args.choice.now) (sym (part_length c.loop-row.play (c.loop-row.row * args.choices) args.choices (play-inside))) c.requires.0.choices_fit)

pub loop-row-preserved : goal.loop-row-preserved
loop-row-preserved c =
    let entries-inside : c.loop-row.row * length c.args.choice.now + length c.args.choice.now ≤ length c.args.entries.now = (let start = c in
    row_fits c.loop-row.row (length start.args.ranks.now) (length start.args.choice.now) (length start.args.entries.now) c.loop-row-test.true start.requires.0.entries_fit) in
    let play-inside : c.loop-row.row * c.args.choices + c.args.choices ≤ length c.loop-row.play = (let start = c in
    omega (arith, row_fits c.loop-row.row (length start.args.ranks.now) start.args.choices (length start.args.play.now) c.loop-row-test.true start.requires.1, c.loop-row.auto.play)) in
    let inside = c in
    let args = c.args in
    let loop = c.loop-row in
    let call = c.answer_row in
    let part = call.new.answers in
    let fits = play-inside in
    let long : length part ≡ args.choices = call.auto.answers ∙ part_length loop.play (loop.row * args.choices) args.choices fits in
    λ final. played-more (lent_game args.entries.now args.choice.now args.choices (length args.ranks.now) final) args.ranks.now loop.play part loop.row fits long
    (row-plays args.entries.now args.choice.now args.ranks.now args.choices (length args.ranks.now) loop.row final
    (row-length args.entries.now (length args.choice.now) loop.row (entries-inside)) c.requires.0.choices_fit.few long call.ensures c.highest_next.ensures) (loop.invariant final)

pub returns : goal.returns
returns c = λ final s a h ha. c.loop-row.invariant final s a (omega arith) ha
