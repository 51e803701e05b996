-- `winning_rows::answer_row` meets its contract: the answers are the first ones among the letters from `letter` on.
use Prim.Native.Nat.{◌-◌, ◌<◌}
use mathlib.Core.Path.{refl, sym, ◌∙◌}
use native.Mathlib.Omega.{arith}
use lib.ListN.{length}
use Rattle.winning_rows.proofs.Answers.{answers-none, answers_skip, answers-store, answers-all}
use Rattle.winning_rows.proofs.answer_row.Goals.{else-rank-ne0-via-then-rank-ne0+else-rank-highest, else-rank-ne0-via-else-rank-ne0}
use Rattle.winning_rows.proofs.answer_row.Goals as goal

pub loop-letter-init : goal.loop-letter-init
loop-letter-init c = answers-none (length c.args.answers.now) (c.fill.ensures.after (λ y e. e))

pub loop-letter-preserved-then-rank-highest : goal.loop-letter-preserved-then-rank-highest
loop-letter-preserved-then-rank-highest c =
    let loop = c.loop-letter in
    let is_letter : loop.letter - 1 < length c.args.row.now = omega (arith, loop.auto.letter, c.loop-letter-test.true) in
    answers-store (omega (arith, c.requires.1.below (loop.letter - 1) (omega (arith, c.requires.0, is_letter)), loop.auto.answers, c.fill.auto.self))
    (record { is_letter = is_letter; has_choice = refl; ranked = λ z. c.if-rank-ne0.true (c.number_at-rank.ensures ∙ z); low = rw (← c.number_at-rank.ensures) c.if-rank-highest.true }) loop.invariant

pub loop-letter-preserved : goal.loop-letter-preserved
loop-letter-preserved c = elim c.else-rank-ne0.branch [
  | else-rank-ne0-via-then-rank-ne0+else-rank-highest w ↦ answers_skip (λ k x. omega (arith, x.low, c.number_at-rank.ensures, w.if-rank-highest.false)) c.loop-letter.invariant
  | else-rank-ne0-via-else-rank-ne0 w ↦ answers_skip (λ k x. x.ranked (sym c.number_at-rank.ensures ∙ w.if-rank-ne0.false)) c.loop-letter.invariant
]

pub returns : goal.returns
returns c = answers-all (omega arith) c.loop-letter.invariant
