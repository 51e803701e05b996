-- `winning_rows::answer_row` meets its contract: the answers are the first ones among the letters from `letter` on.
use Rattle.winning_rows.specs.Answers.{AreAnswers}
use Rattle.winning_rows.proofs.answer_row.Given as goal

abbrev pub invariant-loop-letter : goal.invariant-loop-letter
invariant-loop-letter l = AreAnswers l.row l.choice l.ranks l.highest l.letter l.answers
