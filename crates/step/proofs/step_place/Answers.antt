-- `step::step_place` meets its contract: an answer below 65,536 is no refusal, and any other is one. From `Answers`.
use Rattle.step.specs.RunningPlace.PlaceAfter.{unchanged}
use Rattle.step.proofs.Answers.{answer-moves, answer-refused, place-changed}
use Rattle.step.proofs.step_place.Goals as goal

pub returns-then-answer-lt-REFUSED : goal.returns-then-answer-lt-REFUSED
returns-then-answer-lt-REFUSED c =
    record {
      answers = c.step-answer.ensures;
      place = place-changed (answer-moves c.step-answer.ensures c.if-answer-lt-REFUSED.true) c.moved.ensures.0 c.moved.ensures.1;
    }

pub returns-else-answer-lt-REFUSED : goal.returns-else-answer-lt-REFUSED
returns-else-answer-lt-REFUSED c =
    record {
      answers = c.step-answer.ensures;
      place = unchanged (answer-refused c.step-answer.ensures c.if-answer-lt-REFUSED.false);
    }
