-- `choices::choice_of` meets its contract. The loop's invariant: the digits of the streams from i on are taken.
use Rattle.choices.proofs.Digits.{DigitsTaken}
use Rattle.choices.proofs.choice_of.Given as goal

abbrev pub invariant-loop-i : goal.invariant-loop-i
invariant-loop-i l = DigitsTaken l.streams l.letter l.i l.rest l.number l.count
