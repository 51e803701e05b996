-- `letters::letter_number` meets its contract, from the first stream to the last. The loop's invariant is `Counted`: the values before i are in
-- their ranges, and the number so far counts the letters of the streams before i. Its products and sums fit 32 bits by the law for any width (Widths).
use Rattle.letters.proofs.Numbers.{Counted}
use Rattle.letters.proofs.letter_number.Given as goal

abbrev pub invariant-loop-i : goal.invariant-loop-i
invariant-loop-i l = Counted l.lows l.highs l.letter l.i l.number
