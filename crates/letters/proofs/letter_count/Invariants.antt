-- `letters::letter_count` meets its contract, from the last stream to the first. The loop's invariant: the count is that of the streams from i on, cut.
use mathlib.Core.Path.{◌≡◌}
use Rattle.letters.specs.Described.{cut_count}
use Rattle.letters.proofs.Counts.{count_from}
use Rattle.letters.proofs.letter_count.Given as goal

abbrev pub invariant-loop-i : goal.invariant-loop-i
invariant-loop-i l = l.count ≡ cut_count (count_from l.lows l.highs l.i)
