-- `letters::write_letter` meets its contract, from the last stream to the first. The loop's invariant: the values of the streams from i on are
-- written, and the rest is the quotient of the number by their count.
use Prim.Native.Nat.{◌/◌}
use mathlib.Core.Path.{◌≡◌}
use lib.ListN.{length}
use Rattle.letters.proofs.Counts.{count_from}
use Rattle.letters.proofs.Numbers.{written}
use Rattle.letters.proofs.write_letter.Given as goal

abbrev pub invariant-loop-i : goal.invariant-loop-i
invariant-loop-i l = (length l.out ≡ length l.initial.out) × (l.out ≡ written l.lows l.highs l.number l.initial.out l.i) × (l.rest ≡ l.number / count_from l.lows l.highs l.i)
