-- `letters::fill_letters` meets its contract, letter after letter. The loop's invariant: the letters before the number are written, and the next one's
-- place is behind them. From the laws of all letters (AllLetters).
use Prim.Native.Nat.{◌*◌}
use mathlib.Core.Path.{◌≡◌}
use lib.ListN.{length}
use Rattle.letters.proofs.AllLetters.{filled}
use Rattle.letters.proofs.fill_letters.Given as goal

abbrev pub invariant-loop-number : goal.invariant-loop-number
invariant-loop-number l = (length l.out ≡ length l.initial.out) × (l.at ≡ l.number * l.n) × (l.out ≡ filled l.lows l.highs l.initial.out l.number)
