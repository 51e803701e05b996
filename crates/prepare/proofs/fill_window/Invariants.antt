-- `prepare::fill_window` meets its contract: before each turn the window has the values of the letters passed, and behind them what it had.
use Prim.Native.Nat.{◌*◌}
use mathlib.Core.Path.{◌≡◌}
use lib.ListN.{length, take, drop}
use Rattle.prepare.specs.Prepared.{window_of}
use Rattle.prepare.proofs.fill_window.Given as goal

abbrev pub invariant-loop-letter : goal.invariant-loop-letter
invariant-loop-letter l = (l.at ≡ l.letter-index * l.streams) × (take l.at l.window ≡ window_of l.streams l.letter_values (take l.letter-index l.letters)) × (length l.window ≡ length l.initial.window) × (drop l.at l.window ≡ drop l.at l.initial.window)
