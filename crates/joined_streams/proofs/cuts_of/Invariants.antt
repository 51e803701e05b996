-- `cuts_of` meets its contract: before each turn the cuts of the letters before it are listed, and behind them the list is 0.
use Prim.Native.Nat.{ℕ, ◌≤◌, ◌<◌}
use mathlib.Core.Path.{◌≡◌}
use lib.ListN.{length, get_or}
use Rattle.streams.specs.Description.{description_of}
use Rattle.joined_streams.specs.Joined.{cut_number}
use Rattle.joined_streams.proofs.cuts_of.Given as goal

abbrev pub invariant-loop-letter : goal.invariant-loop-letter
invariant-loop-letter l = (length l.cuts ≡ 1024) × ((a : ℕ) → a < l.letter → get_or l.cuts a 0 ≡ cut_number (description_of l.joined) (description_of l.own) a) × ((a : ℕ) → l.letter ≤ a → get_or l.cuts a 0 ≡ 0)
