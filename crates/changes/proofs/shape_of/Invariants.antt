-- `changes::shape_of` meets its contract: the sizes of the streams before `i` are stored.
use mathlib.Core.Path.{◌≡◌}
use Prim.Native.Nat.{ℕ, ◌≤◌, ◌<◌}
use lib.ListN.{length, get_or}
use Rattle.meaning.specs.Letter.{size}
use Rattle.letters.specs.Described.{cut_count}
use Rattle.streams.specs.Description.{range_at}
use Rattle.changes.proofs.shape_of.Given as goal

abbrev pub invariant-loop-i : goal.invariant-loop-i
invariant-loop-i l = (l.i ≤ 8) × (length l.sizes ≡ 8) × ((k : ℕ) → k < l.i → get_or l.sizes k 0 ≡ cut_count (size (range_at l.lows l.highs k)))
