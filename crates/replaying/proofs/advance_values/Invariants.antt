-- `replaying::advance_values` meets its contract: before each turn the bytes so far are played, and what they print stands at the front of the lent
-- bytes; a turn plays one line, or its bytes to the end of the chunk (Lines). The first turn finds room, so that a byte is played.
use Prim.Native.Nat.{ℕ, ◌-◌, ◌<◌}
use mathlib.Core.Path.{◌≡◌}
use mathlib.Core.Logic.{◌⊎◌}
use mathlib.Core.List.{List}
use lib.ListN.{length}
use Rattle.replaying.specs.Machine.{played_sheet, advanced_to, values_replay, PlaysChunk}
use Rattle.replaying.proofs.advance_values.Given as goal

abbrev pub invariant-loop-at : goal.invariant-loop-at
invariant-loop-at l = ((ns ls : List ℕ) → PlaysChunk (played_sheet ns ls l.lows l.highs l.entries) (values_replay l.initial.begun l.names l.initial.line l.initial.number l.initial.state) l.chunk l.from l.initial.out l.out (advanced_to (values_replay l.begun l.names l.line l.number l.state) l.at l.size))
    × ((l.from < l.at) ⊎ (l.size ≡ 0))

abbrev pub decreases-loop-at : goal.decreases-loop-at
decreases-loop-at l = length l.chunk - l.at
