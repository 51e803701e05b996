-- `prepare::lower_all` meets its contract: before each turn the places passed hold the numbers, lowered.
use mathlib.Core.Path.{◌≡◌}
use mathlib.Core.List.{map}
use lib.ListN.{length}
use lib.Seq.{paste}
use Rattle.prepare.specs.Key.{lowered}
use Rattle.sizes.specs.Room.{window_room}
use Rattle.prepare.proofs.lower_all.Given as goal

abbrev pub invariant-loop-i : goal.invariant-loop-i
invariant-loop-i l = (l.prepared ≡ paste l.initial.prepared window_room (map lowered l.numbers) l.i) × (length l.prepared ≡ length l.initial.prepared)
