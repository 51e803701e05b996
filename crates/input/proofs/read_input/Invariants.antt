-- Before each turn what counts as read lies within the bytes; where there may be more to read there is room for it (Reading). If no read failed, the bytes at
-- the front are those that the source had next.
use Rattle.std.proofs.Common.{◌≡◌, ◌≤◌, ◌-◌, false, true, length, take}
use Rattle.input.specs.Input.{TakesFrom}
use Rattle.input.proofs.Reading.{HasRead, left_by}
use Rattle.input.proofs.read_input.Given as goal

abbrev pub invariant-loop-more : goal.invariant-loop-more
invariant-loop-more g l =
    HasRead (length l.bytes) l.size l.failed l.more
    × (l.more ≡ true → l.failed ≡ false)
    × (l.failed ≡ false → length l.bytes ≤ 9223372036854775807 → TakesFrom g.R.Read.remaining l.initial.source l.source (take l.size l.bytes))

abbrev pub decreases-loop-more : goal.decreases-loop-more
decreases-loop-more g l = left_by l.more (length l.bytes - l.size)
