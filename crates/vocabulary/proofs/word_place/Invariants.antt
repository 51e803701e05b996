-- `vocabulary::word_place` meets its contract: the places before the loop's hold other numbers, so that the rest decides.
use Prim.Native.Nat.{◌+◌, ◌≤◌}
use mathlib.Core.Path.{◌≡◌}
use lib.ListN.{length, drop}
use Rattle.vocabulary.specs.Word.{word_place}
use Rattle.vocabulary.proofs.word_place.Given as goal

abbrev pub invariant-loop-i : goal.invariant-loop-i
invariant-loop-i l = (l.i ≤ length l.words) × (word_place l.words l.number ≡ l.i + word_place (drop l.i l.words) l.number)
