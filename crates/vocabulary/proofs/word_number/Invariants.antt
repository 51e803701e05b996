-- `vocabulary::word_number` meets its contract: the number is that of the bytes from the loop's place on.
use Prim.Native.Nat.{◌≤◌}
use mathlib.Core.Path.{◌≡◌}
use lib.ListN.{length, drop}
use Rattle.vocabulary.specs.Word.{word_number}
use Rattle.vocabulary.proofs.word_number.Given as goal

abbrev pub invariant-loop-i : goal.invariant-loop-i
invariant-loop-i l = (l.i ≤ length l.token) × (l.number ≡ word_number (drop l.i l.token))
