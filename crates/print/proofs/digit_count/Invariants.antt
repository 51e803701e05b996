-- `print::digit_count` meets its contract: a number from 1000 on has three digits more than its thousandth.
use Prim.Native.Nat.{◌+◌, ◌≤◌}
use mathlib.Core.Path.{◌≡◌}
use lib.ListN.{length}
use Rattle.print.specs.Text.{digits}
use Rattle.print.proofs.digit_count.Given as goal

abbrev pub invariant-loop-rest : goal.invariant-loop-rest
invariant-loop-rest l = (l.count + length (digits l.rest) ≡ length (digits l.value) + 1) × (length (digits l.value) ≤ 20)

abbrev pub decreases-loop-rest : goal.decreases-loop-rest
decreases-loop-rest l = l.rest
