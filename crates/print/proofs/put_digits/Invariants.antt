-- `print::put_digits` meets its contract: after each turn, storing the digits of what is left gives the whole.
use Prim.Native.Nat.{suc, ◌+◌, ◌≤◌}
use mathlib.Core.Path.{◌≡◌}
use lib.ListN.{length}
use lib.Seq.{sets}
use Rattle.print.specs.Text.{digits}
use Rattle.print.proofs.put_digits.Given as goal

abbrev pub invariant-loop-rest : goal.invariant-loop-rest
invariant-loop-rest l = (suc l.to ≡ l.at + length (digits l.rest)) × (suc l.to ≤ length l.out) × (length l.out ≡ length l.initial.out) × (sets l.out l.at (digits l.rest) ≡ sets l.initial.out l.at (digits l.value))

abbrev pub decreases-loop-rest : goal.decreases-loop-rest
decreases-loop-rest l = l.rest
