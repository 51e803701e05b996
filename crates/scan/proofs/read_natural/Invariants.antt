-- `scan::read_natural` meets its contract: the bytes before the loop's place are digits, and the value is the cut of what they write.
use Prim.Native.Nat.{◌≤◌}
use mathlib.Core.Path.{◌≡◌}
use lib.ListN.{length, drop}
use Rattle.text.specs.Token.{all_bytes, is_digit, natural_from}
use Rattle.scan.specs.Integer.{cut}
use Rattle.scan.proofs.read_natural.Given as goal

abbrev pub invariant-loop-byte : goal.invariant-loop-byte
invariant-loop-byte l = (l.byte-index ≤ length l.digits) × (l.value ≤ 1000000001) × (all_bytes is_digit l.digits ≡ all_bytes is_digit (drop l.byte-index l.digits)) × (cut (natural_from 0 l.digits) ≡ cut (natural_from l.value (drop l.byte-index l.digits)))
