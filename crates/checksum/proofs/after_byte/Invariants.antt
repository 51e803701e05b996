-- `checksum::after_byte` meets its contract: before each turn the register has taken so many bits.
use Rattle.std.proofs.Common.{◌≡◌}
use lib.Bits.{bit_xor}
use Rattle.checksum.specs.Checksum.{after_bits}
use Rattle.checksum.proofs.after_byte.Given as goal

abbrev pub invariant-loop : goal.invariant-loop
invariant-loop l = l.rest ≡ after_bits l.counter (bit_xor l.register l.byte)
