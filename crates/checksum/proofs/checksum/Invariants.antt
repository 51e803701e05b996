-- `checksum::checksum` meets its contract: the register has taken the bytes before `byte`.
use Rattle.std.proofs.Common.{◌≡◌, take}
use Rattle.checksum.specs.Checksum.{all_ones, after_bytes}
use Rattle.checksum.proofs.checksum.Given as goal

abbrev pub invariant-loop-byte : goal.invariant-loop-byte
invariant-loop-byte l = l.register ≡ after_bytes all_ones (take l.byte-index l.text)
