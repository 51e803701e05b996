-- The checksum CRC-32 of a text, the one of zlib and gzip (RFC 1952, section 8): a register of 32 bits that begins with ones takes the bytes in turn, the
-- lowest bit of each first, and at the end each bit is turned into the other.
use Rattle.std.specs.Prelude.{ℕ, zero, suc, ◌/◌, ◌%◌, cond, List, [], ◌∷◌, eqb}
use Rattle.std.specs.Int.Bits.{bit_xor}

-- The polynomial 0xEDB88320, its bits from the lowest on.
abbrev pub polynomial : ℕ
polynomial = 3988292384

-- 32 ones.
abbrev pub all_ones : ℕ
all_ones = 4294967295

-- The register after one bit: the lowest bit is shifted out, and the polynomial goes in where it was a one.
abbrev pub after_bit : ℕ → ℕ
after_bit register = cond (eqb (register % 2) 1) (bit_xor (register / 2) polynomial) (register / 2)

-- The register after so many bits.
unfoldable pub after_bits : ℕ → ℕ → ℕ
after_bits zero register = register
after_bits (suc count) register = after_bit (after_bits count register)

-- The register after a byte, which goes into its lowest eight bits.
abbrev pub after_byte : ℕ → ℕ → ℕ
after_byte register byte = after_bits 8 (bit_xor register byte)

-- The register after the bytes in turn.
unfoldable pub after_bytes : ℕ → List ℕ → ℕ
after_bytes register [] = register
after_bytes register (byte ∷ bytes) = after_bytes (after_byte register byte) bytes

abbrev pub checksum_of : List ℕ → ℕ
checksum_of text = bit_xor (after_bytes all_ones text) all_ones
