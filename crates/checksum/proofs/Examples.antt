-- Worked values: the check value that is published with CRC-32, and the checksum of no bytes. By computation.
use mathlib.Core.Path.{◌≡◌, refl}
use mathlib.Core.List.{[], ◌∷◌}
use Rattle.checksum.specs.Checksum.{after_bits, after_bytes, checksum_of}

-- The bytes of `123456789` have the checksum 0xCBF43926.
digits-checksum : checksum_of (49 ∷ 50 ∷ 51 ∷ 52 ∷ 53 ∷ 54 ∷ 55 ∷ 56 ∷ 57 ∷ []) ≡ 3421780262
unfolding after_bits after_bytes
digits-checksum = refl

nothing-checksum : checksum_of [] ≡ 0
unfolding after_bytes
nothing-checksum = refl
