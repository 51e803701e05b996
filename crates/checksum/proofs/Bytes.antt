-- The register after one byte more of a list. From the definition.
use Prim.Native.Nat.{ℕ, zero, suc, ◌+◌, ◌<◌}
use native.Mathlib.Numerals.{add-one}
use native.Mathlib.Omega.{arith}
use mathlib.Core.Path.{◌≡◌, refl}
use mathlib.Core.List.{List, [], ◌∷◌}
use lib.ListN.{length, get_or, take}
use Rattle.checksum.specs.Checksum.{after_byte, after_bytes}

pub one_byte_more : (register : ℕ) (bytes : List ℕ) (i : ℕ) → i < length bytes → after_bytes register (take (i + 1) bytes) ≡ after_byte (after_bytes register (take i bytes)) (get_or bytes i 0)
unfolding after_bytes
one_byte_more register [] i h = absurd (omega arith)
one_byte_more register (byte ∷ bytes) zero h = refl
one_byte_more register (byte ∷ bytes) (suc i) h = rw add-one (rw add-one at (one_byte_more (after_byte register byte) bytes i (omega arith)))
