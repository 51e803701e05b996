-- The bytes of one number: how many there are, that they are bytes, and which byte stands where.
-- From the definition of `bytes_of_number` alone, for every width.
use Prim.Native.Nat.{ℕ, zero, suc, ◌/◌, ◌%◌, ◌<◌, ◌^◌}
use mathlib.Core.Path.{◌≡◌, refl, sym, ap, ◌∙◌}
use native.Mathlib.Nat.{mod-lt, div-div-eq-div-mul, div-one, pow-succ', le_of_suc-le-suc, not-suc-le-zero}
use lib.Dec.{lit<}
use lib.ListN.{length, get_or}
use Rattle.stored.specs.Number.{byte_values, AreBytes, bytes_of_number}

-- a number of a width has so many bytes
pub length-bytes_of_number : (width n : ℕ) → length (bytes_of_number width n) ≡ width
unfolding bytes_of_number
length-bytes_of_number zero n = refl
length-bytes_of_number (suc width) n = ap suc (length-bytes_of_number width (n / byte_values))

-- and each is a byte
pub bytes_of_number-bytes : (width n : ℕ) → AreBytes (bytes_of_number width n)
unfolding bytes_of_number
bytes_of_number-bytes zero n i = lit< tt
bytes_of_number-bytes (suc width) n zero = mod-lt n (lit< tt)
bytes_of_number-bytes (suc width) n (suc i) = bytes_of_number-bytes width (n / byte_values) i

-- byte i of a number is the digit of worth 256 ^ i
pub get_or-bytes_of_number : (width n i : ℕ) → i < width → get_or (bytes_of_number width n) i 0 ≡ n / byte_values ^ i % byte_values
unfolding bytes_of_number
get_or-bytes_of_number zero n i h = absurd (not-suc-le-zero h)
get_or-bytes_of_number (suc width) n zero h = rw div-one
get_or-bytes_of_number (suc width) n (suc i) h =
    get_or-bytes_of_number width (n / byte_values) i (le_of_suc-le-suc h)
    ∙ ap (λ (q : ℕ). q % byte_values) (div-div-eq-div-mul n byte_values (byte_values ^ i) ∙ ap (λ (worth : ℕ). n / worth) (sym (pow-succ' byte_values i)))
