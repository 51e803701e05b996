-- Numbers stored as bytes, the low byte first. How many bytes a number takes, its width, is a parameter everywhere.
-- Document 01's table is the case of width 2: "two bytes an entry, low first".
use Rattle.std.specs.Prelude.{ℕ, zero, suc, ◌+◌, ◌*◌, ◌/◌, ◌%◌, ◌<◌, ◌^◌, List, [], ◌∷◌, ◌++◌, get_or}

-- how many values a byte has
abbrev pub byte_values : ℕ
byte_values = 256

-- every element of the list is a byte
abbrev pub AreBytes : List ℕ → Type 0
AreBytes bytes = (i : ℕ) → get_or bytes i 0 < byte_values

-- "low first": the number whose bytes are the `width` bytes from `place` on. Beyond the list each byte is 0.
unfoldable pub number_at : ℕ → List ℕ → ℕ → ℕ
number_at zero bytes place = 0
number_at (suc width) bytes place = get_or bytes place 0 + byte_values * number_at width bytes (place + 1)

-- the `width` bytes of a number, low first
unfoldable pub bytes_of_number : ℕ → ℕ → List ℕ
bytes_of_number zero n = []
bytes_of_number (suc width) n = n % byte_values ∷ bytes_of_number width (n / byte_values)

-- n is a number that `width` bytes can hold
abbrev pub FitsIn : ℕ → ℕ → Type 0
FitsIn width n = n < byte_values ^ width

-- the bytes of all entries of a table, entry after entry
unfoldable pub table_bytes : ℕ → List ℕ → List ℕ
table_bytes width [] = []
table_bytes width (entry ∷ entries) = bytes_of_number width entry ++ table_bytes width entries
