-- The bytes of a table's entries: how many there are, that they are bytes, and that each entry is read back.
-- From the laws of one number's bytes (`Bytes`, `Number`), for every width.
use Prim.Native.Nat.{ℕ, zero, suc, ◌+◌, ◌*◌, ◌<◌}
use mathlib.Core.Path.{◌≡◌, refl, sym, ap, ap₂, ◌∙◌}
use mathlib.Core.List.{List, [], ◌∷◌, ◌++◌, append_assoc}
use native.Mathlib.Nat.{zero-mul, suc-mul, add_comm, zero-add, le_of_suc-le-suc, not-suc-le-zero}
use native.Mathlib.Omega.{arith}
use lib.Dec.{lit<}
use lib.ListN.{length, get_or, length-append, get_or-append}
use lib.Seq.{ext_get_or, get_or-append-add}
use Rattle.stored.specs.Number.{AreBytes, FitsIn, number_at, bytes_of_number, table_bytes}
use Rattle.stored.proofs.Bytes.{length-bytes_of_number, bytes_of_number-bytes}
use Rattle.stored.proofs.Number.{number_at-append, number_at-front, number_at-bytes_of_number}

-- each entry takes as many bytes as the width
pub length-table_bytes : (width : ℕ) (entries : List ℕ) → length (table_bytes width entries) ≡ length entries * width
unfolding table_bytes
length-table_bytes width [] = sym (zero-mul width)
length-table_bytes width (entry ∷ entries) =
    length-append (bytes_of_number width entry) (table_bytes width entries)
    ∙ ap₂ ◌+◌ (length-bytes_of_number width entry) (length-table_bytes width entries)
    ∙ add_comm width (length entries * width) ∙ sym (suc-mul (length entries) width)

-- the place of entry i + 1 is the width of entry 0 and the place of entry i
place-suc : (width i : ℕ) (entry : ℕ) → suc i * width ≡ length (bytes_of_number width entry) + i * width
place-suc width i entry = suc-mul i width ∙ add_comm (i * width) width ∙ ap (λ (n : ℕ). n + i * width) (sym (length-bytes_of_number width entry))

-- an entry that fits its width is read back from the bytes of the table
pub number_at-table_bytes : (width : ℕ) (entries : List ℕ) (i : ℕ) → i < length entries → FitsIn width (get_or entries i 0)
    → number_at width (table_bytes width entries) (i * width) ≡ get_or entries i 0
unfolding table_bytes
number_at-table_bytes width [] i inside fits = absurd (not-suc-le-zero inside)
number_at-table_bytes width (entry ∷ entries) zero inside fits =
    ap (number_at width (bytes_of_number width entry ++ table_bytes width entries)) (zero-mul width)
    ∙ number_at-front width (bytes_of_number width entry) (table_bytes width entries) 0 (omega (arith, length-bytes_of_number width entry))
    ∙ number_at-bytes_of_number width entry fits
number_at-table_bytes width (entry ∷ entries) (suc i) inside fits =
    ap (number_at width (bytes_of_number width entry ++ table_bytes width entries)) (place-suc width i entry)
    ∙ number_at-append width (bytes_of_number width entry) (table_bytes width entries) (i * width)
    ∙ number_at-table_bytes width entries i (le_of_suc-le-suc inside) fits

-- byte j of entry i stands at i * width + j
pub get_or-table_bytes : (width : ℕ) (entries : List ℕ) (i j : ℕ) → i < length entries → j < width
    → get_or (table_bytes width entries) (i * width + j) 0 ≡ get_or (bytes_of_number width (get_or entries i 0)) j 0
unfolding table_bytes
get_or-table_bytes width [] i j inside within = absurd (not-suc-le-zero inside)
get_or-table_bytes width (entry ∷ entries) zero j inside within =
    ap (λ (at : ℕ). get_or (bytes_of_number width entry ++ table_bytes width entries) at 0) (ap (λ (n : ℕ). n + j) (zero-mul width) ∙ zero-add j)
    ∙ get_or-append (bytes_of_number width entry) (table_bytes width entries) 0 j (omega (arith, length-bytes_of_number width entry))
get_or-table_bytes width (entry ∷ entries) (suc i) j inside within =
    ap (λ (at : ℕ). get_or (bytes_of_number width entry ++ table_bytes width entries) at 0) (omega (arith, place-suc width i entry))
    ∙ get_or-append-add (bytes_of_number width entry) (table_bytes width entries) (i * width + j) 0
    ∙ get_or-table_bytes width entries i j (le_of_suc-le-suc inside) within

-- the bytes of a table are bytes
pub table_bytes-bytes : (width : ℕ) (entries : List ℕ) → AreBytes (table_bytes width entries)
unfolding table_bytes
table_bytes-bytes width [] = λ i. lit< tt
table_bytes-bytes width (entry ∷ entries) = append-bytes (bytes_of_number width entry) (table_bytes width entries) (bytes_of_number-bytes width entry) (table_bytes-bytes width entries)
  where
    append-bytes : (front bytes : List ℕ) → AreBytes front → AreBytes bytes → AreBytes (front ++ bytes)
    append-bytes [] bytes front-are are i = are i
    append-bytes (b ∷ front) bytes front-are are zero = front-are 0
    append-bytes (b ∷ front) bytes front-are are (suc i) = append-bytes front bytes (λ j. front-are (suc j)) are i

-- the bytes of two tables, one after the other, are the bytes of their entries, one after the other
pub table_bytes-append : (width : ℕ) (entries entries' : List ℕ) → table_bytes width (entries ++ entries') ≡ table_bytes width entries ++ table_bytes width entries'
unfolding table_bytes
table_bytes-append width [] entries' = refl
table_bytes-append width (entry ∷ entries) entries' =
    ap (λ (bytes : List ℕ). bytes_of_number width entry ++ bytes) (table_bytes-append width entries entries')
    ∙ sym (append_assoc (bytes_of_number width entry) (table_bytes width entries) (table_bytes width entries'))

-- tables of as many entries, all of which fit, differ in a byte if they differ in an entry
pub table_bytes_injective : (width : ℕ) (entries entries' : List ℕ) → length entries ≡ length entries'
    → ((i : ℕ) → i < length entries → FitsIn width (get_or entries i 0)) → ((i : ℕ) → i < length entries' → FitsIn width (get_or entries' i 0))
    → table_bytes width entries ≡ table_bytes width entries' → entries ≡ entries'
table_bytes_injective width entries entries' lengths fits fits' same =
    ext_get_or 0 entries entries' lengths
    (λ i inside.
    let inside' : i < length entries' = omega arith in
    sym (number_at-table_bytes width entries i inside (fits i inside))
    ∙ ap (λ (bytes : List ℕ). number_at width bytes (i * width)) same
    ∙ number_at-table_bytes width entries' i inside' (fits' i inside'))
