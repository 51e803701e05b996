-- A number that stands in a list of bytes: its bound, what it depends on, and that it is read back as it was written.
-- From the definitions of `number_at` and `bytes_of_number` alone, for every width.
use Prim.Native.Nat.{ℕ, zero, suc, ◌+◌, ◌*◌, ◌/◌, ◌%◌, ◌<◌, ◌≤◌, ◌^◌}
use mathlib.Core.Path.{◌≡◌, refl, sym, ap, ap₂, ◌∙◌}
use mathlib.Core.List.{List, [], ◌∷◌, ◌++◌}
use native.Mathlib.Nat.{pow-succ', div-lt_iff_lt-mul, mod-add-div, add-zero, add_assoc, mul-le-mul_left, mul_comm}
use native.Mathlib.Numerals.{add-one}
use native.Mathlib.Omega.{arith}
use lib.Arith.{digits_div, digits_mod, lt-one}
use lib.Dec.{lit<}
use lib.ListN.{length, get_or, take, drop, get_or-append}
use lib.Seq.{drop-cons, get_or-append-add}
use Rattle.stored.specs.Number.{byte_values, AreBytes, FitsIn, number_at, bytes_of_number}

-- a number read from bytes fits its width
pub number_at-fits : (width : ℕ) (bytes : List ℕ) (place : ℕ) → AreBytes bytes → FitsIn width (number_at width bytes place)
unfolding number_at
number_at-fits zero bytes place are = lit< tt
number_at-fits (suc width) bytes place are =
    let low : get_or bytes place 0 < byte_values = are place in
    let rest : suc (number_at width bytes (place + 1)) ≤ byte_values ^ width = number_at-fits width bytes (place + 1) are in
    let scaled : byte_values * suc (number_at width bytes (place + 1)) ≤ byte_values * byte_values ^ width = mul-le-mul_left byte_values rest in
    rw (pow-succ' byte_values width) (omega arith)

-- it depends on its own bytes alone
pub number_at-same : (width : ℕ) (bytes bytes' : List ℕ) (place place' : ℕ)
    → ((i : ℕ) → i < width → get_or bytes (place + i) 0 ≡ get_or bytes' (place' + i) 0)
    → number_at width bytes place ≡ number_at width bytes' place'
unfolding number_at
number_at-same zero bytes bytes' place place' same = refl
number_at-same (suc width) bytes bytes' place place' same =
    ap₂ (λ (low rest : ℕ). low + byte_values * rest) first (number_at-same width bytes bytes' (place + 1) (place' + 1) later)
  where
    first : get_or bytes place 0 ≡ get_or bytes' place' 0
    first = simp add-zero at (same 0 (omega arith))

    later : (i : ℕ) → i < width → get_or bytes (place + 1 + i) 0 ≡ get_or bytes' (place' + 1 + i) 0
    later i h =
        let here : place + 1 + i ≡ place + suc i = omega arith in
        let there : place' + 1 + i ≡ place' + suc i = omega arith in
        rw (here, there) (same (suc i) (omega arith))

-- bytes in front of a list move a number by as many places
pub number_at-append : (width : ℕ) (front bytes : List ℕ) (place : ℕ) → number_at width (front ++ bytes) (length front + place) ≡ number_at width bytes place
number_at-append width front bytes place =
    number_at-same width (front ++ bytes) bytes (length front + place) place
    (λ i h. ap (λ (at : ℕ). get_or (front ++ bytes) at 0) (add_assoc (length front) place i) ∙ get_or-append-add front bytes (place + i) 0)

-- bytes behind a number do not change it
pub number_at-front : (width : ℕ) (bytes behind : List ℕ) (place : ℕ) → place + width ≤ length bytes → number_at width (bytes ++ behind) place ≡ number_at width bytes place
number_at-front width bytes behind place within =
    number_at-same width (bytes ++ behind) bytes place place (λ i h. get_or-append bytes behind 0 (place + i) (omega arith))

-- a number that fits its width is read back from its bytes
pub number_at-bytes_of_number : (width n : ℕ) → FitsIn width n → number_at width (bytes_of_number width n) 0 ≡ n
unfolding number_at bytes_of_number
number_at-bytes_of_number zero n fits = sym (lt-one fits)
number_at-bytes_of_number (suc width) n fits =
    ap (λ (rest : ℕ). n % byte_values + byte_values * rest) (behind ∙ number_at-bytes_of_number width (n / byte_values) high_fits)
    ∙ mod-add-div n byte_values
  where
    behind : number_at width (n % byte_values ∷ bytes_of_number width (n / byte_values)) (0 + 1) ≡ number_at width (bytes_of_number width (n / byte_values)) 0
    behind = number_at-append width (n % byte_values ∷ []) (bytes_of_number width (n / byte_values)) 0

    high_fits : FitsIn width (n / byte_values)
    high_fits = (div-lt_iff_lt-mul (lit< tt)).1 (rw (← mul_comm byte_values (byte_values ^ width), ← pow-succ' byte_values width) fits)

-- and the bytes of a number that was read are the bytes that stand there
pub bytes_of_number-number_at : (width : ℕ) (bytes : List ℕ) (place : ℕ) → AreBytes bytes → place + width ≤ length bytes
    → bytes_of_number width (number_at width bytes place) ≡ take width (drop place bytes)
unfolding number_at bytes_of_number
bytes_of_number-number_at zero bytes place are within = refl
bytes_of_number-number_at (suc width) bytes place are within =
    ap₂ (λ (first : ℕ) (rest : List ℕ). first ∷ rest) low_byte
    (ap (bytes_of_number width) high_part
    ∙ bytes_of_number-number_at width bytes (place + 1) are (omega arith)
    ∙ ap (λ (from : ℕ). take width (drop from bytes)) (add-one place))
    ∙ ap (take (suc width)) (sym (drop-cons bytes place 0 (omega arith)))
  where
    low : ℕ
    low = get_or bytes place 0

    high : ℕ
    high = number_at width bytes (place + 1)

    turned : low + byte_values * high ≡ high * byte_values + low
    turned = rw (mul_comm byte_values high) (omega arith)

    low_byte : (low + byte_values * high) % byte_values ≡ low
    low_byte = ap (λ (n : ℕ). n % byte_values) turned ∙ digits_mod high (are place)

    high_part : (low + byte_values * high) / byte_values ≡ high
    high_part = ap (λ (n : ℕ). n / byte_values) turned ∙ digits_div high (are place)
