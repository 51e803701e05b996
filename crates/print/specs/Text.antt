-- The lines that `sluice` prints (document 01, "Sheets with their answers", P1 and P2; "All text is in decimal").
use Rattle.std.specs.Prelude.{ℕ, zero, suc, ◌+◌, ◌/◌, ◌%◌, cond, List, [], ◌∷◌, ◌++◌, map, ltb, ℤ, pos, negsuc}
use Rattle.text.specs.Bytes.{Token, bytes_of}

-- The digits of a number below 10 to the power of the count, the digits of its tenth first.
unfoldable pub digits_within : ℕ → ℕ → List ℕ
digits_within zero n = []
digits_within (suc count) n = cond (ltb n 10) ((48 + n) ∷ []) (digits_within count (n / 10) ++ ((48 + n % 10) ∷ []))

-- A number has fewer digits than itself and one more.
abbrev pub digits : ℕ → List ℕ
digits n = digits_within (suc n) n

-- An integer in decimal: digits, with `-` before them where it is below 0.
abbrev pub decimal : ℤ → Token
decimal (pos n) = digits n
decimal (negsuc n) = 45 ∷ digits (suc n)

-- Each token with a space after it.
abbrev pub spaced : List Token → List ℕ
spaced [] = []
spaced (t ∷ ts) = t ++ (32 ∷ spaced ts)

-- A line: tokens and a last one, parted by single spaces, and byte 10.
abbrev pub line : List Token → Token → List ℕ
line ts last = spaced ts ++ (last ++ (10 ∷ []))

-- A line of any tokens, parted by single spaces, and byte 10.
abbrev pub tokens_line : List Token → List ℕ
tokens_line [] = 10 ∷ []
tokens_line (t ∷ []) = t ++ (10 ∷ [])
tokens_line (t ∷ (u ∷ ts)) = t ++ (32 ∷ tokens_line (u ∷ ts))

-- "a heading with the names"
abbrev pub heading_line : List Token → List ℕ
heading_line names = line (bytes_of "state" ∷ bytes_of "final" ∷ names) (bytes_of "next")

-- "state, final (1 or 0), the letter's values, next state"
abbrev pub entry_line : ℕ → ℕ → List ℤ → ℕ → List ℕ
entry_line state final values next = line (decimal (pos state) ∷ decimal (pos final) ∷ map decimal values) (decimal (pos next))

-- "printed as the one line `refused 9`"
abbrev pub refusal_line : ℕ → List ℕ
refusal_line number = line (bytes_of "refused" ∷ []) (decimal (pos number))
