-- Names, integers and reserved words (document 01, "The sheet").
use Rattle.std.specs.Prelude.{ℕ, ◌+◌, ◌-◌, ◌*◌, Bool, true, false, not, cond, ◌&&◌, ◌||◌, List, [], ◌∷◌, leb, eqb, ℤ, pos, neg_ℤ, length}
use Rattle.text.specs.Bytes.{Token, bytes_of}

abbrev pub all_bytes : (ℕ → Bool) → List ℕ → Bool
all_bytes p [] = true
all_bytes p (b ∷ bs) = p b && all_bytes p bs

abbrev pub same_bytes : List ℕ → List ℕ → Bool
same_bytes [] [] = true
same_bytes [] (c ∷ cs) = false
same_bytes (b ∷ bs) [] = false
same_bytes (b ∷ bs) (c ∷ cs) = eqb b c && same_bytes bs cs

-- "letters a to z"
abbrev pub is_lowercase : ℕ → Bool
is_lowercase b = leb 97 b && leb b 122

abbrev pub is_digit : ℕ → Bool
is_digit b = leb 48 b && leb b 57

-- "A name is 1 to 8 letters a to z."
unfoldable pub is_name : Token → Bool
is_name t = all_bytes is_lowercase t && leb 1 (length t) && leb (length t) 8

abbrev pub is_empty : List ℕ → Bool
is_empty [] = true
is_empty (b ∷ bs) = false

-- "digits [..]; a leading zero stands only in `0`"
unfoldable pub is_natural : Token → Bool
is_natural [] = false
is_natural (b ∷ bs) = is_digit b && all_bytes is_digit bs && (not (eqb b 48) || is_empty bs)

-- The number that the digits write, after a number n written before them.
unfoldable pub natural_from : ℕ → List ℕ → ℕ
natural_from n [] = n
natural_from n (b ∷ bs) = natural_from (n * 10 + (b - 48)) bs

-- "An integer is digits with an optional `-` before them; a leading zero stands only in `0`, and `-0` is no integer."
unfoldable pub is_integer : Token → Bool
is_integer [] = false
is_integer (b ∷ bs) = cond (eqb b 45) (is_natural bs && not (same_bytes bs (bytes_of "0"))) (is_natural (b ∷ bs))

-- The number that an integer writes.
unfoldable pub integer_value : Token → ℤ
integer_value [] = pos 0
integer_value (b ∷ bs) = cond (eqb b 45) (neg_ℤ (pos (natural_from 0 bs))) (pos (natural_from 0 (b ∷ bs)))

-- The token is one of these.
abbrev pub is_one_of : List Token → Token → Bool
is_one_of [] t = false
is_one_of (w ∷ ws) t = same_bytes w t || is_one_of ws t

-- "Reserved words: all operator words, `if then else first next not until`; in a constraint they are never names." Of `read` and `set` document 02
-- (S-6) says: "Both words are reserved now".
unfoldable pub reserved_words : List Token
reserved_words =
    bytes_of "lt"
    ∷ bytes_of "le"
    ∷ bytes_of "eq"
    ∷ bytes_of "ge"
    ∷ bytes_of "gt"
    ∷ bytes_of "ne"
    ∷ bytes_of "and"
    ∷ bytes_of "or"
    ∷ bytes_of "fby"
    ∷ bytes_of "if"
    ∷ bytes_of "then"
    ∷ bytes_of "else"
    ∷ bytes_of "first"
    ∷ bytes_of "next"
    ∷ bytes_of "not"
    ∷ bytes_of "until"
    ∷ bytes_of "read"
    ∷ bytes_of "set"
    ∷ []

unfoldable pub is_reserved : Token → Bool
is_reserved t = is_one_of reserved_words t
