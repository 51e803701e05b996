-- Bytes, lines and tokens (document 01, "The sheet"). No bound of the sheet stands here: records are read with it too.
use Rattle.std.specs.Prelude.{ℕ, Bool, true, false, not, ◌&&◌, ◌||◌, List, [], ◌∷◌, leb, eqb}
use Prim.Native.String.{String}
use Prim.Native.Char.{code}

-- The bytes of a quoted text, so that the words of document 01 can be read here as they stand there.
abbrev pub bytes_of : String → List ℕ
bytes_of String.[] = []
bytes_of (String.◌∷◌ c s) = code c ∷ bytes_of s

-- The line before a byte 10 is one line; another byte goes to the front of the first line, or is a line of its own at the end.
abbrev pub add_to_lines : Bool → ℕ → List (List ℕ) → List (List ℕ)
add_to_lines true b ls = [] ∷ ls
add_to_lines false b [] = (b ∷ []) ∷ []
add_to_lines false b (l ∷ ls) = (b ∷ l) ∷ ls

-- "Lines end with byte 10; the last may lack it." A text without bytes has no line.
unfoldable pub lines : List ℕ → List (List ℕ)
lines [] = []
lines (b ∷ bs) = add_to_lines (eqb b 10) b (lines bs)

-- What a byte is to the tokens: a bracket, a byte of a longer token, or neither.
pub data ByteClass : Type 0 where
  bracket inside between : ByteClass

abbrev pub is_bracket : ℕ → Bool
is_bracket b = eqb b 40 || eqb b 41

-- "bytes 33 to 126 without brackets"
abbrev pub is_inside : ℕ → Bool
is_inside b = leb 33 b && leb b 126 && not (is_bracket b)

abbrev pub class_from : Bool → Bool → ByteClass
class_from true i = bracket
class_from false true = inside
class_from false false = between

abbrev pub class_of : ℕ → ByteClass
class_of b = class_from (is_bracket b) (is_inside b)

abbrev pub starts_inside : List ℕ → Bool
starts_inside [] = false
starts_inside (b ∷ bs) = is_inside b

abbrev pub Token : Type 0
Token = List ℕ

abbrev pub extend_first : ℕ → List Token → List Token
extend_first b [] = (b ∷ []) ∷ []
extend_first b (t ∷ ts) = (b ∷ t) ∷ ts

-- The tokens of a byte of this class before bytes with the tokens ts; `goes_on` says whether the next byte belongs to the same run.
abbrev pub add_to_tokens : ByteClass → Bool → ℕ → List Token → List Token
add_to_tokens bracket goes_on b ts = (b ∷ []) ∷ ts
add_to_tokens inside true b ts = extend_first b ts
add_to_tokens inside false b ts = (b ∷ []) ∷ ts
add_to_tokens between goes_on b ts = ts

-- "Tokens are brackets, each by itself, and the longest runs of bytes 33 to 126 without brackets; spaces part tokens."
unfoldable pub tokens : List ℕ → List Token
tokens [] = []
tokens (b ∷ bs) = add_to_tokens (class_of b) (starts_inside bs) b (tokens bs)
