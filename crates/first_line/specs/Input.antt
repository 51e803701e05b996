-- An input with a line before a sheet (document 02, S-13: "the one given on a line before the sheet"), and the number that the line holds.
use Rattle.std.specs.Prelude.{ℕ, cond, List, [], ◌∷◌, eqb}
use Rattle.std.proofs.Math.Option.{Option, none, some}
use Rattle.text.specs.Bytes.{Token, tokens}
use Rattle.text.specs.Token.{all_bytes, is_natural, natural_from}
use Rattle.record_names.specs.Line.{is_plain}

-- "Lines end with byte 10": the bytes before the first byte 10, and those behind it.
unfoldable pub line_before : List ℕ → List ℕ
line_before [] = []
line_before (b ∷ bs) = cond (eqb b 10) [] (b ∷ line_before bs)

unfoldable pub text_behind : List ℕ → List ℕ
text_behind [] = []
text_behind (b ∷ bs) = cond (eqb b 10) bs (text_behind bs)

-- The number that a token writes, where the line has this one token. "An integer is digits with an optional `-` before them [..], and `-0` is no integer": an
-- integer from 0 up is one without `-`.
abbrev pub one_natural : List Token → Option ℕ
one_natural [] = none
one_natural (t ∷ []) = cond (is_natural t) (some (natural_from 0 t)) none
one_natural (t ∷ (u ∷ ts)) = none

-- The integer from 0 up that is the line; none for any other line, and for one with a byte that refusal 1 bars.
unfoldable pub number_in : List ℕ → Option ℕ
number_in l = cond (all_bytes is_plain l) (one_natural (tokens l)) none
