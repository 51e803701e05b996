-- What the line with the sheet's names is (document 02, S-1: "the sheet's names in its order, then lines of values, with lines, tokens and integers as in
-- a sheet").
use Rattle.std.specs.Prelude.{ℕ, Bool, true, false, ◌&&◌, List, [], ◌∷◌, leb}
use Rattle.text.specs.Bytes.{Token, tokens}
use Rattle.text.specs.Token.{all_bytes, same_bytes}

-- A byte of a line that is not "a byte refusal 1 bars".
abbrev pub is_plain : ℕ → Bool
is_plain b = leb 32 b && leb b 126

abbrev pub same_tokens : List Token → List Token → Bool
same_tokens [] [] = true
same_tokens [] (n ∷ ns) = false
same_tokens (t ∷ ts) [] = false
same_tokens (t ∷ ts) (n ∷ ns) = same_bytes t n && same_tokens ts ns

-- "13, names that differ [..] (a byte refusal 1 bars makes either so)": the line has these names and no barred byte.
unfoldable pub is_names_line : List Token → List ℕ → Bool
is_names_line names l = all_bytes is_plain l && same_tokens (tokens l) names
