-- Where the tokens of a text begin (document 01, "The sheet": "Tokens are brackets, each by itself, and the longest runs of bytes 33 to 126
-- without brackets").
use Rattle.std.specs.Prelude.{ℕ, zero, suc, Bool, false, not, cond, ◌&&◌, ◌||◌, List, [], ◌∷◌, ◌++◌, length, get_or}
use Rattle.text.specs.Bytes.{is_bracket, is_inside}

-- A byte that stands in a token.
abbrev pub is_visible : ℕ → Bool
is_visible b = is_bracket b || is_inside b

-- A token begins with a bracket, "each by itself", and with a byte of a run that stands after no other byte of the run, since runs are "the
-- longest"; `inside` says whether the byte before is inside a run.
abbrev pub begins_token : Bool → ℕ → Bool
begins_token inside b = is_bracket b || (not inside && is_inside b)

-- A byte of a run stands just before the place; before the first place stands none.
abbrev pub inside_before : List ℕ → ℕ → Bool
inside_before text zero = false
inside_before text (suc i) = is_inside (get_or text i 0)

-- A token begins at the place: a bracket stands there, or a byte of a run with none just before it.
abbrev pub token_starts_at : List ℕ → ℕ → Bool
token_starts_at text i = begins_token (inside_before text i) (get_or text i 0)

-- The places below a number at which a token begins, in rising order.
unfoldable pub token_starts_below : List ℕ → ℕ → List ℕ
token_starts_below text zero = []
token_starts_below text (suc i) = cond (token_starts_at text i) (token_starts_below text i ++ (i ∷ [])) (token_starts_below text i)

-- The places of a text at which its tokens begin, in rising order.
abbrev pub token_starts_of : List ℕ → List ℕ
token_starts_of text = token_starts_below text (length text)
