-- The tokens of a line by their numbers: where each stands in a text that is a part of the line, and what is left to read from it on.
use Rattle.std.specs.Prelude.{ℕ, ◌+◌, ◌-◌, ◌≤◌, ◌<◌, ◌≡◌, cond, List, [], ◌∷◌, ltb, length, drop, get_or}
use Rattle.text.specs.Bytes.{Token, tokens}
use Rattle.scan.specs.Place.{between}
use Rattle.parse.specs.declared.NumberedToken.{NumberedToken}

-- The place of the token with the number k in a text that begins at the place `origin` of the line, where `starts` holds the starts of the
-- line's tokens. After the last token it is the text's end.
abbrev pub place_in : List ℕ → ℕ → List ℕ → ℕ → ℕ
place_in text origin starts k = cond (ltb k (length starts)) (get_or starts k 0 - origin) (length text)

-- The text's tokens from the one with the number k on.
unfoldable pub tokens_from : List ℕ → ℕ → List ℕ → ℕ → List Token
tokens_from text origin starts k = tokens (drop (place_in text origin starts k) text)

-- The starts from the number `at` on are those of tokens of the text that stand one after the other, and of tokens after the text. The line is
-- short enough for its places to fit the machine.
pub record Placed (text : List ℕ) (origin : ℕ) (starts : List ℕ) (at : ℕ) : Type 0 where
  pub short : origin + length text < 9223372036854775808
  pub within : (k : ℕ) → at ≤ k → k < length starts → origin ≤ get_or starts k 0
  pub follows : (k : ℕ) → at ≤ k → tokens_from text origin starts (k + 1) ≡ drop 1 (tokens_from text origin starts k)

-- The token with the number `at`, where `rest` gives the tokens from a number on; start and end are the text's length where there is none.
pub data TokenNumbered (text : List ℕ) (rest : ℕ → List Token) (at : ℕ) (r : NumberedToken) : Type 0 where
  nothing_left : r.start ≡ length text → r.end ≡ length text → rest at ≡ [] → TokenNumbered text rest at r
  numbered : r.start < r.end → r.end ≤ length text → r.next ≡ at + 1 → rest at ≡ between text r.start r.end ∷ rest r.next
      → rest r.next ≡ tokens (drop r.end text) → TokenNumbered text rest at r
