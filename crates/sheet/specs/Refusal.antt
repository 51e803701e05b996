-- Refusals 1 to 7, each a condition on the bytes that mentions no other, and the answer: the first that holds, or the sheet
-- (document 01, "Who can bring about which refusal", "Sheet bounds").
use Rattle.std.specs.Prelude.{ℕ, ◌+◌, ◌<◌, ◌≡◌, Bool, cond, false, ◌&&◌, ◌||◌, T, leb, eqb, ℤ, pos, neg_ℤ, nat_abs, length, take, ◌≤ℤ◌, ◌<ℤ◌}
use mathlib.Core.List.{List, [], ◌∷◌, Memᴰ}
use Rattle.basics.specs.Count.{NoRepeats}
use Rattle.text.specs.Bytes.{Token, tokens}
use Rattle.text.specs.Token.{is_reserved}
use Rattle.meaning.specs.Arithmetic.{Interval}
use Rattle.meaning.specs.Expression.{Expression, integer, Constraint, left_side, right_side, Stream, Sheet}
use Rattle.meaning.specs.Interval.{interval, subexpressions, SidesBelow}
use Rattle.meaning.specs.Letter.{letter_count}
use Rattle.meaning.specs.Window.{all_firsts, all_untils, B, D}
use Rattle.sheet.specs.Form.{line_tokens, constraint_lines, names_of, HasForm, layout_in}

-- "Sheet bounds: 16,384 bytes, 8 streams, 32 constraints. Over one sheet 1,024 tokens may stand in the constraint lines.
-- Magnitudes to 1,000,000,000. 1,024 letters, 8 untils, 8 firsts, D+B at most 6".
abbrev pub byte_bound : ℕ
byte_bound = 16384

abbrev pub stream_bound : ℕ
stream_bound = 8

abbrev pub constraint_bound : ℕ
constraint_bound = 32

abbrev pub token_bound : ℕ
token_bound = 1024

abbrev pub bracket_bound : ℕ
bracket_bound = 32

abbrev pub magnitude_bound : ℕ
magnitude_bound = 1000000000

abbrev pub letter_bound : ℕ
letter_bound = 1024

abbrev pub until_bound : ℕ
until_bound = 8

abbrev pub first_bound : ℕ
first_bound = 8

abbrev pub window_bound : ℕ
window_bound = 6

-- "10 and 32 to 126"
abbrev pub is_allowed : ℕ → Bool
is_allowed b = eqb b 10 || (leb 32 b && leb b 126)

-- "1: too many bytes, or a byte other than 10 and 32 to 126."
pub data Refusal1 (text : List ℕ) : Type 0 where
  too_many_bytes : byte_bound < length text → Refusal1 text
  barred_byte : {b : ℕ} → Memᴰ b text → is_allowed b ≡ false → Refusal1 text

-- How many tokens stand in the lines.
abbrev pub token_count : List (List ℕ) → ℕ
token_count [] = 0
token_count (l ∷ ls) = length (tokens l) + token_count ls

-- How often the byte stands in the text.
abbrev pub occurrences : ℕ → List ℕ → ℕ
occurrences c [] = 0
occurrences c (b ∷ bs) = cond (eqb b c) 1 0 + occurrences c bs

-- "2: over 8 tokens in line 1, 32 lines after line 3, 1,024 tokens in them, or, up to some place in one of them, more than 32 more `(` than `)`."
-- Of the line of kinds document 02 (S-6) says: "Refusal 2 does not count this line or its tokens." Line 1 is that of the names, also where a line
-- before it says the release: "lines are counted from the names as before" (S-11).
pub data Refusal2 (text : List ℕ) : Type 0 where
  too_many_streams : stream_bound < length (line_tokens text (layout_in text).names_line) → Refusal2 text
  too_many_constraints : constraint_bound < length (constraint_lines text) → Refusal2 text
  too_many_tokens : token_bound < token_count (constraint_lines text) → Refusal2 text
  too_deep : {l : List ℕ} → Memᴰ l (constraint_lines text) → (place : ℕ) → bracket_bound + occurrences 41 (take place l) < occurrences 40 (take place l) → Refusal2 text

-- "3: not of the form above, the empty sheet included."
pub record Refusal3 (text : List ℕ) : Type 0 where
  pub formless : (s : Sheet) → HasForm text s → ⊥

-- The expression stands on a side of one of the constraints, whole or inside.
pub data StandsIn (cs : List Constraint) (e : Expression) : Type 0 where
  on_left : {c : Constraint} → Memᴰ c cs → Memᴰ e (subexpressions (left_side c)) → StandsIn cs e
  on_right : {c : Constraint} → Memᴰ c cs → Memᴰ e (subexpressions (right_side c)) → StandsIn cs e

-- "4: a name given twice, reserved, or unknown in a constraint."
pub data Refusal4 (text : List ℕ) : Type 0 where
  given_twice : {s : Sheet} → HasForm text s → (NoRepeats (names_of s.streams) → ⊥) → Refusal4 text
  reserved_name : {s : Sheet} {t : Token} → HasForm text s → Memᴰ t (names_of s.streams) → T (is_reserved t) → Refusal4 text
  unknown_name : {s : Sheet} {c : Constraint} → HasForm text s → Memᴰ c s.constraints → (SidesBelow (length s.streams) c → ⊥) → Refusal4 text

-- "5: an integer beyond the magnitude bound, or a low above its high."
pub data Refusal5 (text : List ℕ) : Type 0 where
  low_beyond : {s : Sheet} {x : Stream} → HasForm text s → Memᴰ x s.streams → magnitude_bound < nat_abs x.range.low → Refusal5 text
  high_beyond : {s : Sheet} {x : Stream} → HasForm text s → Memᴰ x s.streams → magnitude_bound < nat_abs x.range.high → Refusal5 text
  integer_beyond : {s : Sheet} {z : ℤ} → HasForm text s → StandsIn s.constraints (integer z) → magnitude_bound < nat_abs z → Refusal5 text
  low_above_high : {s : Sheet} {x : Stream} → HasForm text s → Memᴰ x s.streams → x.range.high <ℤ x.range.low → Refusal5 text

-- "6: an expression's interval leaves ±1,000,000,000."
pub record InBounds (I : Interval) : Type 0 where
  pub above : neg_ℤ (pos magnitude_bound) ≤ℤ I.low
  pub below : I.high ≤ℤ pos magnitude_bound

pub data Refusal6 (text : List ℕ) : Type 0 where
  leaves_bounds : {s : Sheet} {e : Expression} → HasForm text s → StandsIn s.constraints e → (InBounds (interval s.streams e) → ⊥) → Refusal6 text

-- "7: letters, untils, firsts or D+B over the bound."
pub data Refusal7 (text : List ℕ) : Type 0 where
  too_many_letters : {s : Sheet} → HasForm text s → letter_bound < letter_count s.streams → Refusal7 text
  too_many_untils : {s : Sheet} → HasForm text s → until_bound < length (all_untils s.constraints) → Refusal7 text
  too_many_firsts : {s : Sheet} → HasForm text s → first_bound < length (all_firsts s.constraints) → Refusal7 text
  too_wide : {s : Sheet} → HasForm text s → window_bound < D s.constraints + B s.constraints → Refusal7 text

-- The answer to a text: a refusal's number, or the sheet.
pub data Answer : Type 0 where
  refused : ℕ → Answer
  sheet : Sheet → Answer

-- "The lowest that applies to the whole sheet is given".
pub data AnswerTo (text : List ℕ) : Answer → Type 0 where
  refused1 : Refusal1 text → AnswerTo text (refused 1)
  refused2 : (Refusal1 text → ⊥) → Refusal2 text → AnswerTo text (refused 2)
  refused3 : (Refusal1 text → ⊥) → (Refusal2 text → ⊥) → Refusal3 text → AnswerTo text (refused 3)
  refused4 : (Refusal1 text → ⊥) → (Refusal2 text → ⊥) → (Refusal3 text → ⊥) → Refusal4 text → AnswerTo text (refused 4)
  refused5 : (Refusal1 text → ⊥) → (Refusal2 text → ⊥) → (Refusal3 text → ⊥) → (Refusal4 text → ⊥) → Refusal5 text → AnswerTo text (refused 5)
  refused6 : (Refusal1 text → ⊥) → (Refusal2 text → ⊥) → (Refusal3 text → ⊥) → (Refusal4 text → ⊥) → (Refusal5 text → ⊥) → Refusal6 text → AnswerTo text (refused 6)
  refused7 : (Refusal1 text → ⊥) → (Refusal2 text → ⊥) → (Refusal3 text → ⊥) → (Refusal4 text → ⊥) → (Refusal5 text → ⊥) → (Refusal6 text → ⊥) → Refusal7 text → AnswerTo text (refused 7)
  accepted : {s : Sheet} → (Refusal1 text → ⊥) → (Refusal2 text → ⊥) → (Refusal3 text → ⊥) → (Refusal4 text → ⊥) → (Refusal5 text → ⊥) → (Refusal6 text → ⊥) → (Refusal7 text → ⊥)
      → HasForm text s → AnswerTo text (sheet s)
