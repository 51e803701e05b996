-- The form of a sheet: which bytes are a sheet, and which sheet they are (document 01, "The sheet"; document 02, S-6, S-11).
use Rattle.std.specs.Prelude.{ℕ, ◌≤◌, ◌<◌, ◌≡◌, Bool, true, false, cond, T, ℤ, length, get_or, drop}
use mathlib.Core.List.{List, [], ◌∷◌, map, Memᴰ}
use Rattle.std.proofs.Math.Option.{Option}
use Rattle.text.specs.Bytes.{Token, lines, tokens}
use Rattle.text.specs.Token.{is_name, is_integer, integer_value}
use Rattle.meaning.specs.Expression.{Constraint, StreamKind, set_kind, Stream, Sheet}
use Rattle.sheet.specs.Grammar.{ReadsConstraint}
use Rattle.sheet.specs.Vocabulary.{stream_kind_of}
use Rattle.sheet.specs.Release.{says_release, said_release, is_known_release, floors_quotients, meant_constraints}

-- The tokens of the first line, which may say the sheet's release (document 02, S-11).
abbrev pub first_tokens : List ℕ → List Token
first_tokens text = tokens (get_or (lines text) 0 [])

abbrev pub release_in : List ℕ → ℤ
release_in text = said_release (first_tokens text)

-- How many lines stand before that of the names: one that says the release, or none.
abbrev pub release_lines : List ℕ → ℕ
release_lines text = cond (says_release (first_tokens text)) 1 0

-- "lines are counted from the names as before" (document 02, S-11)
abbrev pub lines_from_names : List ℕ → List (List ℕ)
lines_from_names text = drop (release_lines text) (lines text)

-- The places of the header lines, counted from 0 from the names on, and of the first constraint line. A text need not have a line of kinds.
pub record Layout : Type 0 where
  pub names_line : ℕ
  pub lows_line : ℕ
  pub highs_line : ℕ
  pub kinds_line : Option ℕ
  pub constraints_from : ℕ

-- The tokens of the line with this place.
abbrev pub line_tokens : List ℕ → ℕ → List Token
line_tokens text k = tokens (get_or (lines_from_names text) k [])

abbrev pub is_some_kind : Option StreamKind → Bool
is_some_kind Option.none = false
is_some_kind (Option.some k) = true

-- "known by `read` or `set` as its first token" (document 02, S-6)
unfoldable pub says_kinds : List Token → Bool
says_kinds [] = false
says_kinds (t ∷ ts) = is_some_kind (stream_kind_of t)

-- "Line 1: stream names. Line 2: the lowest value of each, in that order. Line 3: the highest. Every further line is one constraint". Document 02
-- (S-6): "An optional line after the highest values".
abbrev pub layout_in : List ℕ → Layout
layout_in text =
    let said = says_kinds (line_tokens text 3) in
    record { names_line = 0; lows_line = 1; highs_line = 2; kinds_line = cond said (Option.some 3) Option.none; constraints_from = cond said 4 3 }

-- The tokens of the line of kinds, if the text has one.
abbrev pub tokens_at : List ℕ → Option ℕ → Option (List Token)
tokens_at text Option.none = Option.none
tokens_at text (Option.some k) = Option.some (line_tokens text k)

abbrev pub kind_tokens : List ℕ → Option (List Token)
kind_tokens text = tokens_at text (layout_in text).kinds_line

abbrev pub constraint_lines : List ℕ → List (List ℕ)
constraint_lines text = drop (layout_in text).constraints_from (lines_from_names text)

-- The tokens are integers with these values.
pub data Integers : List Token → List ℤ → Type 0 where
  none : Integers [] []
  more : {t : Token} {ts : List Token} {zs : List ℤ} → T (is_integer t) → Integers ts zs → Integers (t ∷ ts) (integer_value t ∷ zs)

-- "has one of these for each stream": the tokens say these kinds, one each.
pub data StreamKinds : List Token → List StreamKind → Type 0 where
  none : StreamKinds [] []
  more : {t : Token} {ts : List Token} {k : StreamKind} {ks : List StreamKind} → stream_kind_of t ≡ Option.some k → StreamKinds ts ks → StreamKinds (t ∷ ts) (k ∷ ks)

-- What the line of kinds says; "without it all are `set`".
abbrev pub SaidKinds : Option (List Token) → List StreamKind → Type 0
SaidKinds Option.none ks = (k : StreamKind) → Memᴰ k ks → k ≡ set_kind
SaidKinds (Option.some ts) ks = StreamKinds ts ks

-- The lines are these constraints, one each.
pub data Constraints (names : List Token) : List (List ℕ) → List Constraint → Type 0 where
  none : Constraints names [] []
  more : {l : List ℕ} {ls : List (List ℕ)} {c : Constraint} {cs : List Constraint} → ReadsConstraint names (tokens l) c → Constraints names ls cs → Constraints names (l ∷ ls) (c ∷ cs)

abbrev pub names_of : List Stream → List Token
names_of ss = map (λ s. s.name) ss

abbrev pub stream_kinds_of : List Stream → List StreamKind
stream_kinds_of ss = map (λ s. s.kind) ss

-- The bytes have the form of a sheet, and s is that sheet. "A line without tokens is a fault of form." "there may be none" of the constraints. They
-- are read as in release 1, and mean what the sheet's release makes of them.
pub record HasForm (text : List ℕ) (s : Sheet) : Type 0 where
  pub release : T (is_known_release (release_in text))
  pub header_lines : (layout_in text).constraints_from ≤ length (lines_from_names text)
  pub some_stream : 0 < length s.streams
  pub names : line_tokens text (layout_in text).names_line ≡ names_of s.streams
  pub are_names : (t : Token) → Memᴰ t (names_of s.streams) → T (is_name t)
  pub lows : Integers (line_tokens text (layout_in text).lows_line) (map (λ x. x.range.low) s.streams)
  pub highs : Integers (line_tokens text (layout_in text).highs_line) (map (λ x. x.range.high) s.streams)
  pub kinds : SaidKinds (kind_tokens text) (stream_kinds_of s.streams)
  pub written : List Constraint
  pub constraints : Constraints (names_of s.streams) (constraint_lines text) written
  pub meaning : meant_constraints (floors_quotients (release_in text)) written ≡ s.constraints
