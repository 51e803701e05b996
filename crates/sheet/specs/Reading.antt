-- An executable reading of a text: the tests behind refusals 1 to 7 in document 01's order ("The lowest that applies to the whole sheet is
-- given"), and the sheet. The laws of proofs/ show that it gives the one answer.
use Rattle.std.specs.Prelude.{ℕ, ◌+◌, Bool, true, false, not, cond, ◌&&◌, ◌||◌, List, [], ◌∷◌, ◌++◌, leb, ltb, eqb, ℤ, pos, neg_ℤ, nat_abs, length, replicate}
use Rattle.std.proofs.Math.Option.{Option, some, none}
use Rattle.std.specs.Int.Signed.{le_z, lt_z}
use Rattle.text.specs.Bytes.{Token, tokens}
use Rattle.text.specs.Token.{is_one_of, is_name, is_integer, integer_value, is_reserved}
use Rattle.meaning.specs.Arithmetic.{Interval}
use Rattle.meaning.specs.Expression.{Expression, integer, name, first, next, negation, binary, conditional, fby, Constraint, left_side, right_side, StreamKind, set_kind, Stream, Sheet}
use Rattle.meaning.specs.StreamKinds.{of_kind}
use Rattle.meaning.specs.Interval.{interval, subexpressions}
use Rattle.meaning.specs.Letter.{letter_count}
use Rattle.meaning.specs.Window.{join_over, all_firsts, all_untils, B, D}
use Rattle.sheet.specs.Vocabulary.{stream_kind_of}
use Rattle.sheet.specs.Release.{is_known_release, floors_quotients, meant_constraints}
use Rattle.sheet.specs.Form.{release_in, lines_from_names, line_tokens, constraint_lines, kind_tokens, names_of, layout_in}
use Rattle.sheet.specs.Refusal.{byte_bound, stream_bound, constraint_bound, token_bound, bracket_bound, magnitude_bound, letter_bound, until_bound, first_bound, window_bound, is_allowed, token_count, Answer, refused, sheet}
use Rattle.sheet.specs.Parser.{and_then, parse_constraint}

-- Some element passes the test.
abbrev pub any_of : {X : Type 0} → (X → Bool) → List X → Bool
any_of f [] = false
any_of f (x ∷ xs) = f x || any_of f xs

-- "1: too many bytes, or a byte other than 10 and 32 to 126."
unfoldable pub refuses1 : List ℕ → Bool
refuses1 text = ltb byte_bound (length text) || any_of (λ b. not (is_allowed b)) text

-- At some place of the bytes, after o opening and c closing brackets, there are more than 32 more `(` than `)`.
unfoldable pub too_deep_from : ℕ → ℕ → List ℕ → Bool
too_deep_from o c [] = ltb (bracket_bound + c) o
too_deep_from o c (b ∷ bs) = ltb (bracket_bound + c) o || too_deep_from (o + cond (eqb b 40) 1 0) (c + cond (eqb b 41) 1 0) bs

-- "2: over 8 tokens in line 1, 32 lines after line 3, 1,024 tokens in them, or, up to some place in one of them, more than 32 more `(` than `)`."
unfoldable pub refuses2 : List ℕ → Bool
refuses2 text =
    ltb stream_bound (length (line_tokens text (layout_in text).names_line))
    || ltb constraint_bound (length (constraint_lines text))
    || ltb token_bound (token_count (constraint_lines text))
    || any_of (too_deep_from 0 0) (constraint_lines text)

-- The streams that the tokens of the three header lines give, all `set`.
abbrev pub stream_from : Token → Token → Token → Stream
stream_from n l h = record { name = n; kind = set_kind; range = record { low = integer_value l; high = integer_value h } }

unfoldable pub streams_from : List Token → List Token → List Token → Option (List Stream)
streams_from [] [] [] = some []
streams_from [] [] (h ∷ hs) = none
streams_from [] (l ∷ ls) hs = none
streams_from (n ∷ ns) [] hs = none
streams_from (n ∷ ns) (l ∷ ls) [] = none
streams_from (n ∷ ns) (l ∷ ls) (h ∷ hs) =
    let others = and_then (streams_from ns ls hs) (λ ss. some (stream_from n l h ∷ ss)) in
    cond (is_name n && is_integer l && is_integer h) others none

-- The kinds that the tokens say, one each.
unfoldable pub kinds_from : List Token → Option (List StreamKind)
kinds_from [] = some []
kinds_from (t ∷ ts) = and_then (stream_kind_of t) (λ k. and_then (kinds_from ts) (λ ks. some (k ∷ ks)))

-- The kinds of n streams: "one of these for each stream"; "without it all are `set`".
abbrev pub kinds_of_streams : Option (List Token) → ℕ → Option (List StreamKind)
kinds_of_streams none n = some (replicate n set_kind)
kinds_of_streams (some ts) n = cond (eqb (length ts) n) (kinds_from ts) none

-- The streams with these kinds, one each.
abbrev pub with_kinds : List StreamKind → List Stream → List Stream
with_kinds [] ss = ss
with_kinds (k ∷ ks) [] = []
with_kinds (k ∷ ks) (s ∷ ss) = of_kind k s ∷ with_kinds ks ss

-- The constraints that the lines give.
unfoldable pub constraints_of : List Token → List (List ℕ) → Option (List Constraint)
constraints_of names [] = some []
constraints_of names (l ∷ ls) = and_then (parse_constraint names (tokens l)) (λ c. and_then (constraints_of names ls) (λ cs. some (c ∷ cs)))

-- The sheet of these streams, at least one, and of what the constraints that the lines give mean; `floors` says whether quotients are rounded down.
abbrev pub sheet_from : Bool → List (List ℕ) → List Stream → Option Sheet
sheet_from floors ls [] = none
sheet_from floors ls (s ∷ ss) = and_then (constraints_of (names_of (s ∷ ss)) ls) (λ cs. some (record { streams = s ∷ ss; constraints = meant_constraints floors cs }))

-- The sheet of the streams of header lines, the kinds that are said of them, and constraint lines.
abbrev pub form_of_lines : Bool → List Token → List Token → List Token → Option (List Token) → List (List ℕ) → Option Sheet
form_of_lines floors names lows highs said ls = and_then (streams_from names lows highs) (λ ss. and_then (kinds_of_streams said (length ss)) (λ ks. sheet_from floors ls (with_kinds ks ss)))

-- The release is known, and all header lines are there.
abbrev pub has_header : List ℕ → Bool
has_header text = is_known_release (release_in text) && leb (layout_in text).constraints_from (length (lines_from_names text))

-- The sheet that the text has the form of.
unfoldable pub form_of : List ℕ → Option Sheet
form_of text =
    let read : Option Sheet = form_of_lines (floors_quotients (release_in text)) (line_tokens text (layout_in text).names_line) (line_tokens text (layout_in text).lows_line) (line_tokens text (layout_in text).highs_line) (kind_tokens text) (constraint_lines text) in
    cond (has_header text) read none

-- No token stands twice in the list.
abbrev pub are_distinct : List Token → Bool
are_distinct [] = true
are_distinct (t ∷ ts) = not (is_one_of ts t) && are_distinct ts

-- Every name in the expression is one of the first n streams.
abbrev pub names_below : ℕ → Expression → Bool
names_below n (integer z) = true
names_below n (name k) = ltb k n
names_below n (first e) = names_below n e
names_below n (next e) = names_below n e
names_below n (negation e) = names_below n e
names_below n (binary o a b) = names_below n a && names_below n b
names_below n (conditional c a b) = names_below n c && (names_below n a && names_below n b)
names_below n (fby a b) = names_below n a && names_below n b

abbrev pub sides_below : ℕ → Constraint → Bool
sides_below n c = names_below n (left_side c) && names_below n (right_side c)

-- "4: a name given twice, reserved, or unknown in a constraint."
unfoldable pub refuses4 : Sheet → Bool
refuses4 s =
    not (are_distinct (names_of s.streams))
    || any_of is_reserved (names_of s.streams)
    || any_of (λ c. not (sides_below (length s.streams) c)) s.constraints

-- Every expression on a side of one of the constraints, whole or inside.
abbrev pub all_expressions : List Constraint → List Expression
all_expressions cs = join_over (λ c. subexpressions (left_side c) ++ subexpressions (right_side c)) cs

abbrev pub is_beyond : ℤ → Bool
is_beyond z = ltb magnitude_bound (nat_abs z)

abbrev pub is_integer_beyond : Expression → Bool
is_integer_beyond (integer z) = is_beyond z
is_integer_beyond (name k) = false
is_integer_beyond (first e) = false
is_integer_beyond (next e) = false
is_integer_beyond (negation e) = false
is_integer_beyond (binary o a b) = false
is_integer_beyond (conditional c a b) = false
is_integer_beyond (fby a b) = false

abbrev pub is_range_faulty : Stream → Bool
is_range_faulty x = is_beyond x.range.low || is_beyond x.range.high || lt_z x.range.high x.range.low

-- "5: an integer beyond the magnitude bound, or a low above its high."
unfoldable pub refuses5 : Sheet → Bool
refuses5 s = any_of is_range_faulty s.streams || any_of is_integer_beyond (all_expressions s.constraints)

abbrev pub in_bounds : Interval → Bool
in_bounds I = le_z (neg_ℤ (pos magnitude_bound)) I.low && le_z I.high (pos magnitude_bound)

-- "6: an expression's interval leaves ±1,000,000,000."
unfoldable pub refuses6 : Sheet → Bool
refuses6 s = any_of (λ e. not (in_bounds (interval s.streams e))) (all_expressions s.constraints)

-- "7: letters, untils, firsts or D+B over the bound."
unfoldable pub refuses7 : Sheet → Bool
refuses7 s =
    ltb letter_bound (letter_count s.streams)
    || ltb until_bound (length (all_untils s.constraints))
    || ltb first_bound (length (all_firsts s.constraints))
    || ltb window_bound (D s.constraints + B s.constraints)

-- The answer to a text that has the form of the sheet.
unfoldable pub answer_to_sheet : Sheet → Answer
answer_to_sheet s = cond (refuses4 s) (refused 4) (cond (refuses5 s) (refused 5) (cond (refuses6 s) (refused 6) (cond (refuses7 s) (refused 7) (sheet s))))

abbrev pub answer_to_form : Option Sheet → Answer
answer_to_form none = refused 3
answer_to_form (some s) = answer_to_sheet s

-- The answer to a text.
unfoldable pub answer_to : List ℕ → Answer
answer_to text = cond (refuses1 text) (refused 1) (cond (refuses2 text) (refused 2) (answer_to_form (form_of text)))
