-- Release 2 rounds down: the file to open for request S-11 of document 02. What a release line makes of a text: with another number than 1 and 2 it is no
-- sheet, with `release 1` it is the sheet that it is without the line, and with `release 2` that sheet with quotients and remainders rounded down; what
-- lines with a quotient or a remainder ask in release 2. All other theorems take a text of either release, and two texts of any; how the tables of one
-- text in two releases compare stands last. From the definitions and Demands. What a quotient and a remainder give: meaning Division; which lines say a
-- release: sheet Examples; whole sheets: worked Rows.
use Prim.Native.Nat.{ℕ, ◌≤◌}
use mathlib.Core.Path.{◌≡◌, refl, sym, ap, subst, ◌∙◌}
use mathlib.Core.Logic.{◌↔◌, ◌≢◌}
use mathlib.Core.Bool.{false, cond}
use mathlib.Core.List.Memᴰ
use mathlib.Core.List.{List, [], ◌++◌, map, Memᴰ}
use mathlib.Core.Option.{Option, some, none}
use lib.Dec.{T}
use lib.IntN.{ℤ, pos}
use lib.ListN.{length, drop, get_or}
use Rattle.basics.proofs.Tests.{or_cases}
use Rattle.text.specs.Bytes.{Token, bytes_of, lines, tokens}
use Rattle.text.specs.Token.{is_natural, is_integer, natural_from, integer_value}
use Rattle.automaton.specs.Stored.{SameUsedRows}
use Rattle.meaning.specs.Value.{Value, absent, number, equal, compares, Streams}
use Rattle.meaning.specs.Arithmetic.{divide, remainder, floored_divide, floored_remainder, apply}
use Rattle.meaning.specs.Expression.{Expression, binary, Constraint, comparison, always, Sheet, holds, value_from, value, MeetsFrom, Meets, Solution}
use Rattle.meaning.proofs.Value.{compares-equal}
use Rattle.meaning.proofs.Division.{Division, floored-division, RoundedDown, rounded_down}
use Rattle.meaning.specs.Letter.{letter_count}
use Rattle.meaning.specs.StreamKinds.{without_kinds}
use Rattle.sheet.specs.Release.{says_release, said_release, is_known_release, floors_quotients, floored, floored_constraint, meant_constraints}
use Rattle.sheet.specs.Form.{first_tokens, release_in, lines_from_names, says_kinds, layout_in, tokens_at, Integers, SaidKinds, Constraints, names_of, stream_kinds_of, HasForm}
use Rattle.sheet.specs.Refusal.{Refusal3}
use Rattle.sheet.proofs.Form.{form_unique}
use Rattle.outcome.specs.Compile.{CompileAnswer, Room, Tables, CompileCall}
use Rattle.theorems.specs.Following.{HaveSameSolutions}
use Rattle.theorems.specs.Divisions.{is_floored_quotient, is_floored_remainder, HasNumber, IsDivisor, HasLine}
use Rattle.theorems.proofs.Divisions.{sign_numbers, parts-numbers, division-number}
use Rattle.theorems.proofs.Demands.{ReadAs, read-form, equal_rows↔same_solutions}

-- ---- what the release makes of a text

-- "Any other number is 3."
pub other-number : {text : List ℕ} → release_in text ≢ pos 1 → release_in text ≢ pos 2 → Refusal3 text
other-number {text} h h' =
    let z = release_in text in
    record { formless = λ s f. or_cases (compares equal z (pos 1)) (compares equal z (pos 2)) f.release (λ t. h ((compares-equal z (pos 1)).0 t)) (λ t. h' ((compares-equal z (pos 2)).0 t)) }

-- A text whose first line says no release has its names there, and is of release 1.
pub no_release_line : (text : List ℕ) → says_release (first_tokens text) ≡ false → (lines_from_names text ≡ lines text) × (release_in text ≡ pos 1)
unfolding said_release
no_release_line text e = (ap (λ b. drop (cond b 1 0) (lines text)) e, ap (λ b. cond b (integer_value (get_or (first_tokens text) 1 [])) (pos 1)) e)

module _ {text : List ℕ} {s : Sheet} (f : HasForm text s) where
  -- In release 1 the constraints mean what the lines are read as;
  pub means_as_written : release_in text ≡ pos 1 → s.constraints ≡ f.written
  means_as_written e = sym f.meaning ∙ ap (λ z. meant_constraints (floors_quotients z) f.written) e

  -- in release 2 the same with quotients and remainders rounded down, wherever they stand.
  pub means_floored : release_in text ≡ pos 2 → s.constraints ≡ map floored_constraint f.written
  means_floored e = sym f.meaning ∙ ap (λ z. meant_constraints (floors_quotients z) f.written) e

-- ---- texts with the same lines from the names on

abbrev tokens_of : List (List ℕ) → ℕ → List Token
tokens_of ls k = tokens (get_or ls k [])

abbrev header_count : List (List ℕ) → ℕ
header_count ls = cond (says_kinds (tokens_of ls 3)) 4 3

abbrev tokens_among : List (List ℕ) → Option ℕ → Option (List Token)
tokens_among ls none = none
tokens_among ls (some k) = some (tokens_of ls k)

abbrev kinds_among : List (List ℕ) → Option (List Token)
kinds_among ls = tokens_among ls (cond (says_kinds (tokens_of ls 3)) (some 3) none)

tokens_among_lem : (text : List ℕ) (line : Option ℕ) → tokens_at text line ≡ tokens_among (lines_from_names text) line
tokens_among_lem text none = refl
tokens_among_lem text (some k) = refl

-- They have the same streams and are read as the same constraints; what these mean is each one's own.
written-form : {text text' : List ℕ} → lines_from_names text ≡ lines_from_names text' → {s : Sheet} (f : HasForm text s) → T (is_known_release (release_in text'))
    → (cs : List Constraint) → meant_constraints (floors_quotients (release_in text')) f.written ≡ cs → HasForm text' (record { streams = s.streams; constraints = cs })
written-form {text} {text'} same {s} f known cs e =
    record {
      release = known;
      header_lines = subst (λ ls. header_count ls ≤ length ls) same f.header_lines;
      some_stream = f.some_stream;
      names = subst (λ ls. tokens_of ls 0 ≡ names_of s.streams) same f.names;
      are_names = f.are_names;
      lows = subst (λ ls. Integers (tokens_of ls 1) (map (λ x. x.range.low) s.streams)) same f.lows;
      highs = subst (λ ls. Integers (tokens_of ls 2) (map (λ x. x.range.high) s.streams)) same f.highs;
      kinds = subst (λ ts. SaidKinds ts (stream_kinds_of s.streams)) (tokens_among_lem text (layout_in text).kinds_line ∙ ap kinds_among same ∙ sym (tokens_among_lem text' (layout_in text').kinds_line)) f.kinds;
      written = f.written;
      constraints = subst (λ ls. Constraints (names_of s.streams) (drop (header_count ls) ls) f.written) same f.constraints;
      meaning = e;
    }

-- The text behind a line that says a release.
abbrev pub in_first : List ℕ → List ℕ
in_first rest = bytes_of "release 1\n" ++ rest

abbrev pub in_second : List ℕ → List ℕ
in_second rest = bytes_of "release 2\n" ++ rest

-- "A sheet without the line, or with `release 1`, reads as it always did": with that line before it a text has the form of the same sheet.
module _ {rest : List ℕ} {s : Sheet} (unsaid : says_release (first_tokens rest) ≡ false) where
  to-first : HasForm rest s → HasForm (in_first rest) s
  unfolding lines tokens says_release said_release is_integer is_natural integer_value natural_from
  to-first f = let (same, one) = no_release_line rest unsaid in written-form {text' = in_first rest} same f tt s.constraints (sym (means_as_written f one))

  from_first : HasForm (in_first rest) s → HasForm rest s
  unfolding lines tokens says_release said_release is_integer is_natural integer_value natural_from
  from_first f =
      let (same, one) = no_release_line rest unsaid in
      written-form {text = in_first rest} (sym same) f (subst (λ z. T (is_known_release z)) (sym one) tt) s.constraints (ap (λ z. meant_constraints (floors_quotients z) f.written) one ∙ f.meaning)

  pub first-form : HasForm rest s ↔ HasForm (in_first rest) s
  first-form = (to-first, from_first)

abbrev pub floored_sheet : Sheet → Sheet
floored_sheet s = record { streams = s.streams; constraints = map floored_constraint s.constraints }

-- What has the form of a sheet in release 1 has it in release 2, over the same streams, with quotients and remainders rounded down;
pub second-form : {rest : List ℕ} {s : Sheet} → HasForm (in_first rest) s → HasForm (in_second rest) (floored_sheet s)
unfolding lines tokens says_release said_release is_integer is_natural integer_value natural_from
second-form {rest} {s} f = written-form {text = in_first rest} {text' = in_second rest} refl f tt (map floored_constraint s.constraints) (ap (map floored_constraint) f.meaning)

-- and what has the form of a sheet in release 2 has that of such a sheet.
pub second-form-only : {rest : List ℕ} {s' : Sheet} → HasForm (in_second rest) s' → (s : Sheet) × HasForm (in_first rest) s × (floored_sheet s ≡ s')
unfolding lines tokens says_release said_release is_integer is_natural integer_value natural_from
second-form-only {rest} {s'} f = (
  record { streams = s'.streams; constraints = f.written },
  written-form {text = in_second rest} {text' = in_first rest} refl f tt f.written refl,
  ap (λ cs. record { streams = s'.streams; constraints = cs }) f.meaning,
)

-- ---- what a line with a quotient or a remainder asks in release 2

-- Of numbers x and y, the second not 0, q is the quotient rounded down and r the remainder, which has the sign of y.
pub record Floored (x y q r : Value) : Type 0 where
  pub dividend : ℤ
  pub divisor : ℤ
  pub quotient : ℤ
  pub remainder : ℤ
  pub dividend_is : x ≡ number dividend
  pub divisor_is : y ≡ number divisor
  pub quotient_is : q ≡ number quotient
  pub remainder_is : r ≡ number remainder
  pub other_than_0 : divisor ≢ pos 0
  pub division : Division divisor dividend divisor quotient remainder
  pub rounded : RoundedDown dividend divisor quotient

floored-values : (x y : Value) → HasNumber x → IsDivisor y → Floored x y (apply floored_divide x y) (apply floored_remainder x y)
floored-values absent y n d = absurd n
floored-values (number a) absent n d = absurd d
floored-values (number a) (number b) n d =
    let (q, r, quotient_is, remainder_is, whole) = floored-division a b d in
    record {
      dividend = a;
      divisor = b;
      quotient = q;
      remainder = r;
      dividend_is = refl;
      divisor_is = refl;
      quotient_is = quotient_is;
      remainder_is = remainder_is;
      other_than_0 = d;
      division = whole;
      rounded = rounded_down a b q r whole;
    }

equal-values : (x y : Value) → T (holds (comparison equal) x y) → x ≡ y
equal-values absent y t = absurd t
equal-values (number a) absent t = absurd t
equal-values (number a) (number b) t = ap number ((compares-equal a b).0 t)

quotient-values : (x y z : Value) → T (holds (comparison equal) (apply floored_divide x y) z) → (r : Value) × Floored x y z r
quotient-values x y z t =
    let there = (sign_numbers (comparison equal) (apply floored_divide x y) z t).0 in
    (apply floored_remainder x y, subst (λ q. Floored x y q (apply floored_remainder x y)) (equal-values (apply floored_divide x y) z t) (floored-values x y (parts-numbers floored_divide x y there).0 (division-number is_floored_quotient x y there)))

remainder-values : (x y z : Value) → T (holds (comparison equal) (apply floored_remainder x y) z) → (q : Value) × Floored x y q z
remainder-values x y z t =
    let there = (sign_numbers (comparison equal) (apply floored_remainder x y) z t).0 in
    (apply floored_divide x y, subst (Floored x y (apply floored_divide x y)) (equal-values (apply floored_remainder x y) z t) (floored-values x y (parts-numbers floored_remainder x y there).0 (division-number is_floored_remainder x y there)))

module _ {text : List ℕ} {s : Sheet} (f : HasForm text s) (second : release_in text ≡ pos 2) where
  -- A line of the text is one of the sheet, rounded down.
  line-floored : {c : Constraint} → Memᴰ c f.written → HasLine s (floored_constraint c)
  line-floored {c} m = subst (Memᴰ (floored_constraint c)) (sym (means_floored f second)) (Memᴰ.map floored_constraint m)

  module _ {w : Streams} (solution : Solution s w) (a b c : Expression) where
    -- Where a line of a text of release 2 is read as `a / b == c`, c is in every solution at every time the quotient of a by b, rounded down;
    pub quotient-rounded : Memᴰ (always (comparison equal) (binary divide a b) c) f.written → (i : ℕ)
        → (r : Value) × Floored (value w (floored a) i) (value w (floored b) i) (value w (floored c) i) r
    unfolding Meets MeetsFrom value value_from
    quotient-rounded line i =
        quotient-values (value w (floored a) i) (value w (floored b) i) (value w (floored c) i) (solution.meets (floored_constraint (always (comparison equal) (binary divide a b) c)) (line-floored line) i)

    -- where it is read as `a % b == c`, c is the remainder, "the remainder having the divisor's sign".
    pub remainder_signed : Memᴰ (always (comparison equal) (binary remainder a b) c) f.written → (i : ℕ)
        → (q : Value) × Floored (value w (floored a) i) (value w (floored b) i) q (value w (floored c) i)
    unfolding Meets MeetsFrom value value_from
    remainder_signed line i =
        remainder-values (value w (floored a) i) (value w (floored b) i) (value w (floored c) i) (solution.meets (floored_constraint (always (comparison equal) (binary remainder a b) c)) (line-floored line) i)

-- ---- the tables of one text in two releases

-- The same sheet has the same solutions.
same_solutions : {s s' : Sheet} → s ≡ s' → HaveSameSolutions s s'
same_solutions {s} e = subst (HaveSameSolutions s) e (record { to = λ w h. h; from = λ w h. h })

-- "with `release 1`, reads as it always did": by demand 3 its table has the used rows of that of the text without the line.
pub first-compared : {rest : List ℕ} → says_release (first_tokens rest) ≡ false
    → {room room' : Room} {a a' : CompileAnswer} {t t' : Tables} → CompileCall rest room a t → CompileCall (in_first rest) room' a' t'
    → {s s' : Sheet} → ReadAs rest s → ReadAs (in_first rest) s' → a.refusal ≡ 0 → a'.refusal ≡ 0
    → SameUsedRows (letter_count s.streams) a.states t.entries t.finals a'.states t'.entries t'.finals
first-compared {rest} unsaid call call' {s} {s'} r r' e e' =
    let same : s ≡ s' = form_unique ((first-form unsaid).0 (read-form r)) (read-form r') in
    (equal_rows↔same_solutions call call' r r' e e' (record { same = ap (λ x. without_kinds x.streams) (sym same) })).1 (same_solutions same)

-- Demand 3 for the two releases of one text: their tables have equal used rows exactly if rounding down changes no solution.
pub releases_compared : {rest : List ℕ} {room room' : Room} {a a' : CompileAnswer} {t t' : Tables} → CompileCall (in_first rest) room a t → CompileCall (in_second rest) room' a' t'
    → {s s' : Sheet} → ReadAs (in_first rest) s → ReadAs (in_second rest) s' → a.refusal ≡ 0 → a'.refusal ≡ 0
    → SameUsedRows (letter_count s.streams) a.states t.entries t.finals a'.states t'.entries t'.finals ↔ HaveSameSolutions s s'
releases_compared call call' {s} {s'} r r' e e' =
    let same : s' ≡ floored_sheet s = form_unique (read-form r') (second-form (read-form r)) in
    equal_rows↔same_solutions call call' r r' e e' (record { same = ap (λ x. without_kinds x.streams) same })
