-- The answer to a text, from the tests of its bytes and lines and from where its header lines stand.
use Prim.Native.Nat.{ℕ, ◌≤◌}
use mathlib.Core.Path.{◌≡◌, refl, sym, ap, ap₂, subst, ◌∙◌}
use mathlib.Core.Bool.{Bool, true, false, cond, ◌||◌}
use mathlib.Core.List.{List}
use mathlib.Core.Option.{Option, none}
use lib.Dec.{ltb}
use lib.ListN.{length}
use borrow.Author.Tests.{ltb-false}
use Rattle.text.specs.Bytes.{lines, tokens}
use Rattle.meaning.specs.Expression.{Sheet}
use Rattle.sheet.specs.Form.{line_tokens, constraint_lines}
use Rattle.sheet.specs.Refusal.{refused, token_count}
use Rattle.sheet.specs.Reading.{any_of, too_deep_from, refuses1, refuses2, form_of_lines, form_of, answer_to_form, answer_to}
use Rattle.scan.specs.Place as place
use Rattle.reader.specs.Constraints.{LinesFit}
use Rattle.refusals.specs.Places.{said_tokens, HeaderOf}
use Rattle.reader.specs.Stored.{refused_reading, reading_of}
use Rattle.refusals.specs.declared.Header.{Header}
use Rattle.reader.specs.declared.Reading.{Reading}
use Rattle.refusals.proofs.Lines.{between-all}
use Rattle.reader.proofs.Tests.{or_left, or_right}

abbrev text_reading : List ℕ → Reading
text_reading text = reading_of (answer_to text)

-- The reading by what refusals 1 and 2 say.
module _ (text : List ℕ) where
  abbrev form : Option Sheet
  form = form_of text

  tested_reading : {a b : Bool} → refuses1 text ≡ a → refuses2 text ≡ b → reading_of (cond a (refused 1) (cond b (refused 2) (answer_to_form form))) ≡ text_reading text
  unfolding answer_to
  tested_reading e h = sym (ap₂ (λ x y. reading_of (cond x (refused 1) (cond y (refused 2) (answer_to_form form)))) e h)

  pub bytes-reading : refuses1 text ≡ true → refused_reading 1 ≡ text_reading text
  bytes-reading e = tested_reading e refl

  pub lines-reading : refuses1 text ≡ false → refuses2 text ≡ true → refused_reading 2 ≡ text_reading text
  lines-reading e h = tested_reading e h

-- A text to which refusals 1 and 2 do not apply, and where its lines stand.
pub record HeaderKnown (text : List ℕ) (h : Header) : Type 0 where
  pub bytes : refuses1 text ≡ false
  pub counted : refuses2 text ≡ false
  pub places : HeaderOf text h

module _ {text : List ℕ} {h : Header} (K : HeaderKnown text h) where
  abbrev places : HeaderOf text h
  places = K.places

  abbrev rest : List ℕ
  rest = place.between text h.constraints (length text)

  rest_lines : lines rest ≡ constraint_lines text
  rest_lines = ap lines (between-all text h.constraints places.constraints_within) ∙ places.constraints

  -- The sheet of the lines found, where there are three header lines.
  abbrev read : Option Sheet
  read = form_of_lines h.floors (tokens (place.between text h.names_start h.names_end)) (tokens (place.between text h.lows_start h.lows_end)) (tokens (place.between text h.highs_start h.highs_end)) (said_tokens (tokens (place.between text h.kinds_start h.kinds_end))) (lines rest)

  form_is : form text ≡ cond h.whole read none
  unfolding form_of
  form_is =
      sym (λ i. cond (places.whole i) (form_of_lines (places.floors i) (tokens (places.names i)) (tokens (places.lows i)) (tokens (places.highs i)) (sym places.kinds i) (rest_lines i)) none)

  form_reading : {o : Option Sheet} → form text ≡ o → reading_of (answer_to_form o) ≡ text_reading text
  form_reading e = ap (λ o. reading_of (answer_to_form o)) (sym e) ∙ tested_reading text K.bytes K.counted

  pub header_reading : h.whole ≡ false → refused_reading 3 ≡ text_reading text
  header_reading k = form_reading (form_is ∙ ap (λ b. cond b read none) k)

  pub whole_reading : h.whole ≡ true → reading_of (answer_to_form read) ≡ text_reading text
  whole_reading k = form_reading (form_is ∙ ap (λ b. cond b read none) k)

  -- What refusal 2 leaves.
  pub lines_few : (length (tokens (place.between text h.names_start h.names_end)) ≤ 8) × LinesFit (lines rest)
  unfolding refuses2
  lines_few =
      let names = ltb 8 (length (line_tokens text 0)) in
      let count = ltb 32 (length (constraint_lines text)) in
      let total = ltb 1024 (token_count (constraint_lines text)) in
      let none_deep = or_left (names || count || total) (any_of (too_deep_from 0 0) (constraint_lines text)) K.counted in
      let both = or_left (names || count) total none_deep in (
        subst (λ l. length (tokens l) ≤ 8) (sym places.names) (ltb-false 8 (length (line_tokens text 0)) (or_left names count both)),
        subst LinesFit (sym rest_lines) (record { count = ltb-false 32 (length (constraint_lines text)) (or_right names count both); tokens = ltb-false 1024 (token_count (constraint_lines text)) (or_right (names || count) total none_deep) }),
      )
