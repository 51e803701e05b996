-- What the records say, from the sheet's text and the records alone: one by one, the constraints of the normal form; and nothing else. So text and list
-- determine the normal form. From the spans of the text (TextSpans), the constraints of the rows (Decoding), and because the grammar is unambiguous.
use Prim.Native.Nat.{ℕ, ◌<◌}
use native.Mathlib.Omega.{arith}
use mathlib.Core.Path.{◌≡◌, refl, sym, ◌∙◌, ap, ap₂, subst}
use mathlib.Core.List.{List, [], ◌∷◌, map}
use lib.IntN.{pos}
use lib.ListN.{length, get_or}
use Rattle.basics.specs.Lists.{All}
use Rattle.basics.proofs.Lists.{All-map}
use Rattle.meaning.specs.Expression.{Expression, integer, Constraint, always, Sheet}
use Rattle.meaning.specs.NormalForm.{rewritten, equation, normal_form}
use Rattle.nodes.specs.Code.{sign_at}
use Rattle.nodes.specs.Postfix.{all_nodes}
use Rattle.sheet.specs.Release.{floors_quotients, meant}
use Rattle.sheet.specs.Form.{release_in, line_tokens, layout_in}
use Rattle.sheet.specs.Refusal.{sheet, AnswerTo}
use Rattle.sheet.proofs.Accepted.{accepted_facts}
use Rattle.sheet.proofs.Parser.{reads_unambiguous}
use Rattle.scan.specs.declared.Span.{Span}
use Rattle.spans.specs.Token.{span}
use Rattle.spans.specs.Postfix.{node_expressions}
use Rattle.spans.specs.Spans.{spans_in}
use Rattle.spans.specs.Reading.{SpanReads, EachReads}
use Rattle.spans.proofs.Sheets.{each_at}
use Rattle.normal_entries.specs.Row.{Row}
use Rattle.normal.specs.Encoded.{expression_at, normal_rows, entry_record, normal_entries}
use Rattle.normal.specs.Says.{SideSays, side, EntrySays, constraint, streams_until, stream_is, stream_is_next, firsts_equal, EachSays}
use Rattle.normal_entries.specs.declared.Entry.{Entry}
use Rattle.normal.proofs.Decoding.{decoded, rows_decoded}
use Rattle.normal.proofs.TextSpans.{text-spans, nodes-spanned}
use Rattle.normal.proofs.Sources.{RowForm, is_constraint, is_until, is_equation, is_next, is_first, sheet-sound}

module _ (text : List ℕ) (s : Sheet) (spans : EachReads (floors_quotients (release_in text)) (line_tokens text (layout_in text).names_line) text (spans_in text) (node_expressions s.constraints)) where
  abbrev span_of : ℕ → Span
  span_of i = get_or (spans_in text) i (span 0 0)

  -- The text of a node's span is read as the node's expression.
  node-reads : (i : ℕ) → i < length (all_nodes 0 0 s.constraints) → SpanReads (floors_quotients (release_in text)) (line_tokens text (layout_in text).names_line) text (span (span_of i).start (span_of i).end) (expression_at s i)
  node-reads i h = each_at (floors_quotients (release_in text)) (line_tokens text (layout_in text).names_line) text spans i (span 0 0) (integer (pos 0)) (omega (arith, nodes-spanned s))

  row-says : {r : Row} → RowForm (length (all_nodes 0 0 s.constraints)) r → EntrySays text (entry_record text s r) (decoded s r)
  unfolding decoded
  row-says (is_constraint {a = a} {b = b} ha hb) = constraint refl (side (node-reads a ha)) (side (node-reads b hb))
  row-says is_until = streams_until refl
  row-says (is_equation {b = b} hb) = stream_is refl (side (node-reads b hb))
  row-says is_next = stream_is_next refl
  row-says is_first = firsts_equal refl

-- The record of each row of an accepted sheet says the row's constraint.
pub rows_say : {text : List ℕ} {s : Sheet} → AnswerTo text (sheet s) → All (λ r. EntrySays text (entry_record text s r) (decoded s r)) (normal_rows s)
rows_say {text} {s} r = All-map (normal_rows s) (λ x h. row-says text s (text-spans r) h.form) (sheet-sound s (accepted_facts r))

each_say : (text : List ℕ) (s : Sheet) (rows : List Row) → All (λ r. EntrySays text (entry_record text s r) (decoded s r)) rows → EachSays text (map (entry_record text s) rows) (map (decoded s) rows)
each_say text s [] h = EachSays.none
each_say text s (r ∷ rows) h = EachSays.more h.0 (each_say text s rows h.1)

-- The records of an accepted sheet say the constraints of its normal form, one by one and in order.
pub entries_say : {text : List ℕ} {s : Sheet} → AnswerTo text (sheet s) → EachSays text (normal_entries text s) (normal_form s).constraints
entries_say {text} {s} r = subst (EachSays text (normal_entries text s)) (rows_decoded s) (each_say text s (normal_rows s) (rows_say r))

-- ---- a text and a record say at most one constraint

side_unique : {text : List ℕ} {b e n : ℕ} {x y : Expression} → SideSays text b e n x → SideSays text b e n y → x ≡ y
side_unique {text} {n = n} (side h) (side k) =
    ap (rewritten n) (sym h.meaning ∙ ap (meant (floors_quotients (release_in text))) (reads_unambiguous _ h.reads k.reads) ∙ k.meaning)

apart : {m n k : ℕ} → k ≡ m → k ≡ n → (m ≡ n → ⊥) → ⊥
apart p q d = d (sym p ∙ q)

pub says_unique : {text : List ℕ} {r : Entry} {c d : Constraint} → EntrySays text r c → EntrySays text r d → c ≡ d
says_unique {r = r} (constraint p a b) (constraint q a' b') = ap₂ (always (sign_at r.relation)) (side_unique a a') (side_unique b b')
says_unique (constraint p a b) (streams_until q) = absurd (apart p q (λ e. omega arith))
says_unique (constraint p a b) (stream_is q c) = absurd (apart p q (λ e. omega arith))
says_unique (constraint p a b) (stream_is_next q) = absurd (apart p q (λ e. omega arith))
says_unique (constraint p a b) (firsts_equal q) = absurd (apart p q (λ e. omega arith))
says_unique (streams_until p) (constraint q a b) = absurd (apart p q (λ e. omega arith))
says_unique (streams_until p) (streams_until q) = refl
says_unique (streams_until p) (stream_is q c) = absurd (apart p q (λ e. omega arith))
says_unique (streams_until p) (stream_is_next q) = absurd (apart p q (λ e. omega arith))
says_unique (streams_until p) (firsts_equal q) = absurd (apart p q (λ e. omega arith))
says_unique (stream_is p c) (constraint q a b) = absurd (apart p q (λ e. omega arith))
says_unique (stream_is p c) (streams_until q) = absurd (apart p q (λ e. omega arith))
says_unique {r = r} (stream_is p c) (stream_is q d) = ap (equation r.left) (side_unique c d)
says_unique (stream_is p c) (stream_is_next q) = absurd (apart p q (λ e. omega arith))
says_unique (stream_is p c) (firsts_equal q) = absurd (apart p q (λ e. omega arith))
says_unique (stream_is_next p) (constraint q a b) = absurd (apart p q (λ e. omega arith))
says_unique (stream_is_next p) (streams_until q) = absurd (apart p q (λ e. omega arith))
says_unique (stream_is_next p) (stream_is q c) = absurd (apart p q (λ e. omega arith))
says_unique (stream_is_next p) (stream_is_next q) = refl
says_unique (stream_is_next p) (firsts_equal q) = absurd (apart p q (λ e. omega arith))
says_unique (firsts_equal p) (constraint q a b) = absurd (apart p q (λ e. omega arith))
says_unique (firsts_equal p) (streams_until q) = absurd (apart p q (λ e. omega arith))
says_unique (firsts_equal p) (stream_is q c) = absurd (apart p q (λ e. omega arith))
says_unique (firsts_equal p) (stream_is_next q) = absurd (apart p q (λ e. omega arith))
says_unique (firsts_equal p) (firsts_equal q) = refl

-- A text and records say at most one list of constraints.
pub each-says_unique : {text : List ℕ} {rs : List Entry} {cs ds : List Constraint} → EachSays text rs cs → EachSays text rs ds → cs ≡ ds
each-says_unique EachSays.none EachSays.none = refl
each-says_unique (EachSays.more h hs) (EachSays.more k ks) = ap₂ ◌∷◌ (says_unique h k) (each-says_unique hs ks)
