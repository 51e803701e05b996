-- Where the expressions of a sheet's constraints stand in its text, in the order of the stored nodes. A span is a pair of places of the text: that of
-- the first byte of the expression's first token and that behind the last byte of its last token. Brackets around an expression belong to no
-- expression's span but those that they stand inside. proofs/Reading shows that on a sheet the text of each span is read as the expression of
-- its node.
use Rattle.std.specs.Prelude.{ℕ, zero, suc, ◌+◌, Bool, true, false, cond, List, [], ◌∷◌, ◌++◌, eqb, ltb, length}
use Rattle.std.proofs.Math.Option.{Option, some, none}
use Rattle.sheet.specs.Form.{release_lines, layout_in}
use Rattle.text.specs.Bytes.{Token, bytes_of}
use Rattle.text.specs.Token.{same_bytes}
use Rattle.sheet.specs.Vocabulary.{Infix, operator_of, Prefix, prefix_of}
use Rattle.scan.specs.Place.{between}
use Rattle.scan.specs.declared.Span.{Span}
use Rattle.spans.specs.Token.{span, token_from}

-- The spans of a phrase and of all that stands inside it, and the place behind the phrase.
pub record Spanned : Type 0 where
  pub spans : List Span
  pub next : ℕ

abbrev pub spanned : List Span → ℕ → Spanned
spanned l n = record { spans = l; next = n }

-- An expression that stands from the place s to before the place e, behind those inside it.
abbrev pub closed : List Span → ℕ → ℕ → Spanned
closed l s e = spanned (l ++ (span s e ∷ [])) e

module _ (text : List ℕ) where
  abbrev pub token_in : Span → Token
  token_in t = between text t.start t.end

  -- The parts after `if`: "part `then` part `else` part", where p gives the spans of the part from a place on.
  unfoldable pub branches_by : (ℕ → Spanned) → ℕ → Spanned
  branches_by p at =
      let c = p at in
      let a = p (token_from text c.next).end in
      let b = p (token_from text a.next).end in
      spanned (c.spans ++ (a.spans ++ b.spans)) b.next

  -- The expression that begins with the token t, an `if`.
  abbrev pub conditional_span : (ℕ → Spanned) → Span → Spanned
  conditional_span p t = let b = branches_by p t.end in closed b.spans t.start b.next

  -- "a part, or two parts with an operator between them", where the first part begins at the place s and the token after it is `sign`.
  abbrev pub operation_span : (ℕ → Spanned) → ℕ → Spanned → Span → Option Infix → Spanned
  operation_span p s a sign none = a
  operation_span p s a sign (some o) = let b = p sign.end in closed (a.spans ++ b.spans) s b.next

  unfoldable pub span_after_part : (ℕ → Spanned) → ℕ → Spanned → Spanned
  span_after_part p s a = let sign = token_from text a.next in operation_span p s a sign (operator_of (token_in sign))

  -- The expression from a place on.
  unfoldable pub expression_span : (ℕ → Spanned) → ℕ → Spanned
  expression_span p at =
      let t = token_from text at in
      cond (same_bytes (bytes_of "if") (token_in t)) (conditional_span p t) (span_after_part p t.start (p at))

  -- The part whose first token is t: "`first`, `next` or `not` before a part", "an expression in brackets", or an integer or a name.
  abbrev pub part_by : (ℕ → Spanned) → Span → Option Prefix → Bool → Spanned
  part_by p t (some f) opening = let a = p t.end in closed a.spans t.start a.next
  part_by p t none true = let a = expression_span p t.end in spanned a.spans (token_from text a.next).end
  part_by p t none false = closed [] t.start t.end

  unfoldable pub part_span_from : (ℕ → Spanned) → Span → Spanned
  part_span_from p t = cond (eqb t.start t.end) (spanned [] t.end) (part_by p t (prefix_of (token_in t)) (same_bytes (bytes_of "(") (token_in t)))

  -- The part from a place on, where no part is deeper than a bound.
  unfoldable pub part_span_to : ℕ → ℕ → Spanned
  part_span_to zero at = spanned [] at
  part_span_to (suc n) at = part_span_from (part_span_to n) (token_from text at)

  -- No part is deeper than the text is long.
  abbrev pub expression_from : ℕ → Spanned
  expression_from at = expression_span (part_span_to (suc (length text))) at

  -- "two expressions with one of `< <= == >= > != -> until` between them"
  abbrev pub constraint_span : ℕ → Spanned
  constraint_span at =
      let a = expression_from at in
      let b = expression_from (token_from text a.next).end in
      spanned (a.spans ++ b.spans) b.next

  abbrev pub constraints_from : (ℕ → List Span) → ℕ → Bool → List Span
  constraints_from later at true = []
  constraints_from later at false = let c = constraint_span at in c.spans ++ later c.next

  -- The constraints from a place on, where there are no more than a bound.
  unfoldable pub constraints_to : ℕ → ℕ → List Span
  constraints_to zero at = []
  constraints_to (suc n) at = let t = token_from text at in constraints_from (constraints_to n) at (eqb t.start t.end)

-- How many bytes the first k lines have, with the bytes 10 that end them.
unfoldable pub line_offset : ℕ → List ℕ → ℕ
line_offset zero l = 0
line_offset (suc k) [] = 0
line_offset (suc k) (b ∷ bs) = suc (cond (eqb b 10) (line_offset k bs) (line_offset (suc k) bs))

-- How many bytes stand before the constraint lines: those of a release line and of the header lines.
abbrev pub constraints_offset : List ℕ → ℕ
constraints_offset text = line_offset (release_lines text + (layout_in text).constraints_from) text

-- The spans of all expressions of the constraint lines, which stand behind the header lines. The places of a longer text than 65,535 bytes, which is
-- no sheet, are not told.
unfoldable pub spans_in : List ℕ → List Span
spans_in text = cond (ltb 65535 (length text)) [] (constraints_to text (suc (length text)) (constraints_offset text))
