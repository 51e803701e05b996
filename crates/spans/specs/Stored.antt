-- Spans in a table of numbers, two for each, and what the functions over a text store and give.
use Rattle.std.specs.Prelude.{ℕ, ◌+◌, ◌*◌, ◌≤◌, ◌<◌, ◌≡◌, cond, List, [], ◌∷◌, ltb, length, replicate}
use Rattle.std.proofs.lemmas.List.Edits.{sets}
use Rattle.scan.specs.declared.Span.{Span}
use Rattle.spans.specs.Token.{token_from}
use Rattle.spans.specs.Spans.{Spanned, spanned, spans_in}
use Rattle.spans.specs.declared.Reached.{Reached}

abbrev pub span_places : List Span → List ℕ
span_places [] = []
span_places (s ∷ ss) = s.start ∷ s.end ∷ span_places ss

-- The most spans that a table holds, as many as a sheet has nodes ("1,024 tokens may stand in the constraint lines").
abbrev pub span_bound : ℕ
span_bound = 1024

-- The span with the number n stands in the table from 2 * n on.
abbrev pub put_spans : List ℕ → ℕ → List Span → List ℕ
put_spans table n ss = sets table (n * 2) (span_places ss)

abbrev pub no_spans : List ℕ
no_spans = replicate 2048 0

-- The table of the spans of a text; zeros where they are more than it holds.
unfoldable pub span_table : List ℕ → List ℕ
span_table text = cond (ltb span_bound (length (spans_in text))) no_spans (put_spans no_spans 0 (spans_in text))

-- A place of a text that is short enough for its places to be stored, with no more spans stored than bytes passed.
pub record PlaceIn (text : List ℕ) (at count : ℕ) : Type 0 where
  pub short : length text < 65536
  pub inside : at ≤ length text
  pub few : count ≤ at

-- The spans that S gives for every bound that is large enough were stored from the number `count` on, and r is the place behind the phrase from the
-- place `at` on and the number behind the last. What the table holds where it has no room for them is left open.
pub record StoresSpans (S : ℕ → Spanned) (text : List ℕ) (at count : ℕ) (old new : List ℕ) (r : Reached) : Type 0 where
  pub spans : List Span
  pub gives : (d : ℕ) → length text < at + d → S d ≡ spanned spans r.next
  pub counted : r.count ≡ count + length spans
  pub table : count + length spans ≤ span_bound → new ≡ put_spans old count spans
  pub past : (token_from text at).end ≤ r.next
  pub within : r.next ≤ length text
  pub few : r.count + at ≤ count + r.next
