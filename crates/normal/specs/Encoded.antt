-- The records of the entries of a sheet's normal form (document 01, "Intervals and the normal form": "Each entry of the normal form is one record in a
-- lent list."). specs/Says has what a record says; the entries are those of 000,
-- section 3.1. A span is a pair of places of the sheet's text, `begin` and `end`: the text of an expression, from the
-- first byte of its first token to behind the last byte of its last token, without brackets around it. A record's fields:
--   kind 1: a rewritten constraint. `relation` is the code of its sign; `left_begin` and `left_end`, `right_begin` and `right_end` are the spans of its
--           sides, `left_added` and `right_added` the numbers of the first streams that rewriting the sides adds.
--   kind 2: `x₁ until x₂`. `left` and `right` are the streams' numbers, `relation` is 7, the code of `until`.
--   kind 3: `x₂ == expr`, the expression rewritten. `left` is the stream's number, `right_begin` and `right_end` are the expression's span and
--           `right_added` the number of the first stream that rewriting it adds.
--   kind 4: `x₁ == next x₂`, and kind 5: `first x₁ == first x₂`. `left` and `right` are the streams' numbers.
-- In kinds 3 to 5 `relation` is 2, the code of ==. In kinds 2 to 5 `left_begin` and `left_end` are the span of the expression that the stream `left`
-- stands for, and `low` and `high` its range. `replaces` is 1 where the stream was added for the whole of a `next` or `fby`: its name replaces the text of
-- the span in the other entries. `stream_kind` is the kind of the stream `left`: "an added one is `set`" (document 02, S-6), 0. All else is 0.
-- "Added streams are numbered as their operators stand in the sheet, those of one operator as 000 numbers them", behind the sheet's own streams.
use Rattle.std.specs.Prelude.{ℕ, zero, suc, List, map, pos, length, get_or}
use Rattle.meaning.specs.Arithmetic.{Interval}
use Rattle.meaning.specs.Expression.{Expression, integer, Sheet}
use Rattle.meaning.specs.Interval.{interval}
use Rattle.scan.specs.declared.Span.{Span}
use Rattle.spans.specs.Token.{span}
use Rattle.spans.specs.Postfix.{node_expressions}
use Rattle.spans.specs.Spans.{spans_in}
use Rattle.outcome.specs.NormalForm.{NormalAnswer}
use Rattle.normal_entries.specs.Row.{Row}
use Rattle.normal.specs.Rows.{rewriting_lines, all_rows}
use Rattle.normal_entries.specs.Fields.{entry_with}
use Rattle.normal_entries.specs.declared.Entry.{Entry}
use Rattle.normal_entries.specs.declared.NormalForm.{NormalForm}

abbrev pub expression_at : Sheet → ℕ → Expression
expression_at s i = get_or (node_expressions s.constraints) i (integer (pos 0))

-- The range of a stream that stands for the expression that ends before a place; 0 to 0 for a row whose `left` is no stream.
abbrev pub no_interval : Interval
no_interval = record { low = pos 0; high = pos 0 }

abbrev pub source_interval : Sheet → ℕ → Interval
source_interval s zero = no_interval
source_interval s (suc i) = interval s.streams (expression_at s i)

-- The span of the expression whose node stands before a place; 0 to 0 where there is none.
abbrev pub span_before : List Span → ℕ → Span
span_before ss zero = span 0 0
span_before ss (suc i) = get_or ss i (span 0 0)

abbrev pub entry_for : List Span → Row → Interval → Entry
entry_for ss r I = entry_with (span_before ss) r I.low I.high

abbrev pub normal_rows : Sheet → List Row
normal_rows s = all_rows (length s.streams) (rewriting_lines 0 s.constraints)

-- The record of a row of the sheet that has this text.
abbrev pub entry_record : List ℕ → Sheet → Row → Entry
entry_record text s r = entry_for (spans_in text) r (source_interval s r.source)

-- The entries of the normal form of the sheet that has this text.
abbrev pub normal_entries : List ℕ → Sheet → List Entry
normal_entries text s = map (entry_record text s) (normal_rows s)

abbrev pub normal_answer_of : NormalForm → NormalAnswer
normal_answer_of r = record { refusal = r.refusal; entries = r.entries; added = r.added }
