-- The text of the span at the left of a record is that of the expression that the record's stream stands for. From the spans of the text (TextSpans) and
-- from what the streams of the rows stand for (Ranges).
use Prim.Native.Nat.{ℕ, zero, suc, ◌-◌, ◌≤◌, ◌<◌}
use native.Mathlib.Omega.{arith}
use mathlib.Core.Path.{◌≡◌, sym, ◌∙◌, ap, subst}
use mathlib.Core.Bool.{cond}
use mathlib.Core.List.{List, [], ◌∷◌, map}
use borrow.Author.Tests.{ne_eqb}
use lib.IntN.{pos}
use lib.ListN.{length}
use Rattle.basics.specs.Lists.{All}
use Rattle.meaning.specs.Expression.{Expression, integer, Sheet}
use Rattle.nodes.specs.Postfix.{all_nodes}
use Rattle.sheet.specs.Release.{floors_quotients}
use Rattle.sheet.specs.Form.{release_in, line_tokens, layout_in}
use Rattle.sheet.specs.Refusal.{sheet, AnswerTo}
use Rattle.sheet.proofs.Accepted.{accepted_facts}
use Rattle.scan.specs.declared.Span.{Span}
use Rattle.spans.specs.Token.{span}
use Rattle.spans.specs.Postfix.{node_expressions}
use Rattle.spans.specs.Spans.{spans_in}
use Rattle.spans.specs.Reading.{SpanReads, EachReads}
use Rattle.spans.proofs.Sheets.{each_at}
use Rattle.normal_entries.specs.Row.{Row}
use Rattle.normal_entries.specs.Fields.{left_behind}
use Rattle.normal.specs.Encoded.{expression_at, span_before, normal_rows, entry_record, normal_entries}
use Rattle.normal.specs.Says.{stands_for, LeftStands}
use Rattle.normal.proofs.TextSpans.{text-spans, nodes-spanned}
use Rattle.normal.proofs.Sources.{Sound, sheet-sound}
use Rattle.normal.proofs.Ranges.{stream-left, rows_stand}

module _ (text : List ℕ) (s : Sheet) (spans : EachReads (floors_quotients (release_in text)) (line_tokens text (layout_in text).names_line) text (spans_in text) (node_expressions s.constraints)) where
  abbrev Reads : Span → Expression → Type 0
  Reads x e = SpanReads (floors_quotients (release_in text)) (line_tokens text (layout_in text).names_line) text x e

  source-reads : (e : ℕ) → 0 < e → e ≤ length (all_nodes 0 0 s.constraints) → Reads (span_before (spans_in text) e) (expression_at s (e - 1))
  source-reads zero h l = absurd (omega arith)
  source-reads (suc i) h l =
      let q : i ≡ suc i - 1 = omega arith in
      subst (λ k. Reads (span_before (spans_in text) (suc i)) (expression_at s k)) q (each_at (floors_quotients (release_in text)) (line_tokens text (layout_in text).names_line) text spans i (span 0 0) (integer (pos 0)) (omega (arith, nodes-spanned s)))

  row-stands : (r : Row) → Sound s r → (2 ≤ r.kind → (0 < r.source) × (expression_at s (r.source - 1) ≡ stands_for s r.left)) → LeftStands text s (entry_record text s r)
  row-stands r g h =
      record {
        reads = λ k.
            let behind : left_behind r ≡ r.source = ap (λ b. cond b (suc r.left) r.source) (ne_eqb r.kind 1 (λ e. omega arith)) in
            subst (λ e. Reads (span_before (spans_in text) e) (stands_for s (entry_record text s r).left)) (sym behind)
            (subst (Reads (span_before (spans_in text) r.source)) ((h k).1 ∙ ap (stands_for s) (sym (stream-left r k))) (source-reads r.source (h k).0 g.source));
      }

  all_stand : (rows : List Row) → All (Sound s) rows → All (λ r. 2 ≤ r.kind → (0 < r.source) × (expression_at s (r.source - 1) ≡ stands_for s r.left)) rows → All (LeftStands text s) (map (entry_record text s) rows)
  all_stand [] g h = tt
  all_stand (r ∷ rows) g h = (row-stands r g.0 h.0, all_stand rows g.1 h.1)

-- The left spans of an accepted sheet's records.
pub lefts_stand : {text : List ℕ} {s : Sheet} → AnswerTo text (sheet s) → All (LeftStands text s) (normal_entries text s)
lefts_stand {text} {s} r = all_stand text s (text-spans r) (normal_rows s) (sheet-sound s (accepted_facts r)) (rows_stand s)
