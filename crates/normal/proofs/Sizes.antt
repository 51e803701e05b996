-- The numbers of an accepted sheet's entries fit their fields: there are at most 32 + 4 · 1,024 entries, 8 + 3 · 1,024 streams and 1,024 nodes, so
-- every stream's number and every node's place is below 65,536; spans are places of the text, of at most 16,384 bytes; and the ranges are within the
-- magnitude bound.
use Prim.Native.Nat.{ℕ, zero, suc, ◌+◌, ◌*◌, ◌≤◌, ◌<◌}
use native.Mathlib.Omega.{arith}
use mathlib.Core.Path.{sym, subst}
use mathlib.Core.Bool.{Bool, true, false, cond}
use mathlib.Core.List.{List, [], ◌∷◌, ◌++◌, map}
use lib.ListN.{length, length-append, length-map}
use Rattle.basics.proofs.Lists.{All-append, All-mapped}
use Rattle.basics.specs.Lists.{All}
use Rattle.meaning.specs.Expression.{Expression, integer, name, first, next, negation, binary, conditional, fby, Constraint, always, until, left_side, right_side, Sheet}
use Rattle.meaning.specs.NormalForm.{normal_form}
use Rattle.meaning.proofs.NormalForm.Names.{streams-length}
use Rattle.text.specs.Bytes.{Token}
use Rattle.sheet.specs.Refusal.{InBounds, sheet, AnswerTo}
use Rattle.sheet.specs.Reading.{all_expressions}
use Rattle.sheet.specs.Accepted.{Accepted}
use Rattle.scan.specs.declared.Span.{Span}
use Rattle.spans.specs.Spans.{spans_in}
use Rattle.spans.specs.Reading.{EachReads}
use Rattle.spans.specs.Postfix.{in_postfix, node_count, node_expressions}
use Rattle.normal_entries.specs.Row.{Row}
use Rattle.normal.specs.Rows.{rewriting, Line, line_at, rewriting_lines, own_rows, added_rows, streams_after}
use Rattle.normal.specs.Encoded.{span_before, normal_rows, entry_record, normal_entries}
use Rattle.normal_entries.specs.Fields.{left_is_node, right_is_node, left_behind, right_behind}
use Rattle.normal_entries.specs.declared.Entry.{Entry}
use Rattle.normal.proofs.Lines.{streams-more}
use Rattle.normal.proofs.Decoding.{always-line, streams-counted}
use Rattle.normal.proofs.Places.{stand_self}
use Rattle.normal.proofs.TextSpans.{text-spans}
use Rattle.normal.proofs.SheetRows.{lines_few, rows_few, expressions_counted}
use Rattle.normal.proofs.Sources.{sheet-sound}

-- The four numbers of a row are small.
record Fits (r : Row) : Type 0 where
  left : r.left < 65536
  left_added : r.left_added < 65536
  right : r.right < 65536
  right_added : r.right_added < 65536

fits : {r : Row} → r.left < 65536 → r.left_added < 65536 → r.right < 65536 → r.right_added < 65536 → Fits r
fits a b c d = record { left = a; left_added = b; right = c; right_added = d }

rows_fit : (p : ℕ) (e : Expression) (n : ℕ) → p + node_count e ≤ 1024 → n + (rewriting p e).added ≤ 4095 → All Fits ((rewriting p e).rows n)
unfolding rewriting in_postfix
rows_fit p (integer z) n h k = tt
rows_fit p (name j) n h k = tt
rows_fit p (first e) n h k = rows_fit p e n (omega (arith, length-append (in_postfix e) (first e ∷ []))) k
rows_fit p (next e) n h k =
    let l = length-append (in_postfix e) (next e ∷ []) in
    (fits (omega arith) (omega arith) (omega arith) (omega arith), (fits (omega arith) (omega arith) (omega arith) (omega arith), rows_fit p e (suc (suc n)) (omega arith) (omega arith)))
rows_fit p (negation e) n h k = rows_fit p e n (omega (arith, length-append (in_postfix e) (negation e ∷ []))) k
rows_fit p (binary o a b) n h k =
    let l = length-append (in_postfix a) (in_postfix b ++ (binary o a b ∷ [])) in
    let m = length-append (in_postfix b) (binary o a b ∷ []) in
    (All-append Fits ((rewriting p a).rows n) _).1 (rows_fit p a n (omega arith) (omega arith), rows_fit (p + node_count a) b (n + (rewriting p a).added) (omega arith) (omega arith))
rows_fit p (conditional c a b) n h k =
    let j = length-append (in_postfix c) (in_postfix a ++ (in_postfix b ++ (conditional c a b ∷ []))) in
    let l = length-append (in_postfix a) (in_postfix b ++ (conditional c a b ∷ [])) in
    let m = length-append (in_postfix b) (conditional c a b ∷ []) in
    (All-append Fits ((rewriting p c).rows n) _).1 (
      rows_fit p c n (omega arith) (omega arith),
      (All-append Fits ((rewriting (p + node_count c) a).rows (n + (rewriting p c).added)) _).1
          (rows_fit (p + node_count c) a (n + (rewriting p c).added) (omega arith) (omega arith), rows_fit (p + node_count c + node_count a) b (n + (rewriting p c).added + (rewriting (p + node_count c) a).added) (omega arith) (omega arith)),
    )
rows_fit p (fby a b) n h k =
    let l = length-append (in_postfix a) (in_postfix b ++ (fby a b ∷ [])) in
    let m = length-append (in_postfix b) (fby a b ∷ []) in
    (All-append Fits ((rewriting p a).rows n) _).1 (
      rows_fit p a n (omega arith) (omega arith),
      (
        fits (omega arith) (omega arith) (omega arith) (omega arith),
        (
          fits (omega arith) (omega arith) (omega arith) (omega arith),
          (
            fits (omega arith) (omega arith) (omega arith) (omega arith),
            (
              fits (omega arith) (omega arith) (omega arith) (omega arith),
              rows_fit (p + node_count a) b (suc (suc (suc (n + (rewriting p a).added)))) (omega arith) (omega arith),
            ),
          ),
        ),
      ),
    )

line-fits : (p : ℕ) (c : Constraint) (n : ℕ) → p + node_count (left_side c) + node_count (right_side c) ≤ 1024 → n + (line_at p c).adds.added ≤ 4095 → Fits ((line_at p c).own n) × All Fits ((line_at p c).adds.rows n)
line-fits p (always t a b) n h k =
    let w = always-line t (p + node_count a) (p + node_count a + node_count b) (rewriting p a) (rewriting (p + node_count a) b) in
    let k' = subst (λ (m : Line). n + m.adds.added ≤ 4095) w k in (
      subst (λ (m : Line). Fits (m.own n)) (sym w) (fits (omega arith) (omega arith) (omega arith) (omega arith)),
      subst (λ (m : Line). All Fits (m.adds.rows n)) (sym w)
          ((All-append Fits ((rewriting p a).rows n) _).1 (rows_fit p a n (omega arith) (omega arith), rows_fit (p + node_count a) b (n + (rewriting p a).added) (omega arith) (omega arith))),
    )
line-fits p (until a b) n h k = (
  fits (omega arith) (omega arith) (omega arith) (omega arith),
  (All-append Fits ((rewriting p a).rows n) _).1
      (rows_fit p a n (omega arith) (omega arith), (fits (omega arith) (omega arith) (omega arith) (omega arith), (fits (omega arith) (omega arith) (omega arith) (omega arith), rows_fit (p + node_count a) b (suc (suc (n + (rewriting p a).added))) (omega arith) (omega arith)))),
)

lines_fit : (p n : ℕ) (cs : List Constraint) → p + length (all_expressions cs) ≤ 1024 → streams_after n (rewriting_lines p cs) ≤ 4095 → All Fits (own_rows n (rewriting_lines p cs)) × All Fits (added_rows n (rewriting_lines p cs))
unfolding rewriting_lines own_rows added_rows streams_after
lines_fit p n [] h k = (tt, tt)
lines_fit p n (c ∷ cs) h k =
    let e = expressions_counted c cs in
    let r = p + node_count (left_side c) + node_count (right_side c) in
    let m = n + (line_at p c).adds.added in
    let one = line-fits p c n (omega arith) (omega (arith, streams-more m (rewriting_lines r cs))) in
    let rest = lines_fit r m cs (omega arith) k in
    ((one.0, rest.0), (All-append Fits ((line_at p c).adds.rows n) _).1 (one.1, rest.1))

-- The four numbers of an entry fit two bytes each.
pub record FieldsFit (e : Entry) : Type 0 where
  pub left : e.left < 65536
  pub left_added : e.left_added < 65536
  pub right : e.right < 65536
  pub right_added : e.right_added < 65536

small_or_none : (b : Bool) {n : ℕ} → n < 65536 → cond b 0 n < 65536
small_or_none true h = omega arith
small_or_none false h = h

module _ {s : Sheet} (ok : Accepted s) where
  abbrev n : ℕ
  n = length s.streams

  streams-few : streams_after n (rewriting_lines 0 s.constraints) ≤ 8 + 3 * 1024
  streams-few = omega (arith, (lines_few 0 n s.constraints).0, ok.expression_count, ok.streams.stream_count)

  -- "8 streams", and three for each token that may add streams.
  pub streams-bounded : length (normal_form s).streams ≤ 8 + 3 * 1024
  streams-bounded = omega (arith, streams-few, streams-counted s 0 n s.constraints (stand_self (node_expressions s.constraints)), streams-length s)

  pub entries-bounded : (text : List ℕ) → length (normal_entries text s) ≤ 32 + 4 * 1024
  entries-bounded text = omega (arith, rows_few ok, length-map (normal_rows s) (entry_record text s))

  pub fields_fit : (text : List ℕ) → All FieldsFit (normal_entries text s)
  fields_fit text =
      let h = lines_fit 0 n s.constraints (omega (arith, ok.expression_count)) (omega (arith, streams-few)) in
      All-mapped FieldsFit (entry_record text s) (λ r f. record { left = small_or_none (left_is_node r.kind) f.left; left_added = f.left_added; right = small_or_none (right_is_node r.kind) f.right; right_added = f.right_added }) (normal_rows s)
      ((All-append Fits (own_rows n (rewriting_lines 0 s.constraints)) (added_rows n (rewriting_lines 0 s.constraints))).1 h)

  -- "Magnitudes to 1,000,000,000."
  pub ranges_bounded : (text : List ℕ) → All (λ e. InBounds (record { low = e.low; high = e.high })) (normal_entries text s)
  ranges_bounded text =
      All-mapped (λ e. InBounds (record { low = e.low; high = e.high })) (entry_record text s) (λ r k. record { above = k.bounds.above; below = k.bounds.below }) (normal_rows s) (sheet-sound s ok)

-- ---- spans

-- The places of a span are places of a text of this length.
pub record PlacesFit (n : ℕ) (e : Entry) : Type 0 where
  pub left : (e.left_begin ≤ e.left_end) × (e.left_end ≤ n)
  pub right : (e.right_begin ≤ e.right_end) × (e.right_end ≤ n)

each_within : {floors : Bool} {names : List Token} {text : List ℕ} {ss : List Span} {es : List Expression} → EachReads floors names text ss es → (e : ℕ) → ((span_before ss e).start ≤ (span_before ss e).end) × ((span_before ss e).end ≤ length text)
each_within h zero = (omega arith, omega arith)
each_within EachReads.none (suc i) = (omega arith, omega arith)
each_within (EachReads.more r h) (suc zero) = (omega (arith, r.ordered), r.within)
each_within (EachReads.more r h) (suc (suc i)) = each_within h (suc i)

pub places-fit : {text : List ℕ} {s : Sheet} → AnswerTo text (sheet s) → All (PlacesFit (length text)) (normal_entries text s)
places-fit {text} {s} r = fit (normal_rows s)
  where
    within : (e : ℕ) → ((span_before (spans_in text) e).start ≤ (span_before (spans_in text) e).end) × ((span_before (spans_in text) e).end ≤ length text)
    within e = each_within (text-spans r) e

    fit : (rows : List Row) → All (PlacesFit (length text)) (map (entry_record text s) rows)
    fit [] = tt
    fit (x ∷ rows) = (record { left = within (left_behind x); right = within (right_behind x) }, fit rows)
