-- The spans of the text of an accepted sheet: one for each node, and the text of each is read as the expression of its node. From the laws of `spans`, since an
-- accepted text is short.
use Prim.Native.Nat.{ℕ, ◌≤◌}
use native.Mathlib.Omega.{arith}
use native.Mathlib.Decide.{dec_le}
use mathlib.Core.Path.{◌≡◌, refl, sym, ◌∙◌, subst}
use mathlib.Core.List.{List, [], ◌∷◌, ◌++◌}
use lib.ListN.{length, length-append}
use Rattle.meaning.specs.Expression.{Constraint, left_side, right_side, Sheet}
use Rattle.sheet.specs.Release.{floors_quotients}
use Rattle.sheet.specs.Form.{release_in, line_tokens, layout_in}
use Rattle.sheet.specs.Refusal.{Refusal1, too_many_bytes, sheet, AnswerTo, accepted}
use Rattle.sheet.specs.Reading.{all_expressions}
use Rattle.sheet.proofs.Accepted.{accepted_facts}
use Rattle.nodes.specs.Postfix.{all_nodes}
use Rattle.spans.specs.Postfix.{in_postfix, node_expressions}
use Rattle.spans.specs.Spans.{spans_in}
use Rattle.spans.specs.Stored.{span_bound}
use Rattle.spans.specs.Reading.{EachReads}
use Rattle.spans.proofs.Sheets.{spans-read, each-length}
use Rattle.normal.proofs.SheetRows.{expressions_counted, nodes-total}

expressions_total : (cs : List Constraint) → length (node_expressions cs) ≡ length (all_expressions cs)
unfolding node_expressions
expressions_total [] = refl
expressions_total (c ∷ cs) =
    let rest = expressions_total cs in
    omega (arith, expressions_counted c cs, length-append (in_postfix (left_side c) ++ in_postfix (right_side c)) (node_expressions cs), length-append (in_postfix (left_side c)) (in_postfix (right_side c)))

short-text : {text : List ℕ} → (Refusal1 text → ⊥) → length text ≤ 65535
short-text {text} h = by (dec_le (length text) 16384)
  where
    by : Dec (length text ≤ 16384) → length text ≤ 65535
    by (yes l) = omega arith
    by (no l) = absurd (h (too_many_bytes (omega arith)))

module _ {text : List ℕ} {s : Sheet} where
  -- The texts of the spans are read, by the names of line 1, as the expressions of the sheet's nodes.
  pub text-spans : AnswerTo text (sheet s) → EachReads (floors_quotients (release_in text)) (line_tokens text (layout_in text).names_line) text (spans_in text) (node_expressions s.constraints)
  text-spans (accepted r1 r2 r3 r4 r5 r6 r7 f) = subst (λ names. EachReads (floors_quotients (release_in text)) names text (spans_in text) (node_expressions s.constraints)) (sym f.names) (spans-read f (short-text r1))

  pub spans-few : AnswerTo text (sheet s) → length (spans_in text) ≤ span_bound
  spans-few r = omega (arith, each-length _ _ text (text-spans r), expressions_total s.constraints, (accepted_facts r).expression_count)

pub nodes-spanned : (s : Sheet) → length (all_nodes 0 0 s.constraints) ≡ length (node_expressions s.constraints)
nodes-spanned s = nodes-total 0 0 s.constraints ∙ sym (expressions_total s.constraints)
