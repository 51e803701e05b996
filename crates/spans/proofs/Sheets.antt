-- The spans of a sheet's text are those of its nodes: the text of each is read as the expression of its node, in the order of the nodes. From Reading, line by
-- line: what stands behind a line begins with no operator. What is read has the meaning that the sheet's release gives it.
use Prim.Native.Nat.{ℕ, zero, suc, ◌+◌, ◌≤◌, ◌<◌}
use native.Mathlib.Omega.{arith}
use mathlib.Core.Path.{◌≡◌, refl, sym, ap, ap₂, subst, ◌∙◌}
use mathlib.Core.Bool.{Bool, true, false}
use mathlib.Core.List.{List, [], ◌∷◌, ◌++◌, map, append_assoc, nil≢cons}
use lib.ListN.{length, get_or, drop, length-append}
use Rattle.text.specs.Bytes.{Token, tokens}
use Rattle.meaning.specs.Expression.{Expression, integer, name, first, next, negation, binary, conditional, fby, Constraint, left_side, right_side, Sheet}
use Rattle.sheet.specs.Vocabulary.{Relation, sign, until_sign, related}
use Rattle.sheet.specs.Grammar.{ReadsConstraint, is_constraint}
use Rattle.sheet.specs.Release.{floors_quotients, floored, floored_constraint, meant, meant_constraints}
use Rattle.sheet.specs.Form.{release_in, release_lines, Constraints, names_of, HasForm, layout_in}
use Rattle.sheet.proofs.Release.{map-parts, floored-left, floored-right}
use Rattle.sheet.proofs.Vocabulary.{relation_no_operator}
use Rattle.sheet.proofs.Parser.{NoOperator}
use Rattle.scan.specs.declared.Span.{Span}
use Rattle.scan.specs.Place.{TokenAt, no_token, a_token}
use Rattle.spans.specs.Token.{token_from}
use Rattle.spans.specs.Postfix.{in_postfix, node_expressions}
use Rattle.spans.specs.Spans.{expression_span, part_span_to, constraint_span, constraints_to, constraints_offset, spans_in}
use Rattle.spans.specs.Reading.{SpanReads, EachReads}
use Rattle.spans.proofs.Token.{token-from}
use Rattle.spans.proofs.Steps.{step-last, step_line}
use Rattle.spans.proofs.Words.{no_operator_first}
use Rattle.spans.proofs.Lines.{start-within, spans-short, tokens_of, constraint-tokens}
use Rattle.spans.proofs.Reading.{each_append, word_at, token-from-past, expression_found}

left_is : (r : Relation) (a b : Expression) → left_side (related r a b) ≡ a
left_is (sign s) a b = refl
left_is until_sign a b = refl

right_is : (r : Relation) (a b : Expression) → right_side (related r a b) ≡ b
right_is (sign s) a b = refl
right_is until_sign a b = refl

module _ (names : List Token) (text : List ℕ) where
  no_token_lem : {at : ℕ} → at ≤ length text → tokens (drop at text) ≡ [] → (token_from text at).start ≡ (token_from text at).end
  no_token_lem {at} h e = by (token-from text at h)
    where
      by : TokenAt text at (token_from text at) → (token_from text at).start ≡ (token_from text at).end
      by (no_token s f n) = s ∙ sym f
      by (a_token f s w all) = absurd (nil≢cons (sym e ∙ all))

  some-token : {at : ℕ} {us : List Token} → at ≤ length text → tokens (drop at text) ≡ us → 0 < length us → (token_from text at).start ≡ (token_from text at).end → ⊥
  some-token {at} {us} h e l q = by (token-from text at h)
    where
      by : TokenAt text at (token_from text at) → ⊥
      by (no_token s f n) = let z = ap length (sym n ∙ e) in omega arith
      by (a_token f s w all) = omega arith

  -- ---- one line

  record LineFound (c : Constraint) (rest : List Token) (at : ℕ) : Type 0 where
    each : EachReads false names text (constraint_span text at).spans (in_postfix (left_side c) ++ in_postfix (right_side c))
    after : tokens (drop (constraint_span text at).next text) ≡ rest
    stands : (token_from text at).start ≡ (token_from text at).end → ⊥
    further : at < (constraint_span text at).next
    within : (constraint_span text at).next ≤ length text

  line-found : {ts : List Token} {c : Constraint} → ReadsConstraint names ts c → (rest : List Token) → NoOperator rest → (at : ℕ) → at ≤ length text → tokens (drop at text) ≡ ts ++ rest → LineFound c rest at
  line-found (is_constraint {ts} {us} t {r} {a} {b} h e k) rest f at i q =
      let whole : tokens (drop at text) ≡ ts ++ (t ∷ (us ++ rest)) = q ∙ append_assoc ts (t ∷ us) rest in
      let n = suc (length text) in
      let x = expression_found names text h n (t ∷ (us ++ rest)) (relation_no_operator t e) at i (omega arith) whole in
      let sign = word_at names text x.within x.after in
      let y = expression_found names text k n rest f (token_from text (expression_span text (part_span_to text n) at).next).end sign.within (omega arith) sign.after in
      let from = token-from-past names text i in
      let from2 = token-from-past names text sign.within in
      let z = length-append ts (t ∷ (us ++ rest)) in
      record {
        each = subst (EachReads false names text _) (sym (ap₂ (λ l m. in_postfix l ++ in_postfix m) (left_is r a b) (right_is r a b))) (each_append names text x.each y.each);
        after = y.after;
        stands = some-token i whole (omega arith);
        further = omega (arith, from, x.past, sign.forward, sign.ordered, from2, y.past);
        within = y.within;
      }

  -- ---- all lines

  line_first : {ts : List Token} {c : Constraint} → ReadsConstraint names ts c → (rest : List Token) → NoOperator (ts ++ rest)
  line_first (is_constraint {ts} {us} t h e k) rest = rw append_assoc (no_operator_first h (t ∷ (us ++ rest)))

  lines-first : {ls : List (List ℕ)} {cs : List Constraint} → Constraints names ls cs → NoOperator (tokens_of ls)
  lines-first Constraints.none = tt
  lines-first (Constraints.more {ls = ls} r rs) = line_first r (tokens_of ls)

  lines-found : {ls : List (List ℕ)} {cs : List Constraint} → Constraints names ls cs → (d at : ℕ) → at ≤ length text → length text < at + d → tokens (drop at text) ≡ tokens_of ls → EachReads false names text (constraints_to text d at) (node_expressions cs)
  unfolding node_expressions
  lines-found Constraints.none zero at i l q = absurd (omega arith)
  lines-found Constraints.none (suc n) at i l q = subst (λ ss. EachReads false names text ss []) (sym (step-last text n at refl (no_token_lem i q))) EachReads.none
  lines-found (Constraints.more r rs) zero at i l q = absurd (omega arith)
  lines-found (Constraints.more {ls = ls} {c = c} {cs = cs} r rs) (suc n) at i l q =
      let h = line-found r (tokens_of ls) (lines-first rs) at i q in
      let later = lines-found rs n (constraint_span text at).next h.within (omega (arith, h.further)) h.after in
      subst (λ ss. EachReads false names text ss (node_expressions (c ∷ cs))) (sym (step_line text n at refl h.stands)) (each_append names text h.each later)

module _ (floors : Bool) (names : List Token) (text : List ℕ) where
  pub each-length : {ss : List Span} {es : List Expression} → EachReads floors names text ss es → length ss ≡ length es
  each-length EachReads.none = refl
  each-length (EachReads.more r h) = ap suc (each-length h)

  pub each_at : {ss : List Span} {es : List Expression} → EachReads floors names text ss es → (i : ℕ) (s : Span) (e : Expression) → i < length es → SpanReads floors names text (get_or ss i s) (get_or es i e)
  each_at EachReads.none i s e l = absurd (omega arith)
  each_at (EachReads.more r h) zero s e l = r
  each_at (EachReads.more r h) (suc i) s e l = each_at h i s e (omega arith)

  -- What is read has the meaning of its release.
  each-meant : {ss : List Span} {es : List Expression} → EachReads false names text ss es → EachReads floors names text ss (map (meant floors) es)
  each-meant EachReads.none = EachReads.none
  each-meant (EachReads.more r h) = EachReads.more (record { ordered = r.ordered; within = r.within; first = r.first; last = r.last; written = r.written; reads = r.reads; meaning = ap (meant floors) r.meaning }) (each-meant h)

-- ---- the expressions of what a sheet means

floored-postfix : (e : Expression) → in_postfix (floored e) ≡ map floored (in_postfix e)
unfolding in_postfix
floored-postfix (integer z) = refl
floored-postfix (name k) = refl
floored-postfix (first e) = map-parts floored (in_postfix e) (first e ∷ []) (floored-postfix e) refl
floored-postfix (next e) = map-parts floored (in_postfix e) (next e ∷ []) (floored-postfix e) refl
floored-postfix (negation e) = map-parts floored (in_postfix e) (negation e ∷ []) (floored-postfix e) refl
floored-postfix (binary o a b) = map-parts floored (in_postfix a) (in_postfix b ++ (binary o a b ∷ [])) (floored-postfix a) (map-parts floored (in_postfix b) (binary o a b ∷ []) (floored-postfix b) refl)
floored-postfix (conditional c a b) =
    map-parts floored (in_postfix c) (in_postfix a ++ (in_postfix b ++ (conditional c a b ∷ []))) (floored-postfix c)
    (map-parts floored (in_postfix a) (in_postfix b ++ (conditional c a b ∷ [])) (floored-postfix a) (map-parts floored (in_postfix b) (conditional c a b ∷ []) (floored-postfix b) refl))
floored-postfix (fby a b) = map-parts floored (in_postfix a) (in_postfix b ++ (fby a b ∷ [])) (floored-postfix a) (map-parts floored (in_postfix b) (fby a b ∷ []) (floored-postfix b) refl)

floored-nodes : (cs : List Constraint) → node_expressions (map floored_constraint cs) ≡ map floored (node_expressions cs)
unfolding node_expressions
floored-nodes [] = refl
floored-nodes (c ∷ cs) =
    let left = ap in_postfix (floored-left c) ∙ floored-postfix (left_side c) in
    let right = ap in_postfix (floored-right c) ∙ floored-postfix (right_side c) in
    map-parts floored (in_postfix (left_side c) ++ in_postfix (right_side c)) (node_expressions cs) (map-parts floored (in_postfix (left_side c)) (in_postfix (right_side c)) left right) (floored-nodes cs)

kept : (es : List Expression) → map (meant false) es ≡ es
kept [] = refl
kept (e ∷ es) = ap (λ l. e ∷ l) (kept es)

meant-nodes : (floors : Bool) (cs : List Constraint) → map (meant floors) (node_expressions cs) ≡ node_expressions (meant_constraints floors cs)
meant-nodes true cs = sym (floored-nodes cs)
meant-nodes false cs = kept (node_expressions cs)

-- The spans of a text that has the form of a sheet.
pub spans-read : {text : List ℕ} {s : Sheet} → HasForm text s → length text ≤ 65535 → EachReads (floors_quotients (release_in text)) (names_of s.streams) text (spans_in text) (node_expressions s.constraints)
spans-read {text} {s} h l =
    let floors = floors_quotients (release_in text) in
    let names = names_of s.streams in
    let read = lines-found names text h.constraints (suc (length text)) (constraints_offset text) (start-within (release_lines text + (layout_in text).constraints_from) text) (omega arith) (constraint-tokens text) in
    subst (λ ss. EachReads floors names text ss (node_expressions s.constraints)) (sym (spans-short text l))
    (subst (EachReads floors names text _) (meant-nodes floors h.written ∙ ap node_expressions h.meaning) (each-meant floors names text read))
