-- On the text of a phrase the spans are those of its expressions: the text of each is read as the expression of its node, in the order of the nodes.
-- By recursion on how the tokens are read; for every bound that is large enough.
use Prim.Native.Nat.{ℕ, zero, suc, ◌+◌, ◌-◌, ◌≤◌, ◌<◌}
use native.Mathlib.Omega.{arith}
use mathlib.Core.Path.{◌≡◌, refl, sym, ap, subst, ◌∙◌}
use mathlib.Core.Bool.{false}
use mathlib.Core.List.{List, [], ◌∷◌, ◌++◌, append_assoc, append_cancel_right, nil≢cons, head-eq_of_cons-eq, tail-eq_of_cons-eq}
use mathlib.Core.Option.{none}
use lib.IntN.{ℤ}
use lib.Dec.{T}
use lib.ListN.{length, get_or, drop}
use Rattle.text.specs.Bytes.{Token, bytes_of, tokens}
use Rattle.text.specs.Token.{same_bytes}
use Rattle.meaning.specs.Expression.{Expression, integer, name, conditional}
use Rattle.sheet.specs.Vocabulary.{Infix, pointwise, followed_by, infixed, operator_tokens, operator_of, Prefix, first_prefix, next_prefix, not_prefix, prefixed, prefix_of}
use Rattle.sheet.specs.Grammar.{Phrase, part, expression, Reads, is_integer_token, is_stream, is_bracketed, is_prefixed, is_part, is_operation, is_conditional}
use Rattle.sheet.proofs.Vocabulary.{bracket_no_operator}
use Rattle.sheet.proofs.Parser.{NoOperator, Follows}
use Rattle.scan.specs.declared.Span.{Span}
use Rattle.scan.specs.Place.{between, TokenAt, no_token, a_token}
use Rattle.scan.specs.Start.{is_visible}
use Rattle.scan.proofs.Tokens.{between_none}
use Rattle.spans.specs.Token.{span, token_from}
use Rattle.spans.specs.Postfix.{in_postfix}
use Rattle.spans.specs.Spans.{Spanned, closed, token_in, expression_span, part_span_to}
use Rattle.spans.specs.Reading.{SpanReads, EachReads}
use Rattle.spans.proofs.Token.{Ended, Seen, token-from, token-same, token-ended, token-seen, token-ordered, tokens-up_to}
use Rattle.spans.proofs.Words.{integer_no_bracket, integer_no_prefix, name_no_bracket, name_no_prefix, bracket_no_prefix, part-first}
use Rattle.spans.proofs.Steps.{step-prefix, step_bracket, step_leaf, step-conditional, step_operation, step-alone, step-joined, step_branches}

-- The nodes of an expression with a prefix, and of one with an operator.
prefixed-nodes : (p : Prefix) (e : Expression) → in_postfix (prefixed p e) ≡ in_postfix e ++ (prefixed p e ∷ [])
unfolding in_postfix
prefixed-nodes first_prefix e = refl
prefixed-nodes next_prefix e = refl
prefixed-nodes not_prefix e = refl

joined-nodes : (o : Infix) (a b : Expression) → in_postfix (infixed o a b) ≡ (in_postfix a ++ in_postfix b) ++ (infixed o a b ∷ [])
unfolding in_postfix
joined-nodes (pointwise o) a b = sym (append_assoc (in_postfix a) (in_postfix b) (infixed (pointwise o) a b ∷ []))
joined-nodes followed_by a b = sym (append_assoc (in_postfix a) (in_postfix b) (infixed followed_by a b ∷ []))

conditional-nodes : (c a b : Expression) → in_postfix (conditional c a b) ≡ (in_postfix c ++ (in_postfix a ++ in_postfix b)) ++ (conditional c a b ∷ [])
unfolding in_postfix
conditional-nodes c a b = simp append_assoc

module _ (names : List Token) (text : List ℕ) where
  pub each_append : {ss ts : List Span} {es fs : List Expression} → EachReads false names text ss es → EachReads false names text ts fs → EachReads false names text (ss ++ ts) (es ++ fs)
  each_append EachReads.none k = k
  each_append (EachReads.more r h) k = EachReads.more r (each_append h k)

  -- The first of the tokens from a place on.
  pub record Word (at : ℕ) (t : Token) (ts : List Token) : Type 0 where
    pub stands : (token_from text at).start ≡ (token_from text at).end → ⊥
    pub forward : at ≤ (token_from text at).start
    pub ordered : (token_from text at).start < (token_from text at).end
    pub within : (token_from text at).end ≤ length text
    pub word : token_in text (token_from text at) ≡ t
    pub after : tokens (drop (token_from text at).end text) ≡ ts
    pub seen : Seen text (token_from text at)

  pub word_at : {at : ℕ} {t : Token} {ts : List Token} → at ≤ length text → tokens (drop at text) ≡ t ∷ ts → Word at t ts
  word_at {at} {t} {ts} h e = by (token-from text at h)
    where
      by : TokenAt text at (token_from text at) → Word at t ts
      by (no_token s f n) = absurd (nil≢cons (sym n ∙ e))
      by (a_token f s w all) =
          record {
            stands = λ q. omega arith;
            forward = f;
            ordered = s;
            within = w;
            word = head-eq_of_cons-eq (sym all ∙ e);
            after = tail-eq_of_cons-eq (sym all ∙ e);
            seen = token-seen text at h s;
          }

  no_word : {at : ℕ} → at ≤ length text → tokens (drop at text) ≡ [] → token_in text (token_from text at) ≡ []
  no_word {at} h e = by (token-from text at h)
    where
      by : TokenAt text at (token_from text at) → token_in text (token_from text at) ≡ []
      by (no_token s f n) = ap (λ k. between text k (token_from text at).end) (s ∙ sym f) ∙ between_none text (token_from text at).end
      by (a_token f s w all) = absurd (nil≢cons (sym e ∙ all))

  pub token-from-past : {at : ℕ} → at ≤ length text → at ≤ (token_from text at).start
  token-from-past {at} h = (token-ordered h (token-from text at h)).forward

  -- The spans of a phrase that is read as e and stands before the tokens `rest`.
  pub record PhraseRead (e : Expression) (rest : List Token) (at : ℕ) (w : Spanned) : Type 0 where
    pub each : EachReads false names text w.spans (in_postfix e)
    pub after : tokens (drop w.next text) ≡ rest
    pub ended : Ended text w.next
    pub last : T (is_visible (get_or text (w.next - 1) 0))
    pub past : (token_from text at).start < w.next
    pub within : w.next ≤ length text

  -- The text of the phrase from the place on.
  own-tokens : {at n : ℕ} (us rest : List Token) → at ≤ length text → tokens (drop at text) ≡ us ++ rest → tokens (drop n text) ≡ rest → Ended text n → (token_from text at).start < n → tokens (between text (token_from text at).start n) ≡ us
  own-tokens {at} {n} us rest h e k f l =
      let s = (token_from text at).start in
      let z : s ≤ n = omega arith in
      append_cancel_right (tokens (between text s n)) us rest
      (ap (λ ts. tokens (between text s n) ++ ts) (sym k) ∙ sym (tokens-up_to text z f) ∙ token-same text at h ∙ e)

  own-reads : {at n : ℕ} {us rest : List Token} {e : Expression} → Reads names expression us e → at ≤ length text → tokens (drop at text) ≡ us ++ rest → tokens (drop n text) ≡ rest → Ended text n → (token_from text at).start < n → n ≤ length text
      → Seen text (span (token_from text at).start n) → SpanReads false names text (span (token_from text at).start n) e
  own-reads {us = us} {rest} {e} r h q k f l w v = record { ordered = l; within = w; first = v.first; last = v.last; written = e; reads = subst (λ ts. Reads names expression ts e) (sym (own-tokens us rest h q k f l)) r; meaning = refl }

  -- A phrase whose last expression is the whole.
  closed-found : {at n : ℕ} {us rest : List Token} {e : Expression} {l : List Span} {es : List Expression} → Reads names expression us e → at ≤ length text → tokens (drop at text) ≡ us ++ rest → tokens (drop n text) ≡ rest → Ended text n → (token_from text at).start < n → n ≤ length text
      → Seen text (span (token_from text at).start n) → EachReads false names text l es → in_postfix e ≡ es ++ (e ∷ []) → PhraseRead e rest at (closed l (token_from text at).start n)
  closed-found r h q k f i w v each nodes =
      record {
        each = subst (EachReads false names text _) (sym nodes) (each_append each (EachReads.more (own-reads r h q k f i w v) EachReads.none));
        after = k;
        ended = f;
        last = v.last;
        past = i;
        within = w;
      }

  leaf_found : (n : ℕ) {at : ℕ} {t : Token} {rest : List Token} {e : Expression} → Reads names part (t ∷ []) e → in_postfix e ≡ e ∷ [] → prefix_of t ≡ none → same_bytes (bytes_of "(") t ≡ false → at ≤ length text → tokens (drop at text) ≡ t ∷ rest → PhraseRead e rest at (part_span_to text (suc n) at)
  leaf_found n {at} {t} {rest} {e} r nodes p b h q =
      let w = word_at h q in
      subst (PhraseRead e rest at) (sym (step_leaf text at refl n w.stands (ap prefix_of w.word ∙ p) (ap (same_bytes (bytes_of "(")) w.word ∙ b)))
      (closed-found (is_part r) h q w.after (token-ended text at h) w.ordered w.within w.seen EachReads.none nodes)

  -- What p gives for a bound.
  abbrev spans_to : Phrase → ℕ → ℕ → Spanned
  spans_to part n at = part_span_to text n at
  spans_to expression n at = expression_span text (part_span_to text n) at

  -- Where nothing, or no operator, follows a part, the expression ends with it.
  alone : (n : ℕ) {e : Expression} {rest : List Token} {at : ℕ} → NoOperator rest → PhraseRead e rest at (part_span_to text n at) → operator_of (token_in text (token_from text (part_span_to text n at).next)) ≡ none
  unfolding operator_of operator_tokens
  alone n {rest = []} f h = ap operator_of (no_word h.within h.after)
  alone n {rest = t ∷ ts} f h = ap operator_of (word_at h.within h.after).word ∙ f

  integer-nodes : (z : ℤ) → in_postfix (integer z) ≡ integer z ∷ []
  unfolding in_postfix
  integer-nodes z = refl

  name-nodes : (k : ℕ) → in_postfix (name k) ≡ name k ∷ []
  unfolding in_postfix
  name-nodes k = refl

  found : {k : Phrase} {us : List Token} {e : Expression} → Reads names k us e → (n : ℕ) (rest : List Token) → Follows k rest → (at : ℕ) → at ≤ length text → length text < at + n → tokens (drop at text) ≡ us ++ rest → PhraseRead e rest at (spans_to k n at)
  found (is_integer_token h) zero rest f at i l q = absurd (omega arith)
  found (is_integer_token {t} h) (suc n) rest f at i l q = leaf_found n (is_integer_token h) (integer-nodes _) (integer_no_prefix t h) (integer_no_bracket t h) i q
  found (is_stream h k) zero rest f at i l q = absurd (omega arith)
  found (is_stream {t} h k) (suc n) rest f at i l q = leaf_found n (is_stream h k) (name-nodes _) (name_no_prefix t k) (name_no_bracket t h) i q
  found (is_bracketed r) zero rest f at i l q = absurd (omega arith)
  found (is_bracketed {ts} {e} r) (suc n) rest f at i l q =
      let w = word_at i (q ∙ ap (λ us. bytes_of "(" ∷ us) (append_assoc ts (bytes_of ")" ∷ []) rest)) in
      let a = found r n (bytes_of ")" ∷ rest) bracket_no_operator (token_from text at).end w.within (omega (arith, w.forward, w.ordered)) w.after in
      let c = word_at a.within a.after in
      let from = token-from-past w.within in
      subst (PhraseRead e rest at) (sym (step_bracket text at refl n w.stands (ap prefix_of w.word ∙ bracket_no_prefix) (ap (same_bytes (bytes_of "(")) w.word)))
      (record {
        each = a.each;
        after = c.after;
        ended = token-ended text (expression_span text (part_span_to text n) (token_from text at).end).next a.within;
        last = c.seen.last;
        past = omega (arith, w.ordered, a.past, from, c.forward, c.ordered);
        within = c.within;
      })
  found (is_prefixed e r) zero rest f at i l q = absurd (omega arith)
  found (is_prefixed {t} {p} {ts} {e = a} e r) (suc n) rest f at i l q =
      let w = word_at i q in
      let b = found r n rest tt (token_from text at).end w.within (omega (arith, w.forward, w.ordered)) w.after in
      let from = token-from-past w.within in
      subst (PhraseRead (prefixed p a) rest at) (sym (step-prefix text at refl n w.stands (ap prefix_of w.word ∙ e)))
      (closed-found (is_part (is_prefixed e r)) i q b.after b.ended (omega (arith, w.ordered, b.past, from)) b.within (record { first = w.seen.first; last = b.last }) b.each (prefixed-nodes p a))
  found (is_part {ts} {e} r) n rest f at i l q =
      let a = found r n rest tt at i l q in
      let t = part-first r in
      let w = word_at i (q ∙ ap (λ us. us ++ rest) t.whole) in
      subst (PhraseRead e rest at) (sym (step_operation text at refl (part_span_to text n) (ap (same_bytes (bytes_of "if")) w.word ∙ t.no_if) ∙ step-alone text (part_span_to text n) (token_from text at).start (part_span_to text n at) refl (alone n f a))) a
  found (is_operation {ts} {us} t {o} {a = x} {b = y} r e s) n rest f at i l q =
      let whole : tokens (drop at text) ≡ ts ++ (t ∷ (us ++ rest)) = q ∙ append_assoc ts (t ∷ us) rest in
      let a = found r n (t ∷ (us ++ rest)) tt at i l whole in
      let first = part-first r in
      let w = word_at i (whole ∙ ap (λ vs. vs ++ (t ∷ (us ++ rest))) first.whole) in
      let sign = word_at a.within a.after in
      let from = token-from-past sign.within in
      let b = found s n rest tt (token_from text (part_span_to text n at).next).end sign.within (omega (arith, w.forward, a.past, sign.forward, sign.ordered)) sign.after in
      subst (PhraseRead (infixed o x y) rest at) (sym (step_operation text at refl (part_span_to text n) (ap (same_bytes (bytes_of "if")) w.word ∙ first.no_if) ∙ step-joined text (part_span_to text n) (token_from text at).start (part_span_to text n at) refl (ap operator_of sign.word ∙ e)))
      (closed-found (is_operation t r e s) i q b.after b.ended (omega (arith, a.past, sign.forward, sign.ordered, b.past, from)) b.within (record { first = w.seen.first; last = b.last }) (each_append a.each b.each) (joined-nodes o x y))
  found (is_conditional {ts} {us} {vs} {c = x} {a = y} {b = z} r s t) n rest f at i l q =
      let whole : tokens (drop at text) ≡ bytes_of "if" ∷ (ts ++ (bytes_of "then" ∷ (us ++ (bytes_of "else" ∷ (vs ++ rest))))) =
      q ∙ ap (λ w. bytes_of "if" ∷ w) (append_assoc ts (bytes_of "then" ∷ (us ++ (bytes_of "else" ∷ vs))) rest ∙ ap (λ w. ts ++ (bytes_of "then" ∷ w)) (append_assoc us (bytes_of "else" ∷ vs) rest)) in
      let p = part_span_to text n in
      let w = word_at i whole in
      let c = found r n (bytes_of "then" ∷ (us ++ (bytes_of "else" ∷ (vs ++ rest)))) tt (token_from text at).end w.within (omega (arith, w.forward, w.ordered)) w.after in
      let from = token-from-past w.within in
      let then = word_at c.within c.after in
      let from2 = token-from-past then.within in
      let a = found s n (bytes_of "else" ∷ (vs ++ rest)) tt (token_from text (p (token_from text at).end).next).end then.within (omega (arith, w.forward, w.ordered, from, c.past, then.forward, then.ordered)) then.after in
      let other = word_at a.within a.after in
      let from3 = token-from-past other.within in
      let b = found t n rest tt (token_from text (p (token_from text (p (token_from text at).end).next).end).next).end other.within (omega (arith, w.forward, w.ordered, from, c.past, then.forward, then.ordered, from2, a.past, other.forward, other.ordered)) other.after in
      subst (PhraseRead (conditional x y z) rest at) (sym (step-conditional text at refl p (ap (same_bytes (bytes_of "if")) w.word) ∙ ap (λ d. closed d.spans (token_from text at).start d.next) (step_branches text p (token_from text at).end refl refl refl)))
      (closed-found (is_conditional r s t) i q b.after b.ended (omega (arith, w.ordered, from, c.past, then.forward, then.ordered, from2, a.past, other.forward, other.ordered, from3, b.past)) b.within (record { first = w.seen.first; last = b.last })
      (each_append c.each (each_append a.each b.each)) (conditional-nodes x y z))

  -- The expression from a place on.
  pub expression_found : {us : List Token} {e : Expression} → Reads names expression us e → (n : ℕ) (rest : List Token) → NoOperator rest → (at : ℕ) → at ≤ length text → length text < at + n → tokens (drop at text) ≡ us ++ rest → PhraseRead e rest at (expression_span text (part_span_to text n) at)
  expression_found r n rest f at i l q = found r n rest f at i l q
