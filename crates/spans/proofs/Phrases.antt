-- What the functions over parts and expressions store: each way that they go gives what their contracts say. From Steps and Tables.
use Prim.Native.Nat.{ℕ, zero, suc, ◌+◌, ◌≤◌, ◌<◌}
use native.Mathlib.Omega.{arith}
use mathlib.Core.Path.{◌≡◌, refl, sym, ap, subst, ◌∙◌}
use mathlib.Core.Bool.{true, false, true≢false}
use mathlib.Core.List.{List, [], ◌∷◌, ◌++◌}
use mathlib.Core.Option.{some, none, none-ne-some}
use lib.ListN.{length, length-append}
use Rattle.text.specs.Bytes.{Token, bytes_of}
use Rattle.text.specs.Token.{same_bytes}
use Rattle.sheet.specs.Vocabulary.{Infix, operator_tokens, operator_of, Prefix, prefix_of}
use Rattle.scan.specs.declared.Span.{Span}
use Rattle.scan.specs.Place.{TokenAt, no_token, a_token}
use Rattle.vocabulary.specs.Word.{code_or255, infix_code, prefix_code}
use Rattle.scan.proofs.Tokens.{between_none}
use Rattle.vocabulary.proofs.Words.{code-some}
use Rattle.spans.specs.Token.{span, token_from}
use Rattle.spans.specs.Spans.{Spanned, spanned, closed, token_in, branches_by, span_after_part, expression_span, part_span_to, constraint_span}
use Rattle.spans.specs.Stored.{span_bound, put_spans, PlaceIn, StoresSpans}
use Rattle.spans.specs.declared.Reached.{Reached}
use Rattle.spans.proofs.Token.{token-from, token-is, token-ordered}
use Rattle.spans.proofs.Tables.{put-append}
use Rattle.spans.proofs.Steps.{step-none, step-prefix, step_bracket, step_leaf, step-conditional, step_operation, step-alone, step-joined, step_branches}

-- What a function reached stands no earlier than what it began with.
pub reached_on : {S : ℕ → Spanned} {text : List ℕ} {at count : ℕ} {old new : List ℕ} {r : Reached} → StoresSpans S text at count old new r → at ≤ length text → at ≤ r.next
reached_on {text = text} {at = at} h l = let o = token-ordered l (token-from text at l) in omega (arith, h.past, o.forward, o.ordered)

-- A token that is a word stands behind the place from which it was sought.
pub word_after : {text : List ℕ} {at : ℕ} {t : Span} → TokenAt text at t → (token_in text t ≡ [] → ⊥) → at < t.end
word_after {text} {t = t} (no_token s e m) n = absurd (n (ap (λ k. token_in text (span k t.end)) (s ∙ sym e) ∙ between_none text t.end))
word_after (a_token f s w all) n = omega arith

if_some : {w : Token} → same_bytes (bytes_of "if") w ≡ true → w ≡ [] → ⊥
if_some {w} h e = true≢false (sym h ∙ ap (same_bytes (bytes_of "if")) e)

operator-some : {w : Token} {o : Infix} → operator_of w ≡ some o → w ≡ [] → ⊥
unfolding operator_of operator_tokens
operator-some {w} {o} h e = none-ne-some o (sym (ap operator_of e) ∙ h)

module _ {text : List ℕ} {at count : ℕ} (place : PlaceIn text at count) {t : Span} (token : TokenAt text at t) where
  is : token_from text at ≡ t
  is = token-is text place.inside token

  past_end : (n : ℕ) → t.end ≤ n → (token_from text at).end ≤ n
  past_end n h = subst (λ (u : Span). u.end ≤ n) (sym is) h

  -- Where there is a token, the bound for what stands behind it is one less.
  bounds : (S : ℕ → Spanned) (r : Spanned) → ((n : ℕ) → length text < suc (at + n) → S (suc n) ≡ r) → (d : ℕ) → length text < at + d → S d ≡ r
  bounds S r f zero l = absurd (omega (arith, place.inside))
  bounds S r f (suc n) l = f n (omega arith)

  -- ---- parts

  pub part_none : (old : List ℕ) → t.start ≡ t.end → StoresSpans (λ d. part_span_to text d at) text at count old old (record { next = t.end; count = count })
  part_none old h =
      let o = token-ordered place.inside token in
      record {
        spans = [];
        gives = bounds (λ d. part_span_to text d at) (spanned [] t.end) (λ n l. step-none text at is n h);
        counted = omega arith;
        table = λ l. refl;
        past = past_end t.end (omega arith);
        within = o.within;
        few = omega (arith, o.forward, o.ordered);
      }

  module _ (stands : t.start ≡ t.end → ⊥) where
    pub part-prefix : {f : Prefix} {old mid new : List ℕ} {r : Reached} → prefix_of (token_in text t) ≡ some f → StoresSpans (λ d. part_span_to text d t.end) text t.end count old mid r → (r.count < span_bound → new ≡ put_spans mid r.count (span t.start r.next ∷ []))
        → StoresSpans (λ d. part_span_to text d at) text at count old new (record { next = r.next; count = r.count + 1 })
    part-prefix {old = old} {r = r} e h q =
        let o = token-ordered place.inside token in
        let k : t.end ≤ r.next = reached_on h o.within in
        record {
          spans = h.spans ++ (span t.start r.next ∷ []);
          gives = bounds (λ d. part_span_to text d at) (closed h.spans t.start r.next) (λ n l. step-prefix text at is n stands e ∙ ap (λ a. closed a.spans t.start a.next) (h.gives n (omega (arith, o.forward, o.ordered))));
          counted = omega (arith, h.counted, length-append h.spans (span t.start r.next ∷ []));
          table = λ l. let z = length-append h.spans (span t.start r.next ∷ []) in put-append old count h.spans (span t.start r.next ∷ []) (h.table (omega arith)) h.counted (q (omega (arith, h.counted)));
          past = past_end r.next k;
          within = h.within;
          few = omega (arith, h.few, o.forward, o.ordered);
        }

    module _ (e : prefix_of (token_in text t) ≡ none) where
      pub part_bracket : {u : Span} {old new : List ℕ} {r : Reached} → same_bytes (bytes_of "(") (token_in text t) ≡ true → StoresSpans (λ d. expression_span text (part_span_to text d) t.end) text t.end count old new r → TokenAt text r.next u
          → StoresSpans (λ d. part_span_to text d at) text at count old new (record { next = u.end; count = r.count })
      part_bracket {u} {r = r} b h close =
          let o = token-ordered place.inside token in
          let v = token-ordered h.within close in
          let k : t.end ≤ r.next = reached_on h o.within in
          record {
            spans = h.spans;
            gives = bounds (λ d. part_span_to text d at) (spanned h.spans u.end) (λ n l. step_bracket text at is n stands e b
                ∙ ap (λ a. spanned a.spans (token_from text a.next).end) (h.gives n (omega (arith, o.forward, o.ordered)))
                ∙ ap (λ c. spanned h.spans c.end) (token-is text h.within close));
            counted = h.counted;
            table = h.table;
            past = past_end u.end (omega (arith, v.forward, v.ordered));
            within = v.within;
            few = omega (arith, h.few, o.forward, o.ordered, v.forward, v.ordered);
          }

      pub part_leaf : {old new : List ℕ} → same_bytes (bytes_of "(") (token_in text t) ≡ false → (count < span_bound → new ≡ put_spans old count (span t.start t.end ∷ [])) → StoresSpans (λ d. part_span_to text d at) text at count old new (record { next = t.end; count = count + 1 })
      part_leaf b q =
          let o = token-ordered place.inside token in
          record {
            spans = span t.start t.end ∷ [];
            gives = bounds (λ d. part_span_to text d at) (closed [] t.start t.end) (λ n l. step_leaf text at is n stands e b);
            counted = omega arith;
            table = λ l. q (omega arith);
            past = past_end t.end (omega arith);
            within = o.within;
            few = omega (arith, o.forward, o.ordered, stands);
          }

  -- ---- expressions

  pub expression_conditional : {old mid new : List ℕ} {r : Reached} → same_bytes (bytes_of "if") (token_in text t) ≡ true → StoresSpans (λ d. branches_by text (part_span_to text d) t.end) text t.end count old mid r → (r.count < span_bound → new ≡ put_spans mid r.count (span t.start r.next ∷ []))
      → StoresSpans (λ d. expression_span text (part_span_to text d) at) text at count old new (record { next = r.next; count = r.count + 1 })
  expression_conditional {old} {r = r} e h q =
      let o = token-ordered place.inside token in
      let k : t.end ≤ r.next = reached_on h o.within in
      let further : at < t.end = word_after token (if_some e) in
      record {
        spans = h.spans ++ (span t.start r.next ∷ []);
        gives = λ d l. step-conditional text at is (part_span_to text d) e ∙ ap (λ a. closed a.spans t.start a.next) (h.gives d (omega arith));
        counted = omega (arith, h.counted, length-append h.spans (span t.start r.next ∷ []));
        table = λ l. let z = length-append h.spans (span t.start r.next ∷ []) in put-append old count h.spans (span t.start r.next ∷ []) (h.table (omega arith)) h.counted (q (omega (arith, h.counted)));
        past = past_end r.next k;
        within = h.within;
        few = omega (arith, h.few);
      }

  module _ (e : same_bytes (bytes_of "if") (token_in text t) ≡ false) {old mid : List ℕ} {r : Reached} (h : StoresSpans (λ d. part_span_to text d at) text at count old mid r) {u : Span} (sign : TokenAt text r.next u) where
    left-given : (d : ℕ) → length text < at + d → expression_span text (part_span_to text d) at ≡ span_after_part text (part_span_to text d) t.start (spanned h.spans r.next)
    left-given d l = step_operation text at is (part_span_to text d) e ∙ ap (span_after_part text (part_span_to text d) t.start) (h.gives d l)

    pub expression_alone : operator_of (token_in text u) ≡ none → StoresSpans (λ d. expression_span text (part_span_to text d) at) text at count old mid r
    expression_alone n =
        record {
          spans = h.spans;
          gives = λ d l. left-given d l ∙ step-alone text (part_span_to text d) t.start (spanned h.spans r.next) (token-is text h.within sign) n;
          counted = h.counted;
          table = h.table;
          past = h.past;
          within = h.within;
          few = h.few;
        }

    pub expression_operation : {f : Infix} {late new : List ℕ} {b : Reached} → operator_of (token_in text u) ≡ some f → StoresSpans (λ d. part_span_to text d u.end) text u.end r.count mid late b → (b.count < span_bound → new ≡ put_spans late b.count (span t.start b.next ∷ []))
        → StoresSpans (λ d. expression_span text (part_span_to text d) at) text at count old new (record { next = b.next; count = b.count + 1 })
    expression_operation {b = b} f k q =
        let v = token-ordered h.within sign in
        let further : r.next < u.end = word_after sign (operator-some f) in
        let on : u.end ≤ b.next = reached_on k v.within in
        let from : at ≤ r.next = reached_on h place.inside in
        let all = length-append h.spans k.spans in
        let own = span t.start b.next ∷ [] in
        record {
          spans = (h.spans ++ k.spans) ++ own;
          gives = λ d l. left-given d l
              ∙ step-joined text (part_span_to text d) t.start (spanned h.spans r.next) (token-is text h.within sign) f
              ∙ ap (λ a. closed (h.spans ++ a.spans) t.start a.next) (k.gives d (omega arith));
          counted = omega (arith, h.counted, k.counted, all, length-append (h.spans ++ k.spans) own);
          table = λ l. let z = length-append (h.spans ++ k.spans) own in put-append old count (h.spans ++ k.spans) own (put-append old count h.spans k.spans (h.table (omega arith)) h.counted (k.table (omega (arith, h.counted)))) (omega (arith, h.counted, k.counted, all)) (q (omega (arith, h.counted, k.counted)));
          past = omega (arith, h.past);
          within = k.within;
          few = omega (arith, h.few, k.few);
        }

-- What is behind the word after a phrase stands at a place of the text, with room for its spans.
pub behind-word : {S : ℕ → Spanned} {text : List ℕ} {at count : ℕ} {old mid : List ℕ} {a : Reached} {u : Span} → PlaceIn text at count → StoresSpans S text at count old mid a → TokenAt text a.next u → PlaceIn text u.end a.count
behind-word place h sign =
    let v = token-ordered h.within sign in
    record { short = place.short; inside = v.within; few = omega (arith, place.few, h.few, v.forward, v.ordered) }

pub place-behind : {text : List ℕ} {at count : ℕ} {t : Span} → PlaceIn text at count → TokenAt text at t → PlaceIn text t.end count
place-behind p token = let o = token-ordered p.inside token in record { short = p.short; inside = o.within; few = omega (arith, p.few, o.forward, o.ordered) }

-- ---- the parts after `if`, and the sides of a constraint

module _ {text : List ℕ} {at count : ℕ} (place : PlaceIn text at count) {S T : ℕ → Spanned} {old mid new : List ℕ} {a b : Reached} {u : Span}
    (h : StoresSpans S text at count old mid a) (sign : TokenAt text a.next u) (k : StoresSpans T text u.end a.count mid new b) where
  -- Two phrases with a word between them.
  pub both : (R : ℕ → Spanned) → ((d : ℕ) → length text < at + d → R d ≡ spanned (h.spans ++ k.spans) b.next) → StoresSpans R text at count old new b
  both R gives =
      let v = token-ordered h.within sign in
      let on : u.end ≤ b.next = reached_on k v.within in
      record {
        spans = h.spans ++ k.spans;
        gives = gives;
        counted = omega (arith, h.counted, k.counted, length-append h.spans k.spans);
        table = λ l. let z = length-append h.spans k.spans in put-append old count h.spans k.spans (h.table (omega arith)) h.counted (k.table (omega (arith, h.counted)));
        past = omega (arith, h.past, v.forward, v.ordered);
        within = k.within;
        few = omega (arith, h.few, k.few, v.forward, v.ordered);
      }

-- The parts after `if`.
pub branches_found : {text : List ℕ} {at count : ℕ} {old mid late new : List ℕ} {x y z : Reached} {u v : Span} → PlaceIn text at count → StoresSpans (λ d. part_span_to text d at) text at count old mid x → TokenAt text x.next u
    → StoresSpans (λ d. part_span_to text d u.end) text u.end x.count mid late y → TokenAt text y.next v → StoresSpans (λ d. part_span_to text d v.end) text v.end y.count late new z
    → StoresSpans (λ d. branches_by text (part_span_to text d) at) text at count old new z
unfolding both
branches_found {text} {at} {z = z} {u} {v} place c then a other b =
    let o = token-ordered c.within then in
    let i = token-ordered a.within other in
    let after : at ≤ u.end = let k = reached_on c place.inside in omega (arith, o.forward, o.ordered) in
    let later : u.end ≤ v.end = let k = reached_on a o.within in omega (arith, i.forward, i.ordered) in
    both place c then (both (behind-word place c then) a other b (λ d. spanned (a.spans ++ b.spans) z.next) (λ d l. refl)) (λ d. branches_by text (part_span_to text d) at)
    (λ d l. step_branches text (part_span_to text d) at (c.gives d l)
    (ap (λ (t : Span). part_span_to text d t.end) (token-is text c.within then) ∙ a.gives d (omega arith))
    (ap (λ (t : Span). part_span_to text d t.end) (token-is text a.within other) ∙ b.gives d (omega arith)))

-- The two sides of a constraint.
pub constraint-found : {text : List ℕ} {at count : ℕ} {old mid new : List ℕ} {x y : Reached} {u : Span} → PlaceIn text at count → StoresSpans (λ d. expression_span text (part_span_to text d) at) text at count old mid x → TokenAt text x.next u
    → StoresSpans (λ d. expression_span text (part_span_to text d) u.end) text u.end x.count mid new y → StoresSpans (λ d. constraint_span text at) text at count old new y
constraint-found {text} {at} {x = x} {u = u} place a sign b =
    let whole = suc (length text) in
    both place a sign b (λ d. constraint_span text at)
    (λ d l. ap (λ e. let f = expression_span text (part_span_to text whole) (token_from text e.next).end in spanned (e.spans ++ f.spans) f.next) (a.gives whole (omega arith))
    ∙ ap (λ (t : Span). let f = expression_span text (part_span_to text whole) t.end in spanned (a.spans ++ f.spans) f.next) (token-is text a.within sign)
    ∙ ap (λ f. spanned (a.spans ++ f.spans) f.next) (b.gives whole (omega arith)))

-- ---- what the number of a word says of it

pub a-prefix : (w : Token) {k : ℕ} → k ≡ code_or255 prefix_code (prefix_of w) → (k ≡ 255 → ⊥) → (p : Prefix) × (prefix_of w ≡ some p)
a-prefix w e n = let (p, is, code) = code-some prefix_code (prefix_of w) (λ h. n (e ∙ h)) in (p, is)

pub an_operator : (w : Token) {k : ℕ} → k ≡ code_or255 infix_code (operator_of w) → (k ≡ 255 → ⊥) → (o : Infix) × (operator_of w ≡ some o)
an_operator w e n = let (o, is, code) = code-some infix_code (operator_of w) (λ h. n (e ∙ h)) in (o, is)
