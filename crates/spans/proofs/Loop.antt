-- The loop over the constraint lines: the spans stored so far, and those of the lines from its place on, are all.
use Prim.Native.Nat.{ℕ, zero, suc, ◌+◌, ◌≤◌, ◌<◌}
use native.Mathlib.Omega.{arith}
use mathlib.Core.Path.{◌≡◌, refl, sym, ap, subst, ◌∙◌}
use mathlib.Core.List.{List, [], ◌++◌, append-nil, append_assoc}
use lib.ListN.{length, length-append}
use Rattle.scan.specs.declared.Span.{Span}
use Rattle.scan.specs.Place.{TokenAt}
use Rattle.spans.specs.Token.{token_from}
use Rattle.spans.specs.Spans.{constraint_span, constraints_to}
use Rattle.spans.specs.Stored.{span_bound, put_spans, PlaceIn, StoresSpans}
use Rattle.spans.specs.declared.Reached.{Reached}
use Rattle.spans.proofs.Token.{token-is, token-ordered}
use Rattle.spans.proofs.Tables.{put-append}
use Rattle.spans.proofs.Steps.{step-last, step_line}

abbrev all_from : List ℕ → ℕ → List Span
all_from text from = constraints_to text (suc (length text)) from

-- `left` is a bound for the lines that are left.
pub record InLoop (text : List ℕ) (from : ℕ) (old new : List ℕ) (at count : ℕ) : Type 0 where
  pub place : PlaceIn text at count
  pub done : List Span
  pub left : ℕ
  pub enough : length text < at + left
  pub all : all_from text from ≡ done ++ constraints_to text left at
  pub counted : count ≡ length done
  pub table : length done ≤ span_bound → new ≡ put_spans old 0 done

pub loop_starts : (text : List ℕ) (from : ℕ) (old : List ℕ) → PlaceIn text from 0 → InLoop text from old old from 0
loop_starts text from old p = record { place = p; done = []; left = suc (length text); enough = omega arith; all = refl; counted = refl; table = λ l. refl }

module _ {text : List ℕ} {from : ℕ} {old mid : List ℕ} {at count : ℕ} (h : InLoop text from old mid at count) {t : Span} (token : TokenAt text at t) where
  is : token_from text at ≡ t
  is = token-is text h.place.inside token

  module _ (e : t.start ≡ t.end) where
    all_done : all_from text from ≡ h.done
    all_done = h.all ∙ ap (λ x. h.done ++ x) (none h.left h.enough) ∙ append-nil h.done
      where
        none : (d : ℕ) → length text < at + d → constraints_to text d at ≡ []
        none zero k = absurd (omega (arith, h.place.inside))
        none (suc n) k = step-last text n at is e

    pub loop_ends : (count ≡ length (all_from text from)) × (count ≤ span_bound → mid ≡ put_spans old 0 (all_from text from))
    loop_ends = (h.counted ∙ ap length (sym all_done), λ l. h.table (omega (arith, h.counted)) ∙ ap (put_spans old 0) (sym all_done))

  module _ (stands : t.start ≡ t.end → ⊥) {new : List ℕ} {r : Reached} (k : StoresSpans (λ d. constraint_span text at) text at count mid new r) where
    pub loop_further : at < r.next
    loop_further = let o = token-ordered h.place.inside token in omega (arith, subst (λ (u : Span). u.end ≤ r.next) is k.past, o.forward, o.ordered, stands)

    pub loop_goes_on : InLoop text from old new r.next r.count
    loop_goes_on = by h.left h.enough h.all
      where
        by : (d : ℕ) → length text < at + d → all_from text from ≡ h.done ++ constraints_to text d at → InLoop text from old new r.next r.count
        by zero l e = absurd (omega (arith, h.place.inside))
        by (suc n) l e =
            let z = length-append h.done k.spans in
            let further = loop_further in
            record {
              place = record { short = h.place.short; inside = k.within; few = omega (arith, h.place.few, k.few) };
              done = h.done ++ k.spans;
              left = n;
              enough = omega arith;
              all = e ∙ ap (λ x. h.done ++ x) (step_line text n at is stands ∙ ap (λ c. c.spans ++ constraints_to text n c.next) (k.gives (suc (length text)) (omega arith))) ∙ sym (append_assoc h.done k.spans (constraints_to text n r.next));
              counted = omega (arith, k.counted, h.counted);
              table = λ f. put-append old 0 h.done k.spans (h.table (omega arith)) (omega (arith, h.counted)) (k.table (omega (arith, h.counted)));
            }
