-- One step of the spans of parts and expressions, by the first token.
use Prim.Native.Nat.{ℕ, suc}
use mathlib.Core.Path.{◌≡◌, ap, ◌∙◌}
use mathlib.Core.Bool.{Bool, true, false, cond}
use mathlib.Core.List.{List, [], ◌++◌}
use mathlib.Core.Option.{Option, some, none}
use borrow.Author.Tests.{eq-eqb, ne_eqb}
use lib.Dec.{eqb}
use Rattle.text.specs.Bytes.{bytes_of}
use Rattle.text.specs.Token.{same_bytes}
use Rattle.sheet.specs.Vocabulary.{Infix, operator_of, Prefix, prefix_of}
use Rattle.scan.specs.declared.Span.{Span}
use Rattle.spans.specs.Token.{token_from}
use Rattle.spans.specs.Spans.{Spanned, spanned, closed, token_in, branches_by, conditional_span, operation_span, span_after_part, expression_span, part_by, part_span_from, part_span_to, constraint_span, constraints_from, constraints_to}

module _ (text : List ℕ) where
  module _ (at : ℕ) {t : Span} (is : token_from text at ≡ t) where
    module _ (n : ℕ) where
      abbrev by_token : Bool → Option Prefix → Bool → Spanned
      by_token z f o = cond z (spanned [] t.end) (part_by text (part_span_to text n) t f o)

      part_step : part_span_to text (suc n) at ≡ by_token (eqb t.start t.end) (prefix_of (token_in text t)) (same_bytes (bytes_of "(") (token_in text t))
      unfolding part_span_to part_span_from
      part_step = ap (part_span_from text (part_span_to text n)) is

      pub step-none : t.start ≡ t.end → part_span_to text (suc n) at ≡ spanned [] t.end
      step-none h = part_step ∙ ap (λ z. by_token z (prefix_of (token_in text t)) (same_bytes (bytes_of "(") (token_in text t))) (eq-eqb t.start t.end h)

      module _ (stands : t.start ≡ t.end → ⊥) where
        step-some : part_span_to text (suc n) at ≡ part_by text (part_span_to text n) t (prefix_of (token_in text t)) (same_bytes (bytes_of "(") (token_in text t))
        step-some = part_step ∙ ap (λ z. by_token z (prefix_of (token_in text t)) (same_bytes (bytes_of "(") (token_in text t))) (ne_eqb t.start t.end stands)

        pub step-prefix : {f : Prefix} → prefix_of (token_in text t) ≡ some f → part_span_to text (suc n) at ≡ closed (part_span_to text n t.end).spans t.start (part_span_to text n t.end).next
        step-prefix e = step-some ∙ ap (λ f. part_by text (part_span_to text n) t f (same_bytes (bytes_of "(") (token_in text t))) e

        module _ (e : prefix_of (token_in text t) ≡ none) where
          step_plain : {m : Bool} → same_bytes (bytes_of "(") (token_in text t) ≡ m → part_span_to text (suc n) at ≡ part_by text (part_span_to text n) t none m
          step_plain b = step-some ∙ (λ i. part_by text (part_span_to text n) t (e i) (b i))

          pub step_bracket : same_bytes (bytes_of "(") (token_in text t) ≡ true
              → part_span_to text (suc n) at ≡ spanned (expression_span text (part_span_to text n) t.end).spans (token_from text (expression_span text (part_span_to text n) t.end).next).end
          step_bracket b = step_plain b

          pub step_leaf : same_bytes (bytes_of "(") (token_in text t) ≡ false → part_span_to text (suc n) at ≡ closed [] t.start t.end
          step_leaf b = step_plain b

    module _ (p : ℕ → Spanned) where
      abbrev by_word : Bool → Spanned
      by_word m = cond m (conditional_span text p t) (span_after_part text p t.start (p at))

      expression_step : expression_span text p at ≡ by_word (same_bytes (bytes_of "if") (token_in text t))
      unfolding expression_span
      expression_step = ap (λ u. cond (same_bytes (bytes_of "if") (token_in text u)) (conditional_span text p u) (span_after_part text p u.start (p at))) is

      pub step-conditional : same_bytes (bytes_of "if") (token_in text t) ≡ true → expression_span text p at ≡ closed (branches_by text p t.end).spans t.start (branches_by text p t.end).next
      step-conditional e = expression_step ∙ ap by_word e

      pub step_operation : same_bytes (bytes_of "if") (token_in text t) ≡ false → expression_span text p at ≡ span_after_part text p t.start (p at)
      step_operation e = expression_step ∙ ap by_word e

  module _ (p : ℕ → Spanned) (s : ℕ) (a : Spanned) {t : Span} (is : token_from text a.next ≡ t) where
    after-step : {o : Option Infix} → operator_of (token_in text t) ≡ o → span_after_part text p s a ≡ operation_span text p s a t o
    unfolding span_after_part
    after-step e = ap (λ u. operation_span text p s a u (operator_of (token_in text u))) is ∙ ap (operation_span text p s a t) e

    pub step-alone : operator_of (token_in text t) ≡ none → span_after_part text p s a ≡ a
    step-alone e = after-step e

    pub step-joined : {o : Infix} → operator_of (token_in text t) ≡ some o → span_after_part text p s a ≡ closed (a.spans ++ (p t.end).spans) s (p t.end).next
    step-joined e = after-step e

  pub step_branches : (p : ℕ → Spanned) (at : ℕ) {c a b : Spanned} → p at ≡ c → p (token_from text c.next).end ≡ a → p (token_from text a.next).end ≡ b → branches_by text p at ≡ spanned (c.spans ++ (a.spans ++ b.spans)) b.next
  unfolding branches_by
  step_branches p at {c} {a} {b} h k l =
      ap (λ x. let y = p (token_from text x.next).end in let z = p (token_from text y.next).end in spanned (x.spans ++ (y.spans ++ z.spans)) z.next) h
      ∙ ap (λ y. let z = p (token_from text y.next).end in spanned (c.spans ++ (y.spans ++ z.spans)) z.next) k
      ∙ ap (λ z. spanned (c.spans ++ (a.spans ++ z.spans)) z.next) l

  module _ (n at : ℕ) {t : Span} (is : token_from text at ≡ t) where
    lines_step : constraints_to text (suc n) at ≡ constraints_from text (constraints_to text n) at (eqb t.start t.end)
    unfolding constraints_to
    lines_step = ap (λ u. constraints_from text (constraints_to text n) at (eqb u.start u.end)) is

    pub step-last : t.start ≡ t.end → constraints_to text (suc n) at ≡ []
    step-last h = lines_step ∙ ap (constraints_from text (constraints_to text n) at) (eq-eqb t.start t.end h)

    pub step_line : (t.start ≡ t.end → ⊥) → constraints_to text (suc n) at ≡ (constraint_span text at).spans ++ constraints_to text n (constraint_span text at).next
    step_line h = lines_step ∙ ap (constraints_from text (constraints_to text n) at) (ne_eqb t.start t.end h)
