-- `answer_to` gives the one answer: the first refusal that applies, or the sheet. From the laws of Form and Refusal.
use Prim.Native.Nat.{ℕ}
use mathlib.Core.Path.{◌≡◌, refl, sym, ◌∙◌}
use mathlib.Core.Bool.{Bool, cond}
use mathlib.Core.List.{List}
use mathlib.Core.Option.{Option, some, none}
use Rattle.basics.proofs.Reflects.{Reflects, holds, fails, to_true, to_false}
use Rattle.meaning.specs.Expression.{Sheet}
use Rattle.sheet.specs.Form.{HasForm}
use Rattle.sheet.specs.Refusal.{Refusal1, Refusal2, Refusal3, Refusal4, Refusal5, Refusal6, Refusal7, Answer, refused, sheet, AnswerTo, refused1, refused2, refused3, refused4, refused5, refused6, refused7, accepted}
use Rattle.sheet.specs.Reading.{form_of, answer_to_sheet, answer_to_form, answer_to}
use Rattle.sheet.proofs.Form.{form_of-sound, form_of-complete}
use Rattle.sheet.proofs.Refusal.{refusal1_reflects, refusal2_reflects, refusal3_none, refusal4_reflects, refusal5_reflects, refusal6_reflects, refusal7_reflects, refusal4_form, refusal5_form, refusal6_form, refusal7_form}

module _ (text : List ℕ) where
  module _ (n₁ : Refusal1 text → ⊥) (n₂ : Refusal2 text → ⊥) where
    module _ (s : Sheet) (f : HasForm text s) where
      not-formless : Refusal3 text → ⊥
      not-formless r = r.formless s f

      correct_from_4 : {b₄ b₅ b₆ b₇ : Bool} → Reflects (Refusal4 text) b₄ → Reflects (Refusal5 text) b₅ → Reflects (Refusal6 text) b₆ → Reflects (Refusal7 text) b₇
          → AnswerTo text (cond b₄ (refused 4) (cond b₅ (refused 5) (cond b₆ (refused 6) (cond b₇ (refused 7) (sheet s)))))
      correct_from_4 (holds r) t₅ t₆ t₇ = refused4 n₁ n₂ not-formless r
      correct_from_4 (fails n₄) (holds r) t₆ t₇ = refused5 n₁ n₂ not-formless n₄ r
      correct_from_4 (fails n₄) (fails n₅) (holds r) t₇ = refused6 n₁ n₂ not-formless n₄ n₅ r
      correct_from_4 (fails n₄) (fails n₅) (fails n₆) (holds r) = refused7 n₁ n₂ not-formless n₄ n₅ n₆ r
      correct_from_4 (fails n₄) (fails n₅) (fails n₆) (fails n₇) = accepted n₁ n₂ not-formless n₄ n₅ n₆ n₇ f

      correct_sheet : AnswerTo text (answer_to_sheet s)
      unfolding answer_to_sheet
      correct_sheet = correct_from_4 (refusal4_reflects f) (refusal5_reflects f) (refusal6_reflects f) (refusal7_reflects f)

    correct_form : (o : Option Sheet) → form_of text ≡ o → AnswerTo text (answer_to_form o)
    correct_form none e = refused3 n₁ n₂ (refusal3_none text e)
    correct_form (some s) e = correct_sheet s (form_of-sound text s e)

  correct_from_1 : {b₁ b₂ : Bool} → Reflects (Refusal1 text) b₁ → Reflects (Refusal2 text) b₂ → AnswerTo text (cond b₁ (refused 1) (cond b₂ (refused 2) (answer_to_form (form_of text))))
  correct_from_1 (holds r) t₂ = refused1 r
  correct_from_1 (fails n₁) (holds r) = refused2 n₁ r
  correct_from_1 (fails n₁) (fails n₂) = correct_form n₁ n₂ (form_of text) refl

  -- `answer_to` gives an answer to the text.
  pub answer_correct : AnswerTo text (answer_to text)
  unfolding answer_to
  answer_correct = correct_from_1 (refusal1_reflects text) (refusal2_reflects text)

refusal3_no_form : {text : List ℕ} → Refusal3 text → form_of text ≡ none
refusal3_no_form {text} r = by (form_of text) refl
  where
    by : (o : Option Sheet) → form_of text ≡ o → o ≡ none
    by none e = refl
    by (some s) e = absurd (r.formless s (form_of-sound text s e))

-- Without refusals 1 and 2 the answer is that to the form.
past-2 : {text : List ℕ} {o : Option Sheet} → (Refusal1 text → ⊥) → (Refusal2 text → ⊥) → form_of text ≡ o → answer_to text ≡ answer_to_form o
unfolding answer_to
past-2 {text} n₁ n₂ e = rw (to_false (refusal1_reflects text) n₁, to_false (refusal2_reflects text) n₂, e)

module _ {text : List ℕ} where
  -- Any answer to the text is the one that `answer_to` gives.
  pub answer-complete : {a : Answer} → AnswerTo text a → answer_to text ≡ a
  unfolding answer_to answer_to_sheet
  answer-complete (refused1 r) = rw (to_true (refusal1_reflects text) r)
  answer-complete (refused2 n₁ r) = rw (to_false (refusal1_reflects text) n₁, to_true (refusal2_reflects text) r)
  answer-complete (refused3 n₁ n₂ r) = past-2 n₁ n₂ (refusal3_no_form r)
  answer-complete (refused4 n₁ n₂ n₃ r) =
      let (s, f) = refusal4_form r in
      past-2 n₁ n₂ (form_of-complete f) ∙ rw (to_true (refusal4_reflects f) r)
  answer-complete (refused5 n₁ n₂ n₃ n₄ r) =
      let (s, f) = refusal5_form r in
      past-2 n₁ n₂ (form_of-complete f) ∙ rw (to_false (refusal4_reflects f) n₄, to_true (refusal5_reflects f) r)
  answer-complete (refused6 n₁ n₂ n₃ n₄ n₅ r) =
      let (s, f) = refusal6_form r in
      past-2 n₁ n₂ (form_of-complete f) ∙ rw (to_false (refusal4_reflects f) n₄, to_false (refusal5_reflects f) n₅, to_true (refusal6_reflects f) r)
  answer-complete (refused7 n₁ n₂ n₃ n₄ n₅ n₆ r) =
      let (s, f) = refusal7_form r in
      past-2 n₁ n₂ (form_of-complete f) ∙ rw (to_false (refusal4_reflects f) n₄, to_false (refusal5_reflects f) n₅, to_false (refusal6_reflects f) n₆, to_true (refusal7_reflects f) r)
  answer-complete (accepted n₁ n₂ n₃ n₄ n₅ n₆ n₇ f) =
      past-2 n₁ n₂ (form_of-complete f) ∙ rw (to_false (refusal4_reflects f) n₄, to_false (refusal5_reflects f) n₅, to_false (refusal6_reflects f) n₆, to_false (refusal7_reflects f) n₇)

  -- A text has one answer.
  pub answer_unique : {a b : Answer} → AnswerTo text a → AnswerTo text b → a ≡ b
  answer_unique x y = sym (answer-complete x) ∙ answer-complete y
