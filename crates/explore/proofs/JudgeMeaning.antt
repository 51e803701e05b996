-- Judged constraints, in terms of the values of their sides: the answer is lawful exactly if every constraint permits it, and then the marks are
-- those before with those of the untils whose right side is true now. From the definition, constraint by constraint.
use Prim.Native.Nat.{ℕ, suc, ◌+◌, ◌*◌, ◌/◌, ◌%◌}
use native.Mathlib.Omega.{arith}
use mathlib.Core.Path.{◌≡◌, refl, ◌∙◌, ap}
use mathlib.Core.Bool.{Bool, true, false, cond, ◌&&◌, ◌||◌}
use mathlib.Core.List.{List, [], ◌∷◌}
use lib.Dec.{eqb}
use lib.ListN.{length, get_or}
use borrow.Author.Tests.{eq-eqb, ne_eqb}
use Rattle.std.specs.Prelude.{Option}
use Rattle.meaning.specs.Value.{Value, truth}
use Rattle.meaning.specs.Expression.{Constraint, always, until, holds}
use Rattle.meaning.specs.Window.{all_untils}
use Rattle.nodes.specs.Code.{relation_code, sign_at}
use Rattle.nodes.proofs.SignCodes.{sign-code}
use Rattle.prepare.specs.Key.{digit, marks_number}
use Rattle.sides.specs.Mark.{odd}
use Rattle.extend.specs.Step.{unlawful, lawful_with, with_digit, judged_from}

first_digit : (b : Bool) (m : ℕ) → odd (digit b + 2 * m) ≡ b
first_digit true m = eq-eqb ((1 + 2 * m) % 2) 1 (omega arith)
first_digit false m = ne_eqb ((0 + 2 * m) % 2) 1 (λ e. absurd (omega arith))

later-digits : (b : Bool) (m : ℕ) → (digit b + 2 * m) / 2 ≡ m
later-digits true m = omega arith
later-digits false m = omega arith

-- `left` and `right` have the values of the sides of each constraint.
module _ (relations lefts rights : List ℕ) (value : ℕ → Value) (left right : Constraint → Value) where
  -- the stored constraints from the place j on are these, and the nodes of their sides have these values
  abbrev pub Reads : ℕ → List Constraint → Type 0
  Reads j [] = Unit
  Reads j (c ∷ cs) = (get_or relations j 0 ≡ relation_code c) × (value (get_or lefts j 0) ≡ left c) × (value (get_or rights j 0) ≡ right c) × Reads (suc j) cs

  -- every constraint permits it, where the untils have these marks
  unfoldable pub permitted : List Constraint → List Bool → Bool
  permitted [] bs = true
  permitted (always s a b ∷ cs) bs = holds s (left (always s a b)) (right (always s a b)) && permitted cs bs
  permitted (until a b ∷ cs) [] = true
  permitted (until a b ∷ cs) (m ∷ bs) = ((m || truth (right (until a b))) || truth (left (until a b))) && permitted cs bs

  unfoldable pub marks_now : List Constraint → List Bool → List Bool
  marks_now [] bs = []
  marks_now (always s a b ∷ cs) bs = marks_now cs bs
  marks_now (until a b ∷ cs) [] = []
  marks_now (until a b ∷ cs) (m ∷ bs) = (m || truth (right (until a b))) ∷ marks_now cs bs

  abbrev judged : ℕ → ℕ → ℕ → Option ℕ
  judged = judged_from relations lefts rights value

  and_unlawful : (p q : Bool) (r : Option ℕ) → cond p (cond q r unlawful) unlawful ≡ cond (p && q) r unlawful
  and_unlawful true q r = refl
  and_unlawful false q r = refl

  digit-unlawful : (d q : Bool) (m : ℕ) → with_digit d (cond q (lawful_with m) unlawful) ≡ cond q (lawful_with (digit d + 2 * m)) unlawful
  digit-unlawful d true m = refl
  digit-unlawful d false m = refl

  pub judged-meaning : (cs : List Constraint) (j : ℕ) (bs : List Bool) → length bs ≡ length (all_untils cs) → Reads j cs
      → judged j (length cs) (marks_number bs) ≡ cond (permitted cs bs) (lawful_with (marks_number (marks_now cs bs))) unlawful
  unfolding judged_from permitted marks_now marks_number
  judged-meaning [] j bs h r = refl
  judged-meaning (always s a b ∷ cs) j bs h r =
      let c = always s a b in
      (λ i. cond (eqb (r.0 i) 7)
      (cond ((odd (marks_number bs) || truth (value (get_or rights j 0))) || truth (value (get_or lefts j 0))) (with_digit (odd (marks_number bs) || truth (value (get_or rights j 0))) (judged (suc j) (length cs) (marks_number bs / 2))) unlawful)
      (cond (holds (sign_at (r.0 i)) (r.1 i) (r.2 i)) (judged-meaning cs (suc j) bs h r.3 i) unlawful))
      ∙ (λ i. cond ((sign-code s).1 i)
      (cond ((odd (marks_number bs) || truth (value (get_or rights j 0))) || truth (value (get_or lefts j 0))) (with_digit (odd (marks_number bs) || truth (value (get_or rights j 0))) (judged (suc j) (length cs) (marks_number bs / 2))) unlawful)
      (cond (holds ((sign-code s).0 i) (left c) (right c)) (cond (permitted cs bs) (lawful_with (marks_number (marks_now cs bs))) unlawful) unlawful))
      ∙ and_unlawful (holds s (left c) (right c)) (permitted cs bs) (lawful_with (marks_number (marks_now cs bs)))
  judged-meaning (until a b ∷ cs) j [] h r = absurd (omega arith)
  judged-meaning (until a b ∷ cs) j (m ∷ bs) h r =
      let c = until a b in
      let d = m || truth (right c) in
      (λ i. cond (eqb (r.0 i) 7)
      (cond ((first_digit m (marks_number bs) i || truth (r.2 i)) || truth (r.1 i)) (with_digit (first_digit m (marks_number bs) i || truth (r.2 i)) (judged (suc j) (length cs) (later-digits m (marks_number bs) i))) unlawful)
      (cond (holds (sign_at (get_or relations j 0)) (value (get_or lefts j 0)) (value (get_or rights j 0))) (judged (suc j) (length cs) (digit m + 2 * marks_number bs)) unlawful))
      ∙ ap (λ x. cond (d || truth (left c)) (with_digit d x) unlawful) (judged-meaning cs (suc j) bs (omega arith) r.3)
      ∙ ap (λ x. cond (d || truth (left c)) x unlawful) (digit-unlawful d (permitted cs bs) (marks_number (marks_now cs bs)))
      ∙ and_unlawful (d || truth (left c)) (permitted cs bs) (lawful_with (digit d + 2 * marks_number (marks_now cs bs)))
