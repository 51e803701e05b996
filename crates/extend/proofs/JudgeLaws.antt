-- Constraints judged one after the other: what one turn of the loop makes of the marks so far. From the definitions in specs/Step and specs/Marking.
use Prim.Native.Nat.{ℕ, suc, ◌+◌, ◌-◌, ◌*◌, ◌/◌, ◌^◌, ◌≤◌, ◌<◌}
use native.Mathlib.Omega.{arith}
use native.Mathlib.Numerals.{add-one}
use native.Mathlib.Nat.{mul-add, mul_assoc, mul-zero, add-zero, pow-suc}
use lib.Pow.{pow_mono}
use mathlib.Core.Path.{◌≡◌, refl, sym, ◌∙◌, ap}
use mathlib.Core.Bool.{Bool, true, false, cond, ◌||◌}
use mathlib.Core.List.{List}
use lib.ListN.{length, get_or}
use borrow.Author.Tests.{eq-eqb, ne_eqb}
use Rattle.std.specs.Prelude.{Option, Some, None}
use Rattle.meaning.specs.Value.{Value, truth}
use Rattle.extend.specs.Step.{unlawful, lawful_with, with_digit, until_done, until_permitted, sign_holds, judged_from}
use Rattle.extend.specs.Marking.{begun, grown, marks_joined}
use Rattle.extend.specs.declared.judge.Marking.{Marking}

-- ---- marks

pub grown-is : (m : Marking) (done : Bool) (told : ℕ) → told ≡ cond done (m.told + m.weight) m.told
    → ◌≡◌ {A = Marking} (record { told = told; weight = m.weight * 2; rest = m.rest / 2 }) (grown m done)
grown-is m done told e = ap (λ t. record { told = t; weight = m.weight * 2; rest = m.rest / 2 }) e

-- The digit of one more until goes from the later marks to those that are told.
joined-digit : (m : Marking) (done : Bool) (r : Option ℕ) → marks_joined m (with_digit done r) ≡ marks_joined (grown m done) r
joined-digit m done None = refl
joined-digit m true (Some marks) =
    let e : m.told + m.weight * (1 + 2 * marks) ≡ m.told + m.weight + m.weight * 2 * marks =
    rw (mul-add, mul_assoc m.weight 2 marks) (omega arith) in
    ap lawful_with e
joined-digit m false (Some marks) =
    let e : m.told + m.weight * (0 + 2 * marks) ≡ m.told + m.weight * 2 * marks =
    rw (mul-add, mul_assoc m.weight 2 marks) (omega arith) in
    ap lawful_with e

module _ (relations lefts rights : List ℕ) (value : ℕ → Value) (marks : ℕ) where
  abbrev judged : ℕ → ℕ → ℕ → Option ℕ
  judged = judged_from relations lefts rights value

  -- what the whole list gives
  abbrev pub answer : Option ℕ
  answer = judged 0 (length relations) marks

  judged-until : (j n m : ℕ) → get_or relations j 0 ≡ 7
      → judged j (suc n) m ≡ cond (until_permitted relations lefts rights value j m) (with_digit (until_done relations lefts rights value j m) (judged (suc j) n (m / 2))) unlawful
  unfolding judged_from
  judged-until j n m e = simp (eq-eqb (get_or relations j 0) 7 e)

  judged-sign : (j n m : ℕ) → (get_or relations j 0 ≡ 7 → ⊥)
      → judged j (suc n) m ≡ cond (sign_holds relations lefts rights value j) (judged (suc j) n m) unlawful
  unfolding judged_from
  judged-sign j n m e = simp (ne_eqb (get_or relations j 0) 7 e)

  judged-none : (j m : ℕ) → judged j 0 m ≡ lawful_with 0
  unfolding judged_from
  judged-none j m = refl

  -- The first j constraints are judged, and the marks of their untils told.
  pub record Told (m : Marking) (j : ℕ) : Type 0 where
    pub within : j ≤ length relations
    pub below : m.told < m.weight
    pub weight_le : m.weight ≤ 2 ^ j
    pub same : answer ≡ marks_joined m (judged j (length relations - j) m.rest)

  pub told-start : Told (begun marks) 0
  told-start =
      let e : length relations - 0 ≡ length relations = omega arith in
      record { within = omega arith; below = omega arith; weight_le = omega arith; same = rw e (begun-joined answer) }
    where
      begun-joined : (r : Option ℕ) → r ≡ marks_joined (begun marks) r
      begun-joined (Some m) = ap lawful_with (omega arith)
      begun-joined None = refl

  module _ (m : Marking) (j : ℕ) (more : j < length relations) (t : Told m j) where
    left_is : length relations - j ≡ suc (length relations - (j + 1))
    left_is = omega arith

    pub weight_small : length relations ≤ 32 → m.weight < 4294967296
    weight_small h = let p : 2 ^ j ≤ 2 ^ 31 = pow_mono {j = 31} (omega arith) in omega (arith, t.weight_le)

    weight_more : m.weight * 2 ≤ 2 ^ (j + 1)
    weight_more = rw (add-one, pow-suc) (omega (arith, t.weight_le))

    -- an until
    module _ (is : get_or relations j 0 ≡ 7) (done : Bool) (told : done ≡ until_done relations lefts rights value j m.rest) where
      until-same : answer ≡ marks_joined m (cond (done || truth (value (get_or lefts j 0))) (with_digit done (judged (suc j) (length relations - (j + 1)) (m.rest / 2))) unlawful)
      until-same =
          t.same ∙ ap (λ n. marks_joined m (judged j n m.rest)) left_is ∙ ap (marks_joined m) (judged-until j (length relations - (j + 1)) m.rest is)
          ∙ ap (λ d. marks_joined m (cond (d || truth (value (get_or lefts j 0))) (with_digit d (judged (suc j) (length relations - (j + 1)) (m.rest / 2))) unlawful)) (sym told)

      pub told-until : (done || truth (value (get_or lefts j 0))) ≡ true → Told (grown m done) (j + 1)
      told-until e =
          record {
            within = omega arith;
            below = below-grown done;
            weight_le = weight_more;
            same =
                until-same ∙ ap (λ b. marks_joined m (cond b (with_digit done (judged (suc j) (length relations - (j + 1)) (m.rest / 2))) unlawful)) e
                ∙ joined-digit m done (judged (suc j) (length relations - (j + 1)) (m.rest / 2))
                ∙ ap (λ i. marks_joined (grown m done) (judged i (length relations - (j + 1)) (m.rest / 2))) (sym (add-one j));
          }
        where
          below-grown : (d : Bool) → cond d (m.told + m.weight) m.told < m.weight * 2
          below-grown true = omega (arith, t.below)
          below-grown false = omega (arith, t.below)

      pub until-unlawful : (done || truth (value (get_or lefts j 0))) ≡ false → unlawful ≡ answer
      until-unlawful e = sym (until-same ∙ ap (λ b. marks_joined m (cond b (with_digit done (judged (suc j) (length relations - (j + 1)) (m.rest / 2))) unlawful)) e)

    -- a sign
    module _ (is : get_or relations j 0 ≡ 7 → ⊥) where
      sign_same : answer ≡ marks_joined m (cond (sign_holds relations lefts rights value j) (judged (suc j) (length relations - (j + 1)) m.rest) unlawful)
      sign_same = t.same ∙ ap (λ n. marks_joined m (judged j n m.rest)) left_is ∙ ap (marks_joined m) (judged-sign j (length relations - (j + 1)) m.rest is)

      pub told-sign : sign_holds relations lefts rights value j ≡ true → Told m (j + 1)
      told-sign e =
          record {
            within = omega arith;
            below = t.below;
            weight_le = omega (arith, weight_more, t.weight_le);
            same =
                sign_same ∙ ap (λ b. marks_joined m (cond b (judged (suc j) (length relations - (j + 1)) m.rest) unlawful)) e
                ∙ ap (λ i. marks_joined m (judged i (length relations - (j + 1)) m.rest)) (sym (add-one j));
          }

      pub sign-unlawful : sign_holds relations lefts rights value j ≡ false → unlawful ≡ answer
      sign-unlawful e = sym (sign_same ∙ ap (λ b. marks_joined m (cond b (judged (suc j) (length relations - (j + 1)) m.rest) unlawful)) e)

  module _ (m : Marking) (j : ℕ) (end : length relations ≤ j) (t : Told m j) where
    pub told-fits : length relations ≤ 32 → m.told < 4294967296
    told-fits h = let p : 2 ^ j ≤ 2 ^ 32 = pow_mono {j = 32} (omega (arith, t.within)) in omega (arith, t.weight_le, t.below)

    pub told-end : lawful_with m.told ≡ answer
    told-end =
        let e : length relations - j ≡ 0 = omega arith in
        sym (t.same ∙ ap (λ n. marks_joined m (judged j n m.rest)) e ∙ ap (marks_joined m) (judged-none j m.rest) ∙ ap lawful_with (rw mul-zero (add-zero m.told)))
