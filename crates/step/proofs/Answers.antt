-- The answer of a step is the one that `step_of` computes, and there is no other; so is the running place after it.
-- From the definitions of `specs/`, by the tests that reflect the two refusals.
use Prim.Native.Nat.{ℕ, ◌*◌, ◌%◌, ◌≤◌, ◌<◌}
use mathlib.Core.Path.{◌≡◌, refl, sym, subst, subst₂}
use mathlib.Core.Logic.{◌↔◌, ◌≢◌, ◌⊎◌, inl, inr}
use mathlib.Core.Bool.{Bool, not, cond, ◌||◌}
use mathlib.Core.List.{List}
use native.Mathlib.Decide.{dec_lt}
use native.Mathlib.Omega.{arith}
use lib.Dec.{eqb}
use lib.ListN.{length}
use Rattle.basics.proofs.Reflects.{Reflects, holds, fails, reflects_iff, or_reflects, and_reflects, not_reflects, eqb_reflects, ltb_reflects, leb_reflects}
use Rattle.automaton.specs.Table.{no_state}
use Rattle.automaton.specs.WellFormed.{most_rows}
use Rattle.step.specs.Step.{row_bytes, row_count, entry_followed, refused_step, Refusal11, Refusal12, StepAnswer}
use Rattle.step.specs.Step.Refusal11.{no_letters, not_whole_rows, too_many_rows, state_outside, letter_outside, no_row}
use Rattle.step.specs.Step.Refusal12.{missing}
use Rattle.step.specs.Step.StepAnswer.{refused11, refused12, moves}
use Rattle.step.specs.RunningPlace.{StepRefused, steps_after, PlaceAfter, PlaceStep}
use Rattle.step.specs.RunningPlace.PlaceAfter.{unchanged, changed}
use Rattle.step.specs.Executable.{is_refusal11, is_refusal12, step_of, place_next}
use Rattle.step.specs.declared.Place.{Place}
use Rattle.step.proofs.Refusals.{rest→notWhole, no_rest→whole}

-- the tests reflect the refusals

NotWhole : List ℕ → ℕ → Type 0
NotWhole table letters = (rows : ℕ) → length table ≢ rows * row_bytes letters

-- the parts of refusal 11, as a sum
Parts : List ℕ → ℕ → ℕ → ℕ → Type 0
Parts table letters state letter =
    ((((letters ≡ 0 ⊎ NotWhole table letters) ⊎ (most_rows < row_count table letters)) ⊎ (row_count table letters ≤ state)) ⊎ (letters ≤ letter))
    ⊎ ((row_count table letters ≤ entry_followed table letters state letter) × (entry_followed table letters state letter ≢ no_state))

of_parts : {table : List ℕ} {letters state letter : ℕ} → Parts table letters state letter → Refusal11 table letters state letter
unfolding Parts NotWhole
of_parts (inl (inl (inl (inl (inl none))))) = no_letters none
of_parts (inl (inl (inl (inl (inr no_length))))) = not_whole_rows no_length
of_parts (inl (inl (inl (inr many)))) = too_many_rows many
of_parts (inl (inl (inr outside))) = state_outside outside
of_parts (inl (inr outside)) = letter_outside outside
of_parts (inr beyond) = no_row beyond.0 beyond.1

to-parts : {table : List ℕ} {letters state letter : ℕ} → Refusal11 table letters state letter → Parts table letters state letter
unfolding Parts NotWhole
to-parts (no_letters none) = inl (inl (inl (inl (inl none))))
to-parts (not_whole_rows no_length) = inl (inl (inl (inl (inr no_length))))
to-parts (too_many_rows many) = inl (inl (inl (inr many)))
to-parts (state_outside outside) = inl (inl (inr outside))
to-parts (letter_outside outside) = inl (inr outside)
to-parts (no_row beyond some) = inr (beyond, some)

not_whole_reflected : (table : List ℕ) (letters : ℕ) → Reflects (NotWhole table letters) (not (eqb (length table % row_bytes letters) 0))
unfolding NotWhole
not_whole_reflected table letters =
    reflects_iff (rest→notWhole (length table) (row_bytes letters))
    (λ no_length none. no_length (row_count table letters) (no_rest→whole (length table) (row_bytes letters) none))
    (not_reflects (eqb_reflects (length table % row_bytes letters) 0))

pub refusal11_reflected : (table : List ℕ) (letters state letter : ℕ) → Reflects (Refusal11 table letters state letter) (is_refusal11 table letters state letter)
unfolding is_refusal11 Parts
refusal11_reflected table letters state letter =
    reflects_iff of_parts to-parts
    (or_reflects
    (or_reflects
    (or_reflects (or_reflects (or_reflects (eqb_reflects letters 0) (not_whole_reflected table letters)) (ltb_reflects most_rows (row_count table letters)))
    (leb_reflects (row_count table letters) state))
    (leb_reflects letters letter))
    (and_reflects (leb_reflects (row_count table letters) (entry_followed table letters state letter)) (not_reflects (eqb_reflects (entry_followed table letters state letter) no_state))))

pub refusal12_reflected : (table : List ℕ) (letters state letter : ℕ) → Reflects (Refusal12 table letters state letter) (is_refusal12 table letters state letter)
unfolding is_refusal12
refusal12_reflected table letters state letter =
    reflects_iff missing (elim [ missing none ↦ none ]) (eqb_reflects (entry_followed table letters state letter) no_state)

-- the answer

picked : {table : List ℕ} {letters state letter : ℕ} {a b : Bool} → Reflects (Refusal11 table letters state letter) a → Reflects (Refusal12 table letters state letter) b
    → StepAnswer table letters state letter (cond a (refused_step 11) (cond b (refused_step 12) (entry_followed table letters state letter)))
picked (holds eleven) (holds twelve) = refused11 eleven
picked (holds eleven) (fails no-twelve) = refused11 eleven
picked (fails no-eleven) (holds twelve) = refused12 no-eleven twelve
picked (fails no-eleven) (fails no-twelve) = moves no-eleven no-twelve

-- every step has the answer that is computed
pub step_of-answers : (table : List ℕ) (letters state letter : ℕ) → StepAnswer table letters state letter (step_of table letters state letter)
unfolding step_of
step_of-answers table letters state letter = picked (refusal11_reflected table letters state letter) (refusal12_reflected table letters state letter)

-- and no two answers
pub answer_unique : {table : List ℕ} {letters state letter r r' : ℕ} → StepAnswer table letters state letter r → StepAnswer table letters state letter r' → r ≡ r'
answer_unique (refused11 x) (refused11 y) = refl
answer_unique (refused11 x) (refused12 no-eleven y) = absurd (no-eleven x)
answer_unique (refused11 x) (moves no-eleven y) = absurd (no-eleven x)
answer_unique (refused12 no-eleven x) (refused11 y) = absurd (no-eleven y)
answer_unique (refused12 no-eleven x) (refused12 no-eleven' y) = refl
answer_unique (refused12 no-eleven x) (moves no-eleven' no-twelve) = absurd (no-twelve x)
answer_unique (moves no-eleven no-twelve) (refused11 y) = absurd (no-eleven y)
answer_unique (moves no-eleven no-twelve) (refused12 no-eleven' y) = absurd (no-twelve y)
answer_unique (moves no-eleven no-twelve) (moves no-eleven' no-twelve') = refl

-- so the relation is an equation
pub answer↔stepOf : (table : List ℕ) (letters state letter r : ℕ) → (r ≡ step_of table letters state letter) ↔ StepAnswer table letters state letter r
answer↔stepOf table letters state letter r = (
  λ same. subst (StepAnswer table letters state letter) (sym same) (step_of-answers table letters state letter),
  λ answer. answer_unique answer (step_of-answers table letters state letter),
)

-- which answers are refusals

-- a step that moves gives the number of one of at most 4,096 rows
pub moves-row : (table : List ℕ) (letters state letter : ℕ) → ¬ Refusal11 table letters state letter → ¬ Refusal12 table letters state letter
    → (entry_followed table letters state letter < row_count table letters) × (row_count table letters ≤ most_rows)
moves-row table letters state letter no-eleven no-twelve = (below, few)
  where
    below : entry_followed table letters state letter < row_count table letters
    below =
        elim (dec_lt (entry_followed table letters state letter) (row_count table letters)) [
          | yes h ↦ h
          | no above ↦ absurd (no-eleven (no_row (omega arith) (λ none. no-twelve (missing none))))
        ]

    few : row_count table letters ≤ most_rows
    few = elim (dec_lt most_rows (row_count table letters)) [ yes many ↦ absurd (no-eleven (too_many_rows many)) | no h ↦ omega arith ]

-- an answer below 65,536 is no refusal
pub answer-moves : {table : List ℕ} {letters state letter r : ℕ} → StepAnswer table letters state letter r → r < 65536 → ¬ StepRefused table letters state letter
answer-moves (refused11 x) below = absurd (omega (arith, below))
answer-moves (refused12 no-eleven x) below = absurd (omega (arith, below))
answer-moves (moves no-eleven no-twelve) below = elim [ inl x ↦ no-eleven x | inr x ↦ no-twelve x ]

-- and one of 65,536 or above is
pub answer-refused : {table : List ℕ} {letters state letter r : ℕ} → StepAnswer table letters state letter r → 65536 ≤ r → StepRefused table letters state letter
answer-refused (refused11 x) above = inl x
answer-refused (refused12 no-eleven x) above = inr x
answer-refused {table} {letters} {state} {letter} (moves no-eleven no-twelve) above =
    let row = moves-row table letters state letter no-eleven no-twelve in absurd (omega (arith, row.0, row.1))

-- the running place

refused_reflected : (table : List ℕ) (letters state letter : ℕ)
    → Reflects (StepRefused table letters state letter) (is_refusal11 table letters state letter || is_refusal12 table letters state letter)
refused_reflected table letters state letter = or_reflects (refusal11_reflected table letters state letter) (refusal12_reflected table letters state letter)

place_picked : {table : List ℕ} {letters letter : ℕ} {before : Place} {answer : ℕ} {b : Bool} → Reflects (StepRefused table letters before.state letter) b
    → PlaceAfter table letters letter before answer (cond b before (record { state = answer; steps = steps_after before.steps }))
place_picked (holds refused) = unchanged refused
place_picked (fails no_refusal) = changed no_refusal

-- a place with the state that a step gave and one more step counted is the place after it
pub place-changed : {table : List ℕ} {letters letter : ℕ} {before : Place} {answer : ℕ} {after : Place} → ¬ StepRefused table letters before.state letter
    → after.state ≡ answer → after.steps ≡ steps_after before.steps → PlaceAfter table letters letter before answer after
place-changed {table} {letters} {letter} {before} {answer} no_refusal state steps =
    subst (PlaceAfter table letters letter before answer) (λ i. record { state = sym state i; steps = sym steps i }) (changed no_refusal)

-- every step from a running place has the answer and the place that are computed
pub place_of-step : (table : List ℕ) (letters letter : ℕ) (before : Place)
    → PlaceStep table letters letter before (step_of table letters before.state letter) (place_next table letters letter before)
unfolding place_next
place_of-step table letters letter before =
    record {
      answers = step_of-answers table letters before.state letter;
      place = place_picked (refused_reflected table letters before.state letter);
    }

place_unique : {table : List ℕ} {letters letter : ℕ} {before : Place} {answer : ℕ} {after after' : Place} → PlaceAfter table letters letter before answer after
    → PlaceAfter table letters letter before answer after' → after ≡ after'
place_unique (unchanged x) (unchanged y) = refl
place_unique (unchanged x) (changed no_refusal) = absurd (no_refusal x)
place_unique (changed no_refusal) (unchanged y) = absurd (no_refusal y)
place_unique (changed no_refusal) (changed no-refusal') = refl

-- and no other
pub place_step_unique : {table : List ℕ} {letters letter : ℕ} {before : Place} {r r' : ℕ} {after after' : Place} → PlaceStep table letters letter before r after
    → PlaceStep table letters letter before r' after' → (r ≡ r') × (after ≡ after')
place_step_unique {table} {letters} {letter} {before} {after} x y =
    let same = answer_unique x.answers y.answers in
    (same, place_unique (subst (λ (answer : ℕ). PlaceAfter table letters letter before answer after) same x.place) y.place)

-- so the relation is two equations
pub place_step↔ : (table : List ℕ) (letters letter : ℕ) (before : Place) (r : ℕ) (after : Place)
    → ((r ≡ step_of table letters before.state letter) × (after ≡ place_next table letters letter before)) ↔ PlaceStep table letters letter before r after
place_step↔ table letters letter before r after = (
  λ same. subst₂ (PlaceStep table letters letter before) (sym same.0) (sym same.1) (place_of-step table letters letter before),
  λ step. place_step_unique step (place_of-step table letters letter before),
)
