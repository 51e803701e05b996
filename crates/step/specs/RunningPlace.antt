-- The running place (document 01): "The running place is one record that each step changes: the state and the steps taken
-- (at most 4,294,967,295; the count then stays)."
use Rattle.std.specs.Prelude.{ℕ, ◌+◌, min, ◌⊎◌, List}
use Rattle.step.specs.Step.{Refusal11, Refusal12, StepAnswer}
use Rattle.step.specs.declared.Place.{Place}

-- "at most 4,294,967,295"
abbrev pub most_steps : ℕ
most_steps = 4294967295

-- the steps taken after one more: "the count then stays"
abbrev pub steps_after : ℕ → ℕ
steps_after steps = min (steps + 1) most_steps

-- the step is refused, by the host's fault or by the river
abbrev pub StepRefused : List ℕ → ℕ → ℕ → ℕ → Type 0
StepRefused table letters state letter = Refusal11 table letters state letter ⊎ Refusal12 table letters state letter

-- The running place after a step from the place `before` with that answer.
pub data PlaceAfter (table : List ℕ) (letters letter : ℕ) (before : Place) (answer : ℕ) : Place → Type 0 where
  -- after a refusal it is unchanged
  unchanged : StepRefused table letters before.state letter → PlaceAfter table letters letter before answer before
  -- a step that moves stores the next state and is counted
  changed : ¬ StepRefused table letters before.state letter
      → PlaceAfter table letters letter before answer (record { state = answer; steps = steps_after before.steps })

-- What a step from the running place gives: the answer of a step from its state, and the place after it.
pub record PlaceStep (table : List ℕ) (letters letter : ℕ) (before : Place) (answer : ℕ) (after : Place) : Type 0 where
  pub answers : StepAnswer table letters before.state letter answer
  pub place : PlaceAfter table letters letter before answer after
