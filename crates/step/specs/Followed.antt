-- Records followed by steps. "Record" is document 01's term; a record is the list of its letters.
use Rattle.std.specs.Prelude.{ℕ, List, [], ◌∷◌}
use Rattle.step.specs.Step.{StepAnswer}
use Rattle.step.specs.RunningPlace.{StepRefused}
use Rattle.step.specs.Executable.{place_next}
use Rattle.step.specs.declared.Place.{Place}

-- The record leads by steps from the first state to the second: no step is refused, and each is taken from the state that the
-- step before it gave.
pub data Followed (table : List ℕ) (letters : ℕ) : ℕ → List ℕ → ℕ → Type 0 where
  stays : {state : ℕ} → Followed table letters state [] state
  steps : {state letter next last : ℕ} {rest : List ℕ} → StepAnswer table letters state letter next → ¬ StepRefused table letters state letter
      → Followed table letters next rest last → Followed table letters state (letter ∷ rest) last

-- The running place after a step for each letter of the record, in turn.
abbrev pub place_after : List ℕ → ℕ → Place → List ℕ → Place
place_after table letters place [] = place
place_after table letters place (letter ∷ rest) = place_after table letters (place_next table letters letter place) rest
