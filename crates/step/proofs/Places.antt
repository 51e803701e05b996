-- The running place follows a record as steps do: it comes to the state to which they lead, and counts each letter up to the
-- top of the count. From `Answers`.
use Prim.Native.Nat.{ℕ, ◌+◌, ◌≤◌, min}
use mathlib.Core.Path.{◌≡◌, ap, ◌∙◌}
use mathlib.Core.List.{List}
use native.Mathlib.Omega.{arith}
use lib.ListN.{length}
use Rattle.step.specs.Step.{StepAnswer}
use Rattle.step.specs.RunningPlace.{StepRefused, most_steps, steps_after}
use Rattle.step.specs.RunningPlace.PlaceAfter.{changed}
use Rattle.step.specs.Executable.{place_next}
use Rattle.step.specs.Followed.{Followed, place_after}
use Rattle.step.specs.Followed.Followed.{stays, steps}
use Rattle.step.specs.declared.Place.{Place}
use Rattle.step.proofs.Answers.{place_of-step, place_step_unique}

-- the place after a step that moves
moved-place : {table : List ℕ} {letters letter next : ℕ} (before : Place) → StepAnswer table letters before.state letter next → ¬ StepRefused table letters before.state letter
    → place_next table letters letter before ≡ record { state = next; steps = steps_after before.steps }
moved-place {table} {letters} {letter} before answer unrefused =
    (place_step_unique (place_of-step table letters letter before) (record { answers = answer; place = changed unrefused })).1

followed-from : {table : List ℕ} {letters : ℕ} (state count last : ℕ) (r : List ℕ) → count ≤ most_steps → Followed table letters state r last
    → place_after table letters (record { state = state; steps = count }) r ≡ record { state = last; steps = min (count + length r) most_steps }
followed-from state count last r within stays = ap (λ (n : ℕ). record { state = state; steps = n }) (omega arith)
followed-from {table} {letters} state count last r within (steps {next = next} {rest = rest} answer unrefused followed) =
    ap (λ (place : Place). place_after table letters place rest) (moved-place (record { state = state; steps = count }) answer unrefused)
    ∙ followed-from next (steps_after count) last rest (omega arith) followed
    ∙ ap (λ (n : ℕ). record { state = last; steps = n }) (omega arith)

pub followed-place : {table : List ℕ} {letters : ℕ} (before : Place) (r : List ℕ) (last : ℕ) → before.steps ≤ most_steps
    → Followed table letters before.state r last
    → place_after table letters before r ≡ record { state = last; steps = min (before.steps + length r) most_steps }
followed-place before r last within followed = followed-from before.state before.steps last r within followed
