-- The step as functions that compute. `Rattle.step.proofs.Answers` joins each to its definition.
use Rattle.std.specs.Prelude.{ℕ, ◌%◌, Bool, not, cond, ◌||◌, ◌&&◌, List, eqb, ltb, leb, length}
use Rattle.automaton.specs.Table.{no_state}
use Rattle.automaton.specs.WellFormed.{most_rows}
use Rattle.step.specs.Step.{row_bytes, row_count, entry_followed, refused_step}
use Rattle.step.specs.RunningPlace.{steps_after}
use Rattle.step.specs.declared.Place.{Place}

-- refusal 11 applies
unfoldable pub is_refusal11 : List ℕ → ℕ → ℕ → ℕ → Bool
is_refusal11 table letters state letter =
    eqb letters 0 || not (eqb (length table % row_bytes letters) 0) || ltb most_rows (row_count table letters) || leb (row_count table letters) state
    || leb letters letter
    || (leb (row_count table letters) (entry_followed table letters state letter) && not (eqb (entry_followed table letters state letter) no_state))

-- refusal 12 applies
unfoldable pub is_refusal12 : List ℕ → ℕ → ℕ → ℕ → Bool
is_refusal12 table letters state letter = eqb (entry_followed table letters state letter) no_state

-- the answer of a step
unfoldable pub step_of : List ℕ → ℕ → ℕ → ℕ → ℕ
step_of table letters state letter =
    cond (is_refusal11 table letters state letter) (refused_step 11)
    (cond (is_refusal12 table letters state letter) (refused_step 12) (entry_followed table letters state letter))

-- the running place after a step
unfoldable pub place_next : List ℕ → ℕ → ℕ → Place → Place
place_next table letters letter before =
    cond (is_refusal11 table letters before.state letter || is_refusal12 table letters before.state letter) before
    (record { state = step_of table letters before.state letter; steps = steps_after before.steps })
