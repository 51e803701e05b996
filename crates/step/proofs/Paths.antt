-- A record is followed by steps exactly if it is a path of the table whose entries the bytes hold, and the steps lead to the
-- state to which the path leads. From the laws of stored numbers, at the width of an entry, and the definition of a step.
use Prim.Native.Nat.{ℕ, ◌+◌, ◌*◌, ◌/◌, ◌%◌, ◌≤◌, ◌<◌}
use mathlib.Core.Path.{◌≡◌, refl, sym, ap, subst, ◌∙◌}
use mathlib.Core.Logic.{◌↔◌, ◌≢◌, inl, inr, ⊎_elim}
use mathlib.Core.List.{List, [], ◌∷◌}
use native.Mathlib.Nat.{mul_assoc, mul-div_cancel, mul-mod_left}
use native.Mathlib.Omega.{arith}
use lib.ListN.{length, get_or}
use Rattle.stored.specs.Number.{table_bytes}
use Rattle.stored.proofs.Table.{length-table_bytes, number_at-table_bytes}
use Rattle.automaton.specs.Words.{AllBelow}
use Rattle.automaton.specs.Table.{no_state, walk, PathFrom, IsPath}
use Rattle.automaton.specs.Stored.{entry_at}
use Rattle.automaton.specs.WellFormed.{most_rows, WholeTable}
use Rattle.automaton.proofs.WellFormed.{place_inside, whole-entries, some-row-entry}
use Rattle.step.specs.Step.{entry_width, row_bytes, row_count, entry_followed, refused_step, StepAnswer}
use Rattle.step.specs.Step.Refusal12.{missing}
use Rattle.step.specs.Step.StepAnswer.{refused11}
use Rattle.step.specs.RunningPlace.{StepRefused}
use Rattle.step.specs.Followed.{Followed}
use Rattle.step.specs.Followed.Followed.{stays, steps}
use Rattle.step.proofs.Refusals.{Sound, not_refusal11, answers-12, answers-state}
use Rattle.step.proofs.Answers.{answer_unique, answer-refused}

abbrev entry_bytes : List ℕ → List ℕ
entry_bytes entries = table_bytes entry_width entries

module _ {k n : ℕ} {entries : List ℕ} (whole : WholeTable k n entries) where
  -- the bytes hold n whole rows

  bytes-length : length (entry_bytes entries) ≡ n * row_bytes k
  bytes-length = length-table_bytes entry_width entries ∙ ap (λ (len : ℕ). len * entry_width) whole.whole_rows ∙ mul_assoc n k entry_width

  row-some : 0 < row_bytes k
  row-some = let some : k ≢ 0 = whole.some_letter in omega arith

  rows : row_count (entry_bytes entries) k ≡ n
  rows = ap (λ (len : ℕ). len / row_bytes k) bytes-length ∙ mul-div_cancel n row-some

  no_rest : length (entry_bytes entries) % row_bytes k ≡ 0
  no_rest = ap (λ (len : ℕ). len % row_bytes k) bytes-length ∙ mul-mod_left n (row_bytes k)

  entry_fits : (i : ℕ) → i < length entries → get_or entries i 0 < 65536
  entry_fits i inside =
      let few : n ≤ most_rows = whole.few_rows in
      ⊎_elim (λ below. omega arith) (λ none. omega (arith, none)) (whole.state_or_none i inside)

  -- the entry that a step reads is the entry that was stored
  entry_read : (i a : ℕ) → i < n → a < k → entry_followed (entry_bytes entries) k i a ≡ entry_at k entries i a
  entry_read i a inside is_letter =
      let place : i * k + a < length entries = place_inside whole i a inside is_letter in
      number_at-table_bytes entry_width entries (i * k + a) place (entry_fits (i * k + a) place)

  entry-below : (i a : ℕ) → i < n → a < k → entry_at k entries i a ≢ no_state → entry_at k entries i a < n
  entry-below = some-row-entry (whole-entries whole)

  sound : (i a : ℕ) → i < n → a < k → Sound (entry_bytes entries) k i a
  sound i a inside is_letter =
      let all : row_count (entry_bytes entries) k ≡ n = rows in
      let few : n ≤ most_rows = whole.few_rows in
      record { some_letter = whole.some_letter; whole_rows = no_rest; few_rows = omega arith; is_state = omega arith; is_letter = is_letter }

  -- a step from a state is refused where the entry is 65,535, and else gives the entry
  step-moves : (i a : ℕ) → i < n → a < k → entry_at k entries i a ≢ no_state → StepAnswer (entry_bytes entries) k i a (entry_at k entries i a)
  step-moves i a inside is_letter some =
      let all : row_count (entry_bytes entries) k ≡ n = rows in
      let below : entry_at k entries i a < n = entry-below i a inside is_letter some in
      answers-state (sound i a inside is_letter) (entry_at k entries i a) (sym (entry_read i a inside is_letter)) some (omega arith)

  step_unrefused : (i a : ℕ) → i < n → a < k → entry_at k entries i a ≢ no_state → ¬ StepRefused (entry_bytes entries) k i a
  step_unrefused i a inside is_letter some =
      let all : row_count (entry_bytes entries) k ≡ n = rows in
      let below : entry_at k entries i a < n = entry-below i a inside is_letter some in
      let read : entry_followed (entry_bytes entries) k i a ≡ entry_at k entries i a = entry_read i a inside is_letter in
      elim [
        | inl eleven ↦ not_refusal11 (sound i a inside is_letter) (λ _. omega arith) eleven
        | inr twelve ↦ some (sym read ∙ (elim twelve [ missing none ↦ none ]))
      ]

  step-refused : (i a : ℕ) → i < n → a < k → entry_at k entries i a ≡ no_state → StepRefused (entry_bytes entries) k i a
  step-refused i a inside is_letter none = inr (missing (entry_read i a inside is_letter ∙ none))

  -- so a step is refused with 12 exactly if the entry is 65,535
  pub refused_12↔missing : (i a : ℕ) → i < n → a < k → StepAnswer (table_bytes entry_width entries) k i a (refused_step 12) ↔ (entry_at k entries i a ≡ no_state)
  refused_12↔missing i a inside is_letter = (to, λ none. answers-12 (sound i a inside is_letter) no_state (sym (entry_read i a inside is_letter ∙ none)) refl)
    where
      to : StepAnswer (entry_bytes entries) k i a (refused_step 12) → entry_at k entries i a ≡ no_state
      to answer =
          elim (answer-refused answer (omega arith)) [
            | inl eleven ↦ absurd (omega (arith, answer_unique answer (refused11 eleven)))
            | inr twelve ↦ sym (entry_read i a inside is_letter) ∙ (elim twelve [ missing none ↦ none ])
          ]

  -- from any state, and then from the start

  path-followed : (i : ℕ) (r : List ℕ) → i < n → AllBelow k r → PathFrom (entry_at k entries) i r
      → Followed (entry_bytes entries) k i r (walk (entry_at k entries) i r)
  path-followed i [] inside letters path = stays
  path-followed i (a ∷ r) inside letters path =
      steps (step-moves i a inside letters.0 path.0) (step_unrefused i a inside letters.0 path.0)
      (path-followed (entry_at k entries i a) r (entry-below i a inside letters.0 path.0) letters.1 path.1)

  followed-path : (i last : ℕ) (r : List ℕ) → i < n → AllBelow k r → Followed (entry_bytes entries) k i r last
      → PathFrom (entry_at k entries) i r × (last ≡ walk (entry_at k entries) i r)
  followed-path i last r inside letters stays = (tt, refl)
  followed-path i last r inside letters (steps {letter = a} {next = next} {rest = rest} answer unrefused followed) =
      let some : entry_at k entries i a ≢ no_state = λ none. unrefused (step-refused i a inside letters.0 none) in
      let same : next ≡ entry_at k entries i a = answer_unique answer (step-moves i a inside letters.0 some) in
      let below : next < n = subst (λ (state : ℕ). state < n) (sym same) (entry-below i a inside letters.0 some) in
      let later = followed-path next last rest below letters.1 followed in (
        (some, subst (λ (state : ℕ). PathFrom (entry_at k entries) state rest) same later.0),
        later.1 ∙ ap (λ (state : ℕ). walk (entry_at k entries) state rest) same,
      )

  pub followed↔path_from : (i : ℕ) → i < n → (r : List ℕ) (last : ℕ) → AllBelow k r
      → Followed (table_bytes entry_width entries) k i r last ↔ (PathFrom (entry_at k entries) i r × (last ≡ walk (entry_at k entries) i r))
  followed↔path_from i inside r last letters = (
    followed-path i last r inside letters,
    λ path. subst (Followed (entry_bytes entries) k i r) (sym path.1) (path-followed i r inside letters path.0),
  )

  pub followed↔path : (r : List ℕ) (last : ℕ) → AllBelow k r
      → Followed (table_bytes entry_width entries) k 0 r last ↔ (IsPath (entry_at k entries) r × (last ≡ walk (entry_at k entries) 0 r))
  followed↔path r last letters = followed↔path_from 0 whole.some_row r last letters

  -- so a record can be followed by steps exactly if it is a path
  pub path↔followed : (r : List ℕ) → AllBelow k r → IsPath (entry_at k entries) r ↔ ((last : ℕ) × Followed (table_bytes entry_width entries) k 0 r last)
  path↔followed r letters = (
    λ path. (walk (entry_at k entries) 0 r, path-followed 0 r whole.some_row letters path),
    λ followed. (followed-path 0 followed.0 r whole.some_row letters followed.1).0,
  )
