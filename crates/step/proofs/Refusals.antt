-- When a refusal applies and when none does, and what the answer then is. From the definitions of `specs/Step`.
use Prim.Native.Nat.{ℕ, suc, ◌+◌, ◌*◌, ◌/◌, ◌%◌, ◌≤◌, ◌<◌}
use mathlib.Core.Path.{◌≡◌, sym, ap, subst, ◌∙◌}
use mathlib.Core.Logic.{◌≢◌}
use mathlib.Core.List.{List}
use native.Mathlib.Nat.{div-add-mod', div-mul-le_self, mul-mod_left, mul-le-mul_right, suc-mul, mul_assoc}
use native.Mathlib.Omega.{arith}
use lib.ListN.{length}
use Rattle.automaton.specs.Table.{no_state}
use Rattle.automaton.specs.WellFormed.{most_rows}
use Rattle.step.specs.Step.{row_bytes, row_count, entry_followed, refused_step, Refusal11, StepAnswer}
use Rattle.step.specs.Step.Refusal11.{no_letters, not_whole_rows, too_many_rows, state_outside, letter_outside, no_row}
use Rattle.step.specs.Step.Refusal12.{missing}
use Rattle.step.specs.Step.StepAnswer.{refused11, refused12, moves}

-- a length that leaves a rest is the length of no number of rows
pub rest→notWhole : (len row : ℕ) → len % row ≢ 0 → (rows : ℕ) → len ≢ rows * row
rest→notWhole len row rest rows same = rest (ap (λ (n : ℕ). n % row) same ∙ mul-mod_left rows row)

-- a length that leaves no rest is that of its rows
pub no_rest→whole : (len row : ℕ) → len % row ≡ 0 → len ≡ len / row * row
no_rest→whole len row none = let all : len / row * row + len % row ≡ len = div-add-mod' len row in omega arith

-- the arguments of a step are sound as far as they can be judged before the entry is read
pub record Sound (table : List ℕ) (letters state letter : ℕ) : Type 0 where
  pub some_letter : letters ≢ 0
  pub whole_rows : length table % row_bytes letters ≡ 0
  pub few_rows : row_count table letters ≤ most_rows
  pub is_state : state < row_count table letters
  pub is_letter : letter < letters

-- the two bytes of the entry then lie within the table
pub entry-within : (table : List ℕ) (letters state letter : ℕ) → Sound table letters state letter → (state * letters + letter) * 2 + 1 < length table
entry-within table letters state letter sound =
    let len = length table in
    let rows : suc state * row_bytes letters ≤ len / row_bytes letters * row_bytes letters = mul-le-mul_right (row_bytes letters) sound.is_state in
    let held : len / row_bytes letters * row_bytes letters ≤ len = div-mul-le_self len (row_bytes letters) in
    let next : suc state * row_bytes letters ≡ state * row_bytes letters + row_bytes letters = suc-mul state (row_bytes letters) in
    let bytes : state * letters * 2 ≡ state * row_bytes letters = mul_assoc state letters 2 in
    omega arith

-- and refusal 11 applies only by the entry
pub not_refusal11 : {table : List ℕ} {letters state letter : ℕ} → Sound table letters state letter
    → (entry_followed table letters state letter ≢ no_state → entry_followed table letters state letter < row_count table letters)
    → ¬ Refusal11 table letters state letter
not_refusal11 sound row (no_letters none) = sound.some_letter none
not_refusal11 {table} {letters} sound row (not_whole_rows no_length) =
    no_length (row_count table letters) (no_rest→whole (length table) (row_bytes letters) sound.whole_rows)
not_refusal11 sound row (too_many_rows many) = omega arith
not_refusal11 sound row (state_outside outside) = omega arith
not_refusal11 sound row (letter_outside outside) = omega arith
not_refusal11 sound row (no_row beyond some_state) = let below = row some_state in omega arith

-- the three answers, where the entry was read
module _ {table : List ℕ} {letters state letter : ℕ} (sound : Sound table letters state letter) (entry : ℕ) (read : entry ≡ entry_followed table letters state letter) where
  pub answers-12 : entry ≡ no_state → StepAnswer table letters state letter (refused_step 12)
  answers-12 none =
      refused12 (not_refusal11 sound (λ some. absurd (some (sym read ∙ none)))) (missing (sym read ∙ none))

  pub answers-11 : entry ≢ no_state → row_count table letters ≤ entry → StepAnswer table letters state letter (refused_step 11)
  answers-11 some beyond = refused11 (no_row (omega arith) (λ none. some (read ∙ none)))

  pub answers-state : entry ≢ no_state → entry < row_count table letters → StepAnswer table letters state letter entry
  answers-state some below =
      subst (StepAnswer table letters state letter) (sym read)
      (moves (not_refusal11 sound (λ _. omega arith)) (elim [ missing none ↦ some (read ∙ none) ]))
