-- What it means that the value lines of a record play through, which states are reached before the first line with a fault, and which fault that
-- is (document 02, S-1). Over the streams of a sheet and the entries of a table.
use Rattle.std.specs.Prelude.{ℕ, suc, ◌≡◌, ◌⊎◌, List, [], ◌∷◌, ◌++◌}
use Rattle.std.proofs.Math.Option.{Option, none, some}
use Rattle.meaning.specs.Expression.{Stream}
use Rattle.meaning.specs.Letter.{letter_count}
use Rattle.automaton.specs.Table.{no_state}
use Rattle.automaton.specs.Stored.{entry_at}
use Rattle.print.specs.Text.{refusal_line}
use Rattle.records.specs.Line.{malformed, outside, letter, value_line}
use Rattle.replaying.specs.Replay.{LineOutcome, reaches, refuses, outcome_from, state_line, replay_heading}

-- ---- what is printed

-- "one such line per value line [..] with the state reached": a line for each state, numbered from this number on.
unfoldable pub state_lines : (number : ℕ) → List ℕ → List ℕ
state_lines number [] = []
state_lines number (state ∷ states) = state_line number state ++ state_lines (suc number) states

-- The refusal's line, or nothing.
abbrev pub refusal_text : Option ℕ → List ℕ
refusal_text none = []
refusal_text (some n) = refusal_line n

-- "prints `line state`, then one such line per value line, counted from 1"
abbrev pub replay_text : (states : List ℕ) (refusal : Option ℕ) → List ℕ
replay_text states refusal = replay_heading ++ (state_lines 1 states ++ refusal_text refusal)

-- ---- a record as a text

-- The names, and then the text of value lines.
abbrev pub under_names : (names text : List ℕ) → List ℕ
under_names names text = names ++ (10 ∷ text)

-- A text that a cut between two lines leaves in front: it is empty or ends with byte 10.
abbrev pub EndsWithLine : List ℕ → Type 0
EndsWithLine text = (text ≡ []) ⊎ ((before : List ℕ) × (text ≡ before ++ (10 ∷ [])))

-- "A record cut in two, the second half, under the names again, played from the state where the first ended without refusal, must print the same
-- states": of what is printed for the whole record and for each half.
pub record SameStatesPrinted (whole first_half second_half : List ℕ) : Type 0 where
  pub states : List ℕ
  pub states' : List ℕ
  pub refusal : Option ℕ
  pub first_printed : first_half ≡ replay_text states none
  pub second_printed : second_half ≡ replay_text states' refusal
  pub whole_printed : whole ≡ replay_text (states ++ states') refusal

-- ---- lines played from a state

abbrev pub states_then : (ℕ → List ℕ) → LineOutcome → List ℕ
states_then rest (reaches state) = state ∷ rest state
states_then rest (refuses n) = []

abbrev pub refusal_then : (ℕ → Option ℕ) → LineOutcome → Option ℕ
refusal_then rest (reaches state) = rest state
refusal_then rest (refuses n) = some n

module _ (ss : List Stream) (entries : List ℕ) where
  -- The states reached, line by line, up to the first line with a fault.
  unfoldable pub states_reached : (state : ℕ) → List (List ℕ) → List ℕ
  states_reached state [] = []
  states_reached state (l ∷ ls) = states_then (λ next. states_reached next ls) (outcome_from ss entries state (value_line ss l))

  -- The refusal of the first line with a fault, or none.
  unfoldable pub refusal_met : (state : ℕ) → List (List ℕ) → Option ℕ
  refusal_met state [] = none
  refusal_met state (l ∷ ls) = refusal_then (λ next. refusal_met next ls) (outcome_from ss entries state (value_line ss l))

  -- The lines lead from the first state to the second, and none has a fault: the record "ended without refusal".
  pub data PlaysThrough : ℕ → List (List ℕ) → ℕ → Type 0 where
    ends : {state : ℕ} → PlaysThrough state [] state
    goes_on : {state next last : ℕ} {l : List ℕ} {ls : List (List ℕ)} → outcome_from ss entries state (value_line ss l) ≡ reaches next
        → PlaysThrough next ls last → PlaysThrough state (l ∷ ls) last

  -- The fault of a line that is played from a state, by its number.
  pub data Fault (state : ℕ) (l : List ℕ) : ℕ → Type 0 where
    -- "13, [..] a line that is not one integer per stream (a byte refusal 1 bars makes either so)"
    fault13 : value_line ss l ≡ malformed → Fault state l 13
    -- "14, a value outside its range"
    fault14 : value_line ss l ≡ outside → Fault state l 14
    -- "line that has no way on, and prints `refused 12`"
    fault12 : {a : ℕ} → value_line ss l ≡ letter a → entry_at (letter_count ss) entries state a ≡ no_state → Fault state l 12

  -- "the first line with a fault": the lines before it play through.
  pub record FirstFault (state : ℕ) (ls : List (List ℕ)) (n : ℕ) : Type 0 where
    pub before : List (List ℕ)
    pub line : List ℕ
    pub after : List (List ℕ)
    pub split : ls ≡ before ++ (line ∷ after)
    pub reached : ℕ
    pub plays : PlaysThrough state before reached
    pub fault : Fault reached line n
