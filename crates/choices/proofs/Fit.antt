-- What is counted and filled for streams that an accepted sheet could have. From the definitions.
use Prim.Native.Nat.{ℕ, ◌/◌, ◌≤◌, ◌<◌}
use native.Mathlib.Omega.{arith}
use mathlib.Core.Path.{◌≡◌, refl, ◌∙◌, ap}
use mathlib.Core.Bool.{Bool}
use mathlib.Core.List.{List}
use lib.ListN.{length}
use Rattle.meaning.specs.Letter.{letter_count}
use Rattle.meaning.specs.Choice.{choice_count}
use Rattle.streams.specs.Description.{description_of, StreamsFit}
use Rattle.streams.specs.declared.StreamsDescription.{StreamsDescription}
use Rattle.streams.proofs.Fit.{streams-length}
use Rattle.choices.specs.Counted.{CanCount, ChoicesCounted, counted, uncounted, RowsHeld, HoldsChoices, ChoicesFilled, filled, unfilled}

module _ (s : StreamsDescription) where
  pub fit-can-count : {letters : ℕ} → StreamsFit s letters → 0 < letters → CanCount s
  fit-can-count fit some =
      record {
        few_streams = omega (arith, fit.accepted.stream_count, streams-length s 0 s.count);
        some_letter = omega (arith, fit.makes_letters);
        few_letters = omega (arith, fit.makes_letters, fit.few_letters);
      }

  module _ (can : CanCount s) where
    pub choices-counted : {n : ℕ} → ChoicesCounted s n → n ≡ choice_count (description_of s)
    choices-counted (counted x) = refl
    choices-counted (uncounted x) = absurd (x can)

    pub rows-counted : {room rows : ℕ} → RowsHeld s room rows → rows ≡ room / choice_count (description_of s)
    rows-counted {room} h = h.held ∙ ap (room /◌) (choices-counted h.is_count)

    pub choices-filled : {out out' : List ℕ} {b : Bool} → ChoicesFilled s out b out' → letter_count (description_of s) ≤ length out → HoldsChoices (description_of s) out out'
    choices-filled (filled x y h) room = h
    choices-filled (unfilled x) room = absurd (x (can, room))
