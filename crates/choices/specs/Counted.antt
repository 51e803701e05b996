-- The choices of streams that a host or a sheet describes, counted and filled into a list.
use Rattle.std.specs.Prelude.{ℕ, ◌/◌, ◌%◌, ◌≤◌, ◌<◌, ◌≡◌, Bool, true, false, cond, List, leb, length, get_or}
use Rattle.meaning.specs.Expression.{Stream}
use Rattle.meaning.specs.Letter.{letter_count}
use Rattle.meaning.specs.Choice.{choice_count, choice_of}
use Rattle.sheet.specs.Refusal.{letter_bound}
use Rattle.letters.specs.Described.{cut_count}
use Rattle.streams.specs.Description.{description_of}
use Rattle.streams.specs.declared.StreamsDescription.{StreamsDescription}
use Rattle.choices.specs.declared.ChoiceRead.{ChoiceRead}

-- The letters that at most eight streams make; a count is exact up to the bound.
abbrev pub letters_made : StreamsDescription → ℕ
letters_made s = cond (leb s.count 8) (cut_count (letter_count (description_of s))) 0

-- There are at most eight streams, some letters, and not too many.
pub record CanCount (s : StreamsDescription) : Type 0 where
  pub few_streams : s.count ≤ 8
  pub some_letter : 0 < letter_count (description_of s)
  pub few_letters : letter_count (description_of s) ≤ letter_bound

-- The number of the choices, and that of a letter's choice; a number that is no letter's is taken as a remainder.
pub record IsChosen (s : StreamsDescription) (letter : ℕ) (r : ChoiceRead) : Type 0 where
  pub number : r.number ≡ choice_of (description_of s) (letter % letter_count (description_of s))
  pub count : r.count ≡ choice_count (description_of s)

-- What `choice_count` gives back.
pub data ChoicesCounted (s : StreamsDescription) : ℕ → Type 0 where
  counted : CanCount s → ChoicesCounted s (choice_count (description_of s))
  uncounted : ¬ CanCount s → ChoicesCounted s 0

-- "The play table, one number a choice in each row": the rows that so many numbers hold.
pub record RowsHeld (s : StreamsDescription) (room rows : ℕ) : Type 0 where
  pub choices : ℕ
  pub is_count : ChoicesCounted s choices
  pub held : rows ≡ room / choices

-- The choices of all letters stand at the front of the list, and the rest is as it was.
pub record HoldsChoices (ss : List Stream) (out out' : List ℕ) : Type 0 where
  pub same : length out' ≡ length out
  pub choices : (a : ℕ) → a < letter_count ss → get_or out' a 0 ≡ choice_of ss a
  pub beyond : (a : ℕ) → letter_count ss ≤ a → get_or out' a 0 ≡ get_or out a 0

-- What `fill_choices` gives back and leaves.
pub data ChoicesFilled (s : StreamsDescription) (out : List ℕ) : Bool → List ℕ → Type 0 where
  filled : {out' : List ℕ} → CanCount s → letter_count (description_of s) ≤ length out → HoldsChoices (description_of s) out out' → ChoicesFilled s out true out'
  unfilled : ¬ (CanCount s × (letter_count (description_of s) ≤ length out)) → ChoicesFilled s out false out
