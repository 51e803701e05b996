-- The refusals of a compile in the order in which they are judged, each with its number and its condition as written, and what it means that one
-- of them is given (document 01, "Who can bring about which refusal").
use Rattle.std.specs.Prelude.{ℕ, ◌≤◌, ◌<◌, ◌≡◌, cond, List, [], ◌∷◌, ◌++◌, eqb}
use Rattle.meaning.specs.Value.{Streams}
use Rattle.meaning.specs.Expression.{Sheet, Solution}
use Rattle.meaning.specs.Letter.{letter_count}
use Rattle.meaning.specs.Situation.{MoreSituations}
use Rattle.sheet.specs.Form.{HasForm}
use Rattle.sheet.specs.Refusal.{Refusal1, Refusal2, Refusal3, Refusal4, Refusal5, Refusal6, Refusal7}
use Rattle.outcome.specs.Compile.{situation_bound, Room, room_rows}

-- "8: all lent tables hold 4,096 rows or more, and there are more situations."
pub record Refusal8 (text : List ℕ) (room : Room) : Type 0 where
  pub source : Sheet
  pub form : HasForm text source
  pub enough_rows : situation_bound ≤ room_rows room (letter_count source.streams)
  pub more : MoreSituations source situation_bound

-- "9: no solution."
pub record Refusal9 (text : List ℕ) : Type 0 where
  pub source : Sheet
  pub form : HasForm text source
  pub unsolved : (w : Streams) → Solution source w → ⊥

-- "10: the fewest rows any lent table holds, R, is below 4,096, and the situations exceed R"
pub record Refusal10 (text : List ℕ) (room : Room) : Type 0 where
  pub source : Sheet
  pub form : HasForm text source
  pub few_rows : room_rows room (letter_count source.streams) < situation_bound
  pub more : MoreSituations source (room_rows room (letter_count source.streams))

pub record Refusal : Type 1 where
  pub number : ℕ
  pub condition : Type 0

-- Refusals 1 to 8 and 10: what is judged before 9. Refusals 1 to 7 have their conditions, each under its sentence, in `sheet` specs/Refusal.
abbrev pub others_than_nine : List ℕ → Room → List Refusal
others_than_nine text room =
    record { number = 1; condition = Refusal1 text }
    ∷ record { number = 2; condition = Refusal2 text }
    ∷ record { number = 3; condition = Refusal3 text }
    ∷ record { number = 4; condition = Refusal4 text }
    ∷ record { number = 5; condition = Refusal5 text }
    ∷ record { number = 6; condition = Refusal6 text }
    ∷ record { number = 7; condition = Refusal7 text }
    ∷ record { number = 8; condition = Refusal8 text room }
    ∷ record { number = 10; condition = Refusal10 text room }
    ∷ []

abbrev pub nine : List ℕ → Refusal
nine text = record { number = 9; condition = Refusal9 text }

-- "The lowest that applies to the whole sheet is given, but 10 comes before 9."
abbrev pub in_order : List ℕ → Room → List Refusal
in_order text room = others_than_nine text room ++ (nine text ∷ [])

-- None of these refusals applies.
abbrev pub NoneOf : List Refusal → Type 0
NoneOf [] = Unit
NoneOf (r ∷ rs) = (r.condition → ⊥) × NoneOf rs

-- Of these refusals the one with the number n is given: its condition holds, and that of none before it. 0 stands for no refusal, given where no
-- condition holds.
abbrev pub IsGiven : List Refusal → ℕ → Type 0
IsGiven [] n = n ≡ 0
IsGiven (r ∷ rs) n = cond (eqb n r.number) r.condition ((r.condition → ⊥) × IsGiven rs n)

-- None of refusals 1 to 8 and 10 applies, "by their conditions as written" (demand 3).
abbrev pub NoneApplies : List ℕ → Room → Type 0
NoneApplies text room = NoneOf (others_than_nine text room)
