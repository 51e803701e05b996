-- Rows turned in sweeps: what is known after one row, after a sweep over all rows, and after all sweeps.
use Rattle.std.specs.Prelude.{◌≡◌, Bool, true, false, List, ℕ, ◌*◌, ◌≤◌, length, get_or, set}
use Rattle.automaton.specs.Stored.{entry_at}
use Rattle.automaton.specs.WellFormed.{most_rows}
use Rattle.automaton.specs.PlayTable.{Game}
use Rattle.automaton.specs.Ranking.{Turnable, NoneToTurn, turned_to, RankTurns, RankingPasses}
use Rattle.winning_rows.specs.Answers.{ChoicesFit}

-- The game on so many rows of a lent table, with the choice of each letter.
abbrev pub lent_game : (entries choice : List ℕ) (choices rows : ℕ) (final : ℕ → ℕ) → Game
lent_game entries choice choices rows final =
    record { letters = length choice; choices = choices; choice = λ a. get_or choice a 0; states = rows; entry = entry_at (length choice) entries; final = final }

-- The rows have their entries, and are not too many, so that every rank fits.
pub record GameFits (entries choice : List ℕ) (choices rows : ℕ) : Type 0 where
  pub choices_fit : ChoicesFit choice choices
  pub few_rows : rows ≤ most_rows
  pub entries_fit : rows * length choice ≤ length entries

-- The row s was turned, or there was nothing to be turned at it.
abbrev pub RowTurned : Game → (to : Bool) (next s : ℕ) (old new : List ℕ) → Bool → Type 0
RowTurned G to next s old new true = Turnable G to old s × (new ≡ set old s (turned_to to next))
RowTurned G to next s old new false = (new ≡ old) × NoneToTurn G to old s

-- Some rows were turned, and where none was the rows that were seen are settled.
pub record RowsSwept (G : Game) (to : Bool) (Seen : ℕ → Type 0) (old : List ℕ) (first : ℕ) (new : List ℕ) (next : ℕ) : Type 0 where
  pub turns : RankTurns G to old first new next
  pub settled : next ≡ first → (s : ℕ) → Seen s → NoneToTurn G to new s

-- The passes that rank the rows, whatever they leave between them.
pub record RowsRanked (G : Game) (ranks : List ℕ) : Type 0 where
  pub safe : List ℕ
  pub seeds : List ℕ
  pub passes : RankingPasses G safe seeds ranks
