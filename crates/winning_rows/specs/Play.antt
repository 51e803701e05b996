-- What `find_play` makes of a lent table: its play table, by a ranking of its rows.
use Rattle.std.specs.Prelude.{◌≡◌, Bool, true, false, List, ℕ, ◌-◌, ◌*◌, ◌<◌, ◌≤◌, length, drop, replicate}
use Rattle.automaton.specs.Table.{no_state}
use Rattle.automaton.specs.Stored.{entry_at, final_at}
use Rattle.automaton.specs.WellFormed.{most_rows}
use Rattle.automaton.specs.PlayTable.{Game}
use Rattle.automaton.specs.Ranking.{Ranked, IsRanking, PlaysRanking}
use Rattle.winning_rows.specs.Sweeps.{lent_game, GameFits}

-- There are rows, not too many of them, and neither too many letters; and room for the rows.
pub record HasPlayRoom (rows letters choices entries play : ℕ) : Type 0 where
  pub some_row : 0 < rows
  pub few_rows : rows ≤ most_rows
  pub few_letters : letters < no_state
  pub entries_fit : rows * letters ≤ entries
  pub play_fits : rows * choices ≤ play

-- The rows of a lent table can be played: there are rows with their entries, the choice of each letter is one of the choices, and the play table has room.
pub record PlayFits (entries choice : List ℕ) (choices rows room : ℕ) : Type 0 where
  pub some_row : 0 < rows
  pub rows_fit : GameFits entries choice choices rows
  pub play_fits : rows * choices ≤ room

-- The play table of a ranking stands in the first rows, and the rest is zero.
pub record HoldsRanking (G : Game) (ranks : List ℕ) (room : ℕ) (play : List ℕ) : Type 0 where
  pub size : length play ≡ room
  pub plays : PlaysRanking G ranks (entry_at G.choices play)
  pub beyond : drop (G.states * G.choices) play ≡ replicate (room - G.states * G.choices) 0

-- Whether row 0 is ranked, and the play table: zero where it is not, or where the rows do not fit.
pub data PlayOutcome (entries finals choice : List ℕ) (choices rows room : ℕ) : Bool → List ℕ → Type 0 where
  unfit : ¬ PlayFits entries choice choices rows room → PlayOutcome entries finals choice choices rows room false (replicate room 0)
  lost : {safe ranks : List ℕ} → PlayFits entries choice choices rows room → IsRanking (lent_game entries choice choices rows (final_at finals)) safe ranks → ¬ Ranked ranks 0
      → PlayOutcome entries finals choice choices rows room false (replicate room 0)
  won : {safe ranks play : List ℕ} → PlayFits entries choice choices rows room → IsRanking (lent_game entries choice choices rows (final_at finals)) safe ranks → Ranked ranks 0
      → HoldsRanking (lent_game entries choice choices rows (final_at finals)) ranks room play → PlayOutcome entries finals choice choices rows room true play
