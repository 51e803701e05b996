-- How the records of a lent table are counted: sums over the letters, cut so that none wraps.
use Rattle.std.specs.Prelude.{◌≡◌, Bool, cond, List, ℕ, zero, suc, ◌*◌, ◌≤◌, ◌<◌, min, ltb, length, get_or}
use Rattle.automaton.specs.Stored.{entry_at}
use Rattle.automaton.specs.WellFormed.{most_rows}
use Rattle.figure_sums.specs.Sums.{letter_sum, figure_cut}
use Rattle.counting.specs.Counting.{any_state, has_final_byte}

-- How many records of t letters lead from i to a state that passes: one of no letters where i passes, and for each first letter those from its entry on.
unfoldable pub record_count_from : (k n : ℕ) (entry : ℕ → ℕ → ℕ) (passing : ℕ → Bool) → ℕ → ℕ → ℕ
record_count_from k n entry passing zero i = cond (passing i) 1 0
record_count_from k n entry passing (suc t) i = letter_sum k (λ a. cond (ltb (entry i a) n) (record_count_from k n entry passing t (entry i a)) 0)

-- Of a lent table from its start: all records, and those that end in a final state.
abbrev pub figure_of : (k : ℕ) (entries finals : List ℕ) → ℕ → ℕ
figure_of k entries finals t = record_count_from k (length finals) (entry_at k entries) any_state t 0

abbrev pub final_figure_of : (k : ℕ) (entries finals : List ℕ) → ℕ → ℕ
final_figure_of k entries finals t = record_count_from k (length finals) (entry_at k entries) (has_final_byte finals) t 0

-- One number for each row, its count for t letters, cut.
pub record HoldsCounts (k : ℕ) (entries finals : List ℕ) (passing : ℕ → Bool) (t : ℕ) (counts : List ℕ) : Type 0 where
  pub rows : length counts ≡ length finals
  pub counted : (i : ℕ) → i < length finals → get_or counts i 0 ≡ min (record_count_from k (length finals) (entry_at k entries) passing t i) figure_cut

-- One number for each of the first m rows, from the numbers for one letter fewer.
abbrev pub NextCounts : (k : ℕ) (entries counts next : List ℕ) (m : ℕ) → Type 0
NextCounts k entries counts next m = (i : ℕ) → i < m → get_or next i 0 ≡ min (letter_sum k (λ a. get_or counts (entry_at k entries i a) 0)) figure_cut

-- Counts and final counts of as many rows as the entries have, at least one and not too many.
pub record CountsBegun (k : ℕ) (entries : List ℕ) (rows final_rows : ℕ) : Type 0 where
  pub some_row : 0 < rows
  pub few_rows : rows ≤ most_rows
  pub whole_rows : length entries ≡ rows * k
  pub same_rows : final_rows ≡ rows

-- A list holds cut figures, and stays as it was behind them.
pub record HoldsCutFigures (figure : ℕ → ℕ) (most : ℕ) (old list : List ℕ) : Type 0 where
  pub same : length list ≡ length old
  pub held : (t : ℕ) → t ≤ most → get_or list t 0 ≡ min (figure t) figure_cut
  pub behind : (t : ℕ) → most < t → get_or list t 0 ≡ get_or old t 0

-- From the counts for no letter on, the list gets the cut counts of the start.
abbrev pub FiguresFilled : (k : ℕ) (entries finals : List ℕ) (passing : ℕ → Bool) (most : ℕ) (counts old list : List ℕ) → Type 0
FiguresFilled k entries finals passing most counts old list =
    HoldsCounts k entries finals passing 0 counts → HoldsCutFigures (λ t. record_count_from k (length finals) (entry_at k entries) passing t 0) most old list
