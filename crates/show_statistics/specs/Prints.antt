-- What `statistics` prints for the bytes of a sheet (docs/statistics.md; "a line each for `letters`, `ahead` (D), `back` (B), `situations`, `states`, `rows`
-- with its number, or `refused N`; for 10 and 9 the numbers that are known").
use Rattle.std.specs.Prelude.{ℕ, ◌≡◌, ◌≢◌, List, [], ◌++◌}
use Rattle.text.specs.Bytes.{bytes_of}
use Rattle.meaning.specs.Expression.{Sheet}
use Rattle.meaning.specs.Letter.{letter_count}
use Rattle.meaning.specs.Window.{B, D}
use Rattle.meaning.specs.Situation.{SituationCount}
use Rattle.sheet.specs.Refusal.{refused, AnswerTo}
use Rattle.outcome.specs.Compile.{CompileAnswer, Tables}
use Rattle.lend.specs.Lend.{rows_lent, CompiledLent}
use Rattle.print.specs.Text.{refusal_line}
use Rattle.statistics_text.specs.Text.{size_line}

-- "`letters` is the product of the sizes of all ranges. `ahead` is D, the times that the rules look ahead, and `back` is B, the times that they look back.
-- `situations` is what has to fit into the `rows` that `sluice` lends": the lines of what is counted stand before `rows`, and that of a refusal at the end.
abbrev pub sizes_text : Sheet → (counted refusal : List ℕ) → List ℕ
sizes_text s counted refusal =
    (size_line (bytes_of "letters") (letter_count s.streams) ++ (size_line (bytes_of "ahead") (D s.constraints) ++ size_line (bytes_of "back") (B s.constraints)))
    ++ (counted ++ (size_line (bytes_of "rows") (rows_lent (letter_count s.streams)) ++ refusal))

abbrev pub situations_line : ℕ → List ℕ
situations_line = size_line (bytes_of "situations")

abbrev pub states_line : ℕ → List ℕ
states_line = size_line (bytes_of "states")

-- Of a sheet and the answer of its compile in the rows that `sluice` lends.
pub data PrintsSizes (s : Sheet) (a : CompileAnswer) : List ℕ → Type 0 where
  -- "With 10 there are more situations than rows, and neither they nor the states are known"; and so with 8
  uncounted : a.refusal ≢ 0 → a.refusal ≢ 9 → PrintsSizes s a (sizes_text s [] (refusal_line a.refusal))
  -- "with 9 there is no table, and so there are no states"
  unsolved : {m : ℕ} → a.refusal ≡ 9 → SituationCount s m → PrintsSizes s a (sizes_text s (situations_line m) (refusal_line 9))
  -- "and `states` what the table has in the end"
  solved : {m : ℕ} → a.refusal ≡ 0 → SituationCount s m → PrintsSizes s a (sizes_text s (situations_line m ++ states_line a.states) [])

pub data PrintsStatistics (text : List ℕ) : List ℕ → Type 0 where
  -- "A sheet that is refused by 1 to 7 prints `refused N` alone."
  unread : {n : ℕ} → AnswerTo text (refused n) → PrintsStatistics text (refusal_line n)
  -- "What is known is printed, and `refused N` is then the last line"
  sized : {s : Sheet} {a : CompileAnswer} {t : Tables} {bytes : List ℕ} → CompiledLent text s a t → PrintsSizes s a bytes → PrintsStatistics text bytes

-- There is an outcome.
pub record HasStatisticsOutput (text : List ℕ) : Type 0 where
  pub bytes : List ℕ
  pub prints : PrintsStatistics text bytes
