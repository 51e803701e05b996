-- What `show_statistics` gives back for the text of a sheet, and what its parts do.
use Rattle.std.specs.Prelude.{ℕ, ◌≤◌, ◌≡◌, ◌≢◌, List}
use Rattle.meaning.specs.Expression.{Sheet}
use Rattle.meaning.specs.Letter.{letter_count}
use Rattle.meaning.specs.Situation.{SituationCount}
use Rattle.sheet.specs.Accepted.{Accepted}
use Rattle.reader.specs.declared.StoredSheet.{StoredSheet}
use Rattle.reader.specs.Stored.{stored_sheet}
use Rattle.outcome.specs.Compile.{CompileAnswer}
use Rattle.lend.specs.Lend.{rows_lent}
use Rattle.output.specs.Output.{Hands}
use Rattle.output.specs.declared.Handed.{Handed}
use Rattle.show_statistics.specs.Prints.{PrintsStatistics}

-- How many of the bytes that `statistics` prints for a text were taken by writes.
pub record ShowsStatistics (text : List ℕ) (r : Handed) : Type 0 where
  pub bytes : List ℕ
  pub prints : PrintsStatistics text bytes
  pub hands : Hands bytes r.size r.whole

-- ---- parts of a call

-- Where the stored sheet is that of an accepted one with no more situations than the rows lent for its letters, the number is theirs.
abbrev pub CountsSituations : StoredSheet → ℕ → Type 0
CountsSituations stored n =
    (s : Sheet) → Accepted s → stored ≡ stored_sheet s → (m : ℕ) → SituationCount s m → m ≤ rows_lent (letter_count s.streams) → n ≡ m

-- The number that a compile tells, or, where it tells none for the refusal 9, the one that is counted.
pub data KnowsSituations (stored : StoredSheet) (a : CompileAnswer) (n : ℕ) : Type 0 where
  told : a.refusal ≢ 9 → n ≡ a.situations → KnowsSituations stored a n
  counted : a.refusal ≡ 9 → CountsSituations stored n → KnowsSituations stored a n
