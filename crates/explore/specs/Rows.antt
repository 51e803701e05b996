-- What the exploration of a sheet gives, in terms of the definitions alone: the situations in rows, with their entries and flags, or that there
-- are more than the limit (document 01, "Letters, situations, table", refusals 8 and 10).
use Rattle.std.specs.Prelude.{ℕ, ◌≤◌, ◌≡◌, Bool, true, false, List}
use Rattle.automaton.specs.Stored.{entry_at, final_at}
use Rattle.automaton.specs.ReachedRows.{RowsOf}
use Rattle.meaning.specs.Expression.{Sheet}
use Rattle.meaning.specs.Letter.{letter_count, record_of}
use Rattle.meaning.specs.Situation.{Situation, lawful, situation, SituationCount, MoreSituations}
use Rattle.meaning.specs.Evaluation.{all_done}

module _ (s : Sheet) where
  -- whether the record with these letter numbers is lawful, and its situation
  abbrev pub is_lawful : List ℕ → Bool
  is_lawful r = lawful s.constraints (record_of s.streams r)

  abbrev pub situation_of : List ℕ → Situation
  situation_of r = situation s.constraints (record_of s.streams r)

  abbrev pub letter_numbers : ℕ
  letter_numbers = letter_count s.streams

  -- The first n rows stand for the situations, each once: row i for that of the record `shown i`. An entry is the row of the longer record's
  -- situation, or 65,535 where the longer record is unlawful. The flag is 1 where every until is done, else 0.
  pub record ExploredRows (n : ℕ) (entries flags : List ℕ) : Type 0 where
    pub rows : RowsOf letter_numbers (λ r. is_lawful r ≡ true) situation_of (all_done s.constraints) n (entry_at letter_numbers entries) (final_at flags)

  -- `full` says that there are more situations than the limit; otherwise n is their number.
  abbrev pub ExploreOutcome : Bool → (limit n : ℕ) (entries flags : List ℕ) → Type 0
  ExploreOutcome true limit n entries flags = MoreSituations s limit
  ExploreOutcome false limit n entries flags = (n ≤ limit) × SituationCount s n × ExploredRows n entries flags
