-- New rules without closing the weir (document 02, S-10): for each state of an old table the state of a new one to go on from, and what a call for these
-- states gives. It is said of tables, not of sheets: "Facts about [..] carried tables are shown once, for whichever release made them" (S-11).
use Rattle.std.specs.Prelude.{◌≡◌, List, ◌++◌, ℕ, ◌-◌, ◌<◌, ◌≤◌, length, get_or, replicate}
use Rattle.automaton.specs.Words.{AllBelow}
use Rattle.automaton.specs.Table.{no_state, walk, IsPath}
use Rattle.given_tables.specs.Given.{GivenTable, table_rows, table_entry, IsFitTable, SameStreams}

-- ---- records that lead to states; `old` and `new` are the entries of two tables over k letters

-- the record is a path from the start and leads to the state i (of a game `automaton` `PlayTable.LeadsTo` says the same); "The empty record counts as one leading to state 0."
pub record LeadsToState (k : ℕ) (entry : ℕ → ℕ → ℕ) (i : ℕ) (r : List ℕ) : Type 0 where
  pub letters : AllBelow k r
  pub path : IsPath entry r
  pub leads : walk entry 0 r ≡ i

-- not "A row that no record reaches"
pub record IsReached (k : ℕ) (entry : ℕ → ℕ → ℕ) (i : ℕ) : Type 0 where
  pub by : List ℕ
  pub reaches : LeadsToState k entry i by

-- "the new state to go on from [..] exists only if every record that leads to the old state leads, in the new table, to that one state."
pub record CarriesTo (k : ℕ) (old new : ℕ → ℕ → ℕ) (i j : ℕ) : Type 0 where
  pub every : (r : List ℕ) → LeadsToState k old i r → LeadsToState k new j r

-- "an old state with no such new state"; a row that no record reaches "is no ground for refusal"
pub record LacksState (k : ℕ) (old new : ℕ → ℕ → ℕ) : Type 0 where
  pub state : ℕ
  pub reached : IsReached k old state
  pub lacks : (j : ℕ) → ¬ CarriesTo k old new state j

-- what is given for the row i: "the new state to go on from", or 65,535 for "A row that no record reaches"
pub data IsCarried (k : ℕ) (old new : ℕ → ℕ → ℕ) (i v : ℕ) : Type 0 where
  to_state : IsReached k old i → CarriesTo k old new i v → IsCarried k old new i v
  unreached : ¬ IsReached k old i → v ≡ no_state → IsCarried k old new i v

-- "give for each old state the new state to go on from"
pub record AreCarried (k : ℕ) (old new : ℕ → ℕ → ℕ) (states : List ℕ) : Type 0 where
  pub each : (i : ℕ) → i < length states → IsCarried k old new i (get_or states i 0)

-- ---- the outcome

-- "an old and a new table over the same streams"; neither 11 nor 17 applies
pub record OverSameStreams (old new : GivenTable) : Type 0 where
  pub old_fit : IsFitTable old
  pub new_fit : IsFitTable new
  pub same_streams : SameStreams old.streams new.streams

-- some old state has no new state
abbrev pub TableLacksState : (old new : GivenTable) → Type 0
TableLacksState old new = LacksState old.letters (table_entry old) (table_entry new)

-- What a call gives, with a list of `room` numbers. "Turned away: 11 as in S-9; then 17 for streams of another name, place, range or kind; then 18 for an
-- old state with no such new state, exactly then; then 10 for a list shorter than the old rows. The list is then zero."
pub data CarryOutcome (old new : GivenTable) (room : ℕ) : (refusal : ℕ) (list : List ℕ) → Type 0 where
  unfit : ¬ (IsFitTable old × IsFitTable new) → CarryOutcome old new room 11 (replicate room 0)
  other_streams : IsFitTable old → IsFitTable new → ¬ SameStreams old.streams new.streams → CarryOutcome old new room 17 (replicate room 0)
  lacking : OverSameStreams old new → TableLacksState old new → CarryOutcome old new room 18 (replicate room 0)
  short : OverSameStreams old new → ¬ TableLacksState old new → room < table_rows old → CarryOutcome old new room 10 (replicate room 0)
  carried : {states : List ℕ} → OverSameStreams old new → length states ≡ table_rows old → AreCarried old.letters (table_entry old) (table_entry new) states → table_rows old ≤ room
      → CarryOutcome old new room 0 (states ++ replicate (room - table_rows old) 0)

-- The part of it that is judged before the states: 11, 17, or 0 for tables over the same streams.
pub data TablesRefusal (old new : GivenTable) : ℕ → Type 0 where
  are_unfit : ¬ (IsFitTable old × IsFitTable new) → TablesRefusal old new 11
  streams_differ : IsFitTable old → IsFitTable new → ¬ SameStreams old.streams new.streams → TablesRefusal old new 17
  none : OverSameStreams old new → TablesRefusal old new 0
