-- What it means that streams solve what the sheet's text and the records of the list say, each record judged by its kind; include/normal_form.h says it
-- to a host. "Added streams may carry none, and in the added entries none equals none and no number." (document 02, S-5)
use Rattle.std.specs.Prelude.{ℕ, ◌+◌, ◌≤◌, ◌<◌, List, length}
use Rattle.basics.specs.Lists.{All}
use Rattle.meaning.specs.Value.{Streams, ValueStreams, numbers}
use Rattle.meaning.specs.Arithmetic.{Interval, NumberWithin, AnyWithin}
use Rattle.meaning.specs.Expression.{Constraint, Sheet, range_of, MeetsFrom}
use Rattle.meaning.specs.NormalForm.{MeetsEntry}
use Rattle.meaning.specs.Scope.{AgreeBelow}
use Rattle.normal.specs.Says.{EntrySays}
use Rattle.normal_entries.specs.declared.Entry.{Entry}

-- The range that a record gives its stream `left`.
abbrev pub range_in : Entry → Interval
range_in e = record { low = e.low; high = e.high }

-- A record is met: its stream has none or a number in its range; kinds 1 and 2 are rewritten constraints, which hold as in a sheet, and kinds 3 to 5 added
-- entries.
pub record ListEntryMet (text : List ℕ) (v : ValueStreams) (e : Entry) : Type 0 where
  pub ranged : 2 ≤ e.kind → (i : ℕ) → AnyWithin (range_in e) (v e.left i)
  pub line : e.kind ≤ 2 → (c : Constraint) → EntrySays text e c → MeetsFrom v c
  pub entry : 3 ≤ e.kind → (c : Constraint) → EntrySays text e c → MeetsEntry v c

-- The sheet's own streams have numbers in their ranges, and every record is met.
pub record ListSolution (text : List ℕ) (s : Sheet) (es : List Entry) (v : ValueStreams) : Type 0 where
  pub numbered : (k i : ℕ) → k < length s.streams → NumberWithin (range_of s.streams k) (v k i)
  pub met : All (ListEntryMet text v) es

-- Exactly one solution of the records, with so many added streams, agrees with w on the sheet's streams.
pub record ExtendsTo (text : List ℕ) (s : Sheet) (es : List Entry) (added : ℕ) (w : Streams) : Type 0 where
  pub extension : ValueStreams
  pub agrees : AgreeBelow (length s.streams) extension (numbers w)
  pub solves : ListSolution text s es extension
  pub only : (v : ValueStreams) → AgreeBelow (length s.streams) v (numbers w) → ListSolution text s es v → AgreeBelow (length s.streams + added) v extension
