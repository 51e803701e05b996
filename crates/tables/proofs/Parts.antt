-- The tests of the parts of a table say together that it is well formed.
use Prim.Native.Nat.{ℕ}
use mathlib.Core.List.{List}
use lib.ListN.{length}
use Rattle.automaton.specs.WellFormed.{IsWellFormed}
use Rattle.tables.specs.Parts.{HasTableSizes, AreRows, AreFlags}

module _ {k : ℕ} {entries finals : List ℕ} where
  pub parts-well_formed : HasTableSizes k (length finals) (length entries) → AreFlags finals → AreRows entries (length finals) (length entries)
      → IsWellFormed k entries finals
  parts-well_formed sizes bits rows = record {
    whole = record {
      some_letter = sizes.some_letter;
      some_row = sizes.some_row;
      few_rows = sizes.few_rows;
      whole_rows = sizes.whole_rows;
      state_or_none = rows;
    };
    flags = bits;
  }
