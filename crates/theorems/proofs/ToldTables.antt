-- A table that a compile gave, with the letters and the streams that it tells, holds the sheet's table and is fit for a further call. From what a compile gives
-- (`Demands`) and tells (compiled_sheet).
use Prim.Native.Nat.{ℕ, ◌*◌}
use mathlib.Core.Path.{◌≡◌, sym, subst}
use mathlib.Core.List.{List}
use lib.ListN.{take}
use Rattle.automaton.specs.Table.{IsTable}
use Rattle.automaton.specs.Stored.{entry_at, final_at}
use Rattle.automaton.specs.WellFormed.{IsWellFormed}
use Rattle.automaton.proofs.WellFormed.{used_table, used_well_formed}
use Rattle.meaning.specs.Expression.{Sheet}
use Rattle.meaning.specs.Letter.{letter_count, SolutionWord}
use Rattle.outcome.specs.Compile.{Room, Tables}
use Rattle.compiled_sheet.specs.declared.CompiledSheet.{CompiledSheet}
use Rattle.compiled_sheet.specs.Told.{SheetCall}
use Rattle.compiled_sheet.proofs.Sheets.{letters-told, told_fit}
use Rattle.given_tables.specs.Given.{table_entry, IsFitTable}
use Rattle.theorems.specs.ToldTables.{told_table}
use Rattle.theorems.proofs.Demands.{ReadAs, few_states, table-stored}

module _ {text : List ℕ} {room : Room} {r : CompiledSheet} {t : Tables} (call : SheetCall text room r t) (accepted : r.refusal ≡ 0) {s : Sheet} (read : ReadAs text s) where
  pub k-told : r.letters ≡ letter_count s.streams
  k-told = letters-told call.tells accepted read

  pub told-table : IsTable (SolutionWord s) (letter_count s.streams) r.states (table_entry (told_table r t)) (final_at (take r.states t.finals))
  told-table = subst (λ k. IsTable (SolutionWord s) (letter_count s.streams) r.states (entry_at k (take (r.states * k) t.entries)) (final_at (take r.states t.finals)))
      (sym k-told) (used_table (table-stored call.call read accepted))

  pub told-table-fit : IsFitTable (told_table r t)
  told-table-fit = record {
    well_formed = subst (λ k. IsWellFormed k (take (r.states * k) t.entries) (take r.states t.finals)) (sym k-told)
        (used_well_formed (table-stored call.call read accepted) (few_states call.call read accepted));
    streams_fit = told_fit call.tells accepted read;
  }
