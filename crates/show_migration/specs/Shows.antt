-- What `show_migration` gives back for the texts of an old and of a new sheet, and what its parts do.
use Rattle.std.specs.Prelude.{ℕ, ◌≡◌, ◌≢◌, List, take}
use Rattle.meaning.specs.Expression.{Sheet}
use Rattle.outcome.specs.Compile.{CompileAnswer, Tables}
use Rattle.lend.specs.Lend.{CompiledLent, RefusedLent}
use Rattle.print.specs.Text.{refusal_line}
use Rattle.given_tables.specs.Given.{GivenTable, table_rows}
use Rattle.carry.specs.Carry.{CarryOutcome}
use Rattle.opening.specs.declared.OpenedTable.{OpenedTable}
use Rattle.opened_tables.specs.Used.{opened_given, compiled_given}
use Rattle.output.specs.Output.{Hands}
use Rattle.output.specs.declared.Handed.{Handed}
use Rattle.migration_text.specs.Migration.{most_states, migration_output}
use Rattle.show_migration.specs.Prints.{PrintsMigration}

-- How many of the bytes that `migrate` prints for two sheets were taken by writes.
pub record ShowsMigration (old_text new_text : List ℕ) (r : Handed) : Type 0 where
  pub bytes : List ℕ
  pub prints : PrintsMigration old_text new_text bytes
  pub hands : Hands bytes r.size r.whole

-- ---- parts of a call

-- What is printed where an old table was opened with a refusal's number or 0: that refusal, the new sheet's, or what a call for the states gives.
pub data PrintsFrom (refusal : ℕ) (old : GivenTable) (new_text : List ℕ) : List ℕ → Type 0 where
  old_refused : refusal ≢ 0 → PrintsFrom refusal old new_text (refusal_line refusal)
  new_refused : {n : ℕ} → refusal ≡ 0 → RefusedLent new_text n → PrintsFrom refusal old new_text (refusal_line n)
  carries : {s : Sheet} {a : CompileAnswer} {t : Tables} {n : ℕ} {list : List ℕ} → refusal ≡ 0 → CompiledLent new_text s a t → a.refusal ≡ 0
      → CarryOutcome old (compiled_given s a t) most_states n list → PrintsFrom refusal old new_text (migration_output n (take (table_rows old) list))

-- How many of these bytes were taken by writes.
pub record ShowsFrom (old : OpenedTable) (entries finals new_text : List ℕ) (r : Handed) : Type 0 where
  pub bytes : List ℕ
  pub prints : PrintsFrom old.refusal (opened_given old entries finals) new_text bytes
  pub hands : Hands bytes r.size r.whole

-- The refusal with which the old or the new table was opened, or what a call for the states gives.
pub data FindsStates (old new : OpenedTable) (old_table new_table : GivenTable) (room r : ℕ) (list : List ℕ) : Type 0 where
  old_is : old.refusal ≢ 0 → r ≡ old.refusal → FindsStates old new old_table new_table room r list
  new_is : old.refusal ≡ 0 → new.refusal ≢ 0 → r ≡ new.refusal → FindsStates old new old_table new_table room r list
  found : old.refusal ≡ 0 → new.refusal ≡ 0 → CarryOutcome old_table new_table room r list → FindsStates old new old_table new_table room r list
