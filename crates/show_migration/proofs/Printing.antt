-- What `migrate` prints by its calls is what document 02 says of the two sheets: the table that `open_table` gives for the old sheet is passed to `carry`, cut
-- to its used rows, with that of the new one, and the states that it leaves, or the refusal, are printed. Said in the terms of the calls' contracts. From
-- what is printed of two compiles (Prints).
use Prim.Native.Nat.{ℕ, ◌-◌}
use native.Mathlib.Omega.{arith}
use mathlib.Core.Path.{refl, sym, ap, subst, ◌∙◌}
use mathlib.Core.List.{List}
use mathlib.Core.Option.{none}
use lib.ListN.{length, take}
use Rattle.lend.proofs.Outcome.{refused-positive}
use Rattle.print.specs.Text.{refusal_line}
use Rattle.given_tables.specs.Given.{GivenTable, table_rows}
use Rattle.carry.specs.Carry.{CarryOutcome}
use Rattle.opening.specs.declared.OpenedTable.{OpenedTable}
use Rattle.opening.specs.Opens.{OpensTable, OpensTable.refused_sheet as gives_no_table, OpensTable.no_start as gives_no_state, OpensTable.opened as table}
use Rattle.opening.proofs.Plays.{none≢some}
use Rattle.opened_tables.specs.Used.{opened_given, compiled_given}
use Rattle.opened_tables.proofs.Used.{opened-given, start_none}
use Rattle.migration_text.specs.Migration.{most_states, migration_output}
use Rattle.migration_text.proofs.Text.{refused_output}
use Rattle.show_migration.specs.Prints.{PrintsMigration, refused_old, refused_new, compared}
use Rattle.show_migration.specs.Shows.{PrintsFrom, old_refused, new_refused, carries, FindsStates, old_is, new_is, found}
use Rattle.show_migration.proofs.Prints.{states-printed}

-- ---- what the calls print

module _ {new : List ℕ} where
  -- The refusal that is found, or the states at the front of the list, are printed.
  pub finds_prints : {old opened : OpenedTable} {old_table : GivenTable} {entries finals list : List ℕ} {r : ℕ} → OpensTable new none opened entries finals
      → FindsStates old opened old_table (opened_given opened entries finals) most_states r list → PrintsFrom old.refusal old_table new (migration_output r (take (table_rows old_table) list))
  finds_prints {old} {old_table = old_table} {r = r} o (old_is d e) =
      subst (PrintsFrom old.refusal old_table new) (ap refusal_line (sym e) ∙ refused_output r _ (λ q. d (sym e ∙ q))) (old_refused d)
  finds_prints {old} {old_table = old_table} {r = r} (gives_no_table x) (new_is y d e) =
      subst (PrintsFrom old.refusal old_table new) (ap refusal_line (sym e) ∙ refused_output r _ (λ q. d (sym e ∙ q))) (new_refused y x)
  finds_prints (gives_no_state c z x) (new_is y d e) = absurd (none≢some x (start_none _))
  finds_prints (table c z x) (new_is y d e) = absurd (d refl)
  finds_prints (gives_no_table x) (found y w o) = absurd (omega (arith, refused-positive x))
  finds_prints (gives_no_state c z x) (found y w o) = absurd (none≢some x (start_none _))
  finds_prints {old_table = old_table} {list = list} {r} (table {s} {a} {t} {state} c z x) (found y w o) =
      carries y c z (subst (λ g. CarryOutcome old_table g most_states r list) (opened-given c z state (32768 - length t.entries) (256 - length t.finals)) o)

  -- And so is what document 02 says, where the old table was opened for the text of the old sheet.
  pub calls_print : {old : List ℕ} {x : OpenedTable} {entries finals bytes : List ℕ} → OpensTable old none x entries finals
      → PrintsFrom x.refusal (opened_given x entries finals) new bytes → PrintsMigration old new bytes
  calls_print (gives_no_table r) (old_refused d) = refused_old r
  calls_print (gives_no_table r) (new_refused e q) = absurd (omega (arith, refused-positive r))
  calls_print (gives_no_table r) (carries e c z o) = absurd (omega (arith, refused-positive r))
  calls_print (gives_no_state c z x) p = absurd (none≢some x (start_none _))
  calls_print (table c z x) (old_refused d) = absurd (d refl)
  calls_print (table c z x) (new_refused e q) = refused_new c z q
  calls_print {old} (table {s} {a} {t} {state} c z x) (carries {s = s'} {a = a'} {t = t'} {n} {list} e c' z' o) =
      let same = opened-given c z state (32768 - length t.entries) (256 - length t.finals) in
      let given = subst (λ g. CarryOutcome g (compiled_given s' a' t') most_states n list) same o in
      subst (PrintsMigration old new) (ap (λ g. migration_output n (take (table_rows g) list)) (sym same)) (compared c z c' z' (states-printed c z c' z' given))
