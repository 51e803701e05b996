-- What is opened has as many entries and final bytes as were lent, and its used rows lie within them. From the rows lent (lend) and the stored sheet (situations).
use Prim.Native.Nat.{ℕ, ◌-◌, ◌*◌, ◌≤◌}
use native.Mathlib.Omega.{arith}
use native.Mathlib.Nat.{le_trans}
use mathlib.Core.Path.{◌≡◌, refl, sym, subst}
use mathlib.Core.List.{List}
use mathlib.Core.Option.{Option}
use lib.ListN.{length, length-append, length-replicate}
use Rattle.text.specs.Bytes.{Token}
use Rattle.meaning.specs.Expression.{Sheet}
use Rattle.meaning.specs.Letter.{letter_count}
use Rattle.situations.proofs.Stored.{sheet-letters}
use Rattle.outcome.specs.Room.{zeros}
use Rattle.outcome.specs.Compile.{CompileAnswer, Tables}
use Rattle.lend.specs.Lend.{CompiledLent}
use Rattle.lend.proofs.Rows.{lent-entries, lent_rows}
use Rattle.lend.proofs.Outcome.{compiled-held, stored_is}
use Rattle.opening.specs.declared.OpenedTable.{OpenedTable}
use Rattle.opening.specs.Opens.{OpensTable, OpensTable.refused_sheet as gives_no_table, OpensTable.no_start as gives_no_state, OpensTable.opened as table}

module _ {text : List ℕ} {s : Sheet} {a : CompileAnswer} {t : Tables} (c : CompiledLent text s a t) (z : a.refusal ≡ 0) where
  -- There are no more states than rows lent, and no more entries in them than are lent.
  pub few_rows : a.states ≤ 256
  few_rows = let held = compiled-held c z in omega (arith, held.table.finals_fit, held.finals_size, lent_rows (letter_count s.streams))

  pub used_fits : a.states * letter_count s.streams ≤ 32768
  used_fits = let held = compiled-held c z in le_trans held.table.entries_fit (omega (arith, held.entries_size, lent-entries (letter_count s.streams)))

module _ {text : List ℕ} {start : Option Token} where
  -- The arrays are as long as they were lent.
  pub opened-sizes : {opened : OpenedTable} {entries finals : List ℕ} → OpensTable text start opened entries finals → (length entries ≡ 32768) × (length finals ≡ 256)
  opened-sizes (gives_no_table r) = (length-replicate {A = ℕ} 32768 0, length-replicate {A = ℕ} 256 0)
  opened-sizes (gives_no_state c z e) = (length-replicate {A = ℕ} 32768 0, length-replicate {A = ℕ} 256 0)
  opened-sizes (table {s} {a} {t} c z e) =
      let held = compiled-held c z in
      let k = letter_count s.streams in
      let m = 32768 - length t.entries in
      let n = 256 - length t.finals in
      (omega (arith, length-append t.entries (zeros m), length-replicate {A = ℕ} m 0, held.entries_size, lent-entries k), omega (arith, length-append t.finals (zeros n), length-replicate {A = ℕ} n 0, held.finals_size, lent_rows k))

  within : {opened : OpenedTable} {entries finals : List ℕ} → OpensTable text start opened entries finals → (opened.states ≤ 256) × (opened.states * opened.sheet.letters ≤ 32768)
  within (gives_no_table r) = (omega arith, omega arith)
  within (gives_no_state c z e) = (omega arith, omega arith)
  within (table {s} {a} {t} c z e) = (few_rows c z, subst (λ l. a.states * l ≤ 32768) (sym (sheet-letters s (stored_is text refl c.reads))) (used_fits c z))

  -- The used rows lie within them.
  pub rows_fit : {opened : OpenedTable} {entries finals : List ℕ} → OpensTable text start opened entries finals
      → (opened.states ≤ length finals) × (opened.states * opened.sheet.letters ≤ length entries)
  rows_fit {opened} o =
      let sizes = opened-sizes o in
      let fit = within o in
      (subst (λ n. opened.states ≤ n) (sym sizes.1) fit.0, subst (λ n. opened.states * opened.sheet.letters ≤ n) (sym sizes.0) fit.1)
