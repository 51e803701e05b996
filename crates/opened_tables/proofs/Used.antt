-- The table that `open_table` gives for a text, cut to its used rows, is that of the text's compile, which is fit for a call; the arrays are as long as they were
-- lent. From the one outcome of a compile in the rows lent (lend), and the streams that are told of a sheet (compiled_sheet).
use Prim.Native.Nat.{ℕ, ◌-◌, ◌*◌, ◌≤◌, min}
use native.Mathlib.Omega.{arith}
use mathlib.Core.Path.{◌≡◌, refl, ap, ◌∙◌}
use mathlib.Core.List.{List, ◌++◌}
use mathlib.Core.Option.{none, some}
use lib.ListN.{length, take}
use lib.Seq.{take-append-le, length-take-le}
use Rattle.meaning.specs.Expression.{Sheet}
use Rattle.meaning.specs.Letter.{letter_count}
use Rattle.automaton.proofs.WellFormed.{used_well_formed}
use Rattle.sheet.specs.Reading.{answer_to}
use Rattle.sheet.proofs.Accepted.{accepted_facts}
use Rattle.reader.specs.Stored.{stored_sheet, reading_of}
use Rattle.situations.proofs.Stored.{sheet-letters}
use Rattle.outcome.specs.Room.{zeros}
use Rattle.outcome.specs.Compile.{CompileAnswer, Tables}
use Rattle.compiled_sheet.specs.Told.{sheet_streams}
use Rattle.compiled_sheet.proofs.Sheets.{stored-streams-fit}
use Rattle.theorems.specs.UsedRows.{used_finals}
use Rattle.theorems.proofs.Demands.{table-stored, few_states}
use Rattle.lend.specs.Lend.{CompiledLent}
use Rattle.lend.proofs.Outcome.{compiled-held, stored_is}
use Rattle.given_tables.specs.Given.{given_table, IsFitTable}
use Rattle.opening.specs.declared.OpenedTable.{OpenedTable}
use Rattle.opening.proofs.Sizes.{few_rows, used_fits}
use Rattle.opening.specs.Start.{start_state}
use Rattle.opening.specs.Opens.{opened_as, OpensTable, OpensTable.refused_sheet as gives_no_table, OpensTable.no_start as gives_no_state, OpensTable.opened as table}
use Rattle.opened_tables.specs.Used.{opened_given, compiled_given}

module _ {text : List ℕ} {s : Sheet} {a : CompileAnswer} {t : Tables} (c : CompiledLent text s a t) (z : a.refusal ≡ 0) where
  abbrev k : ℕ
  k = letter_count s.streams

  pub compiled-fit : IsFitTable (compiled_given s a t)
  compiled-fit = record { well_formed = used_well_formed (table-stored c.call c.reads z) (few_states c.call c.reads z); streams_fit = stored-streams-fit s (accepted_facts c.reads) }

  pub finals-long : length (used_finals a t) ≡ a.states
  finals-long = length-take-le a.states t.finals (compiled-held c z).table.finals_fit

  stored : (reading_of (answer_to text)).sheet ≡ stored_sheet s
  stored = stored_is text refl c.reads

  letters_are : (reading_of (answer_to text)).sheet.letters ≡ k
  letters_are = sheet-letters s stored

  -- With zeros behind them the rows lent have the same used rows, and the sheet's letters and streams.
  pub opened-given : (state m n : ℕ) → opened_given (opened_as 0 a.states state text) (t.entries ++ zeros m) (t.finals ++ zeros n) ≡ compiled_given s a t
  opened-given state m n =
      let held = (compiled-held c z).table in
      let rows : min a.states 256 ≡ a.states = omega (arith, few_rows c z) in
      let used : min (min a.states 256 * (reading_of (answer_to text)).sheet.letters) 32768 ≡ a.states * k =
      ap (λ r. min (r * (reading_of (answer_to text)).sheet.letters) 32768) rows ∙ ap (λ l. min (a.states * l) 32768) letters_are ∙ omega (arith, used_fits c z) in
      let entries = ap (λ u. take u (t.entries ++ zeros m)) used ∙ take-append-le (a.states * k) t.entries (zeros m) held.entries_fit in
      let finals = ap (λ r. take r (t.finals ++ zeros n)) rows ∙ take-append-le a.states t.finals (zeros n) held.finals_fit in
      λ i. given_table (entries i) (finals i) (letters_are i) (sheet_streams (stored i))

-- Without a state given it is 0.
pub start_none : (states : ℕ) → start_state states none ≡ some 0
unfolding start_state
start_none states = refl
