-- From a compile in the rows lent and the judged start to what `open_table` gives back. From the laws of the crate lend.
use Prim.Native.Nat.{ℕ, ◌<◌}
use mathlib.Core.Path.{◌≡◌, refl, sym, ◌∙◌, ap, transport}
use mathlib.Core.List.{List}
use mathlib.Core.Option.{Option, none, some}
use lib.ListN.{length}
use Rattle.std.specs.Prelude.{Option as MachineOption, Some, None}
use Rattle.text.specs.Bytes.{Token}
use Rattle.sheet.specs.Reading.{answer_to}
use Rattle.reader.specs.declared.Reading.{Reading}
use Rattle.reader.specs.Stored.{reading_of}
use Rattle.outcome.specs.Room.{zeros}
use Rattle.outcome.specs.Compile.{CompileAnswer}
use Rattle.lend.specs.Lend.{LentCall}
use Rattle.lend.proofs.Room.{lent-sizes, lent_then_zeros, finals_then_zeros, refused_zero, refused-finals-zero}
use Rattle.lend.proofs.Outcome.{call-refused, call-compiled}
use Rattle.opening.specs.declared.OpenedTable.{OpenedTable}
use Rattle.opening.specs.Start.{start_state, judged}
use Rattle.opening.specs.Opens.{opened_as, OpensTable, refused_sheet, no_start, opened}

-- ---- a judged start

judged-none : (o : Option ℕ) {r : MachineOption ℕ} → r ≡ judged o → r ≡ None → o ≡ none
judged-none none e q = refl
judged-none (some state) e q = let x : judged (some state) ≡ None = sym e ∙ q in cc

judged-some : (o : Option ℕ) {r : MachineOption ℕ} {state : ℕ} → r ≡ judged o → r ≡ Some state → o ≡ some state
judged-some none {r} {state} e q = let x : judged none ≡ Some state = sym e ∙ q in cc
judged-some (some n) {r} {state} e q = let x : judged (some n) ≡ Some state = sym e ∙ q in ap some (cc)

-- ---- what is given back

module _ (text : List ℕ) (start : Option Token) {reading : Reading} (read_as : reading ≡ reading_of (answer_to text)) {a : CompileAnswer} {entries finals : List ℕ} (o : LentCall text reading.sheet.letters a entries finals) where
  abbrev given : (refusal states state : ℕ) → OpenedTable
  given refusal states state = record { refusal = refusal; states = states; state = state; sheet = reading.sheet }

  -- With the sheet as it was read, and the tables as they are.
  moved : {refusal states state : ℕ} {held left held' left' : List ℕ} → left ≡ held → left' ≡ held' → OpensTable text start (opened_as refusal states state text) held held'
      → OpensTable text start (given refusal states state) left left'
  moved {refusal} {states} {state} e f p =
      transport (λ i. OpensTable text start (record { refusal = refusal; states = states; state = state; sheet = (sym read_as i).sheet }) (sym e i) (sym f i)) p

  pub sheet-refused : 0 < a.refusal → OpensTable text start (given a.refusal 0 0) entries finals
  sheet-refused h = moved (refused_zero o h) (refused-finals-zero o h) (refused_sheet (call-refused text read_as o.call h))

  module _ {r : MachineOption ℕ} (z : a.refusal ≡ 0) (judged-as : r ≡ judged (start_state a.states start)) where
    pub start-refused : {cleared cleared' : List ℕ} → r ≡ None → cleared ≡ zeros (length entries) → cleared' ≡ zeros (length finals) → OpensTable text start (given 11 0 0) cleared cleared'
    start-refused q clear clear' =
        let c = call-compiled text read_as o.call z in
        moved (clear ∙ ap zeros (lent-sizes o).0) (clear' ∙ ap zeros (lent-sizes o).1) (no_start c.1 z (judged-none (start_state a.states start) judged-as q))

    pub sheet-opened : {state : ℕ} → r ≡ Some state → OpensTable text start (given 0 a.states state) entries finals
    sheet-opened q =
        let c = call-compiled text read_as o.call z in
        moved (lent_then_zeros o) (finals_then_zeros o) (opened c.1 z (judged-some (start_state a.states start) judged-as q))
