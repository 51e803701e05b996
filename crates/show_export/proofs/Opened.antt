-- What is printed of a table that was opened for a text is what `export` prints for the text, and has room in a page. From the table that `open_table` gives
-- (opened_tables) and the header of a compile (Exported).
use Prim.Native.Nat.{ℕ, ◌-◌, ◌≤◌, ◌<◌, min}
use native.Mathlib.Omega.{arith}
use mathlib.Core.Path.{◌≡◌, refl, sym, ap, ap₂, subst, ◌∙◌}
use mathlib.Core.Logic.{◌≢◌}
use mathlib.Core.Bool.{Bool, true, false}
use mathlib.Core.List.{List, ◌++◌}
use mathlib.Core.Option.{none}
use lib.Dec.{ltb}
use lib.ListN.{length, get_or, take, length-take, get_or-eq_default}
use lib.Seq.{get_or-take}
use borrow.Author.Tests.{ltb-true, ltb-false}
use Rattle.outcome.specs.Room.{zeros}
use Rattle.lend.proofs.Outcome.{refused-positive}
use Rattle.print.specs.Append.{Appends}
use Rattle.print.specs.Text.{refusal_line}
use Rattle.print.proofs.Lengths.{refusal-length}
use Rattle.pages.proofs.Lines.{written-front}
use Rattle.checksum.specs.Checksum.{checksum_of}
use Rattle.opening.specs.declared.OpenedTable.{OpenedTable}
use Rattle.opening.specs.Opens.{OpensTable, OpensTable.refused_sheet as gives_no_table, OpensTable.no_start as gives_no_state, OpensTable.opened as table}
use Rattle.opening.proofs.Plays.{none≢some}
use Rattle.opened_tables.specs.Used.{opened_given}
use Rattle.opened_tables.proofs.Used.{opened-given, start_none}
use Rattle.show_export.specs.Prints.{PrintsExport, refused, exported}
use Rattle.show_export.specs.Shows.{page_room, given_text}
use Rattle.show_export.proofs.Exported.{given-exported, given-short}

-- The first of bytes are bytes.
part_bytes : (n : ℕ) (l : List ℕ) → ((i : ℕ) → get_or l i 0 < 256) → (i : ℕ) → get_or (take n l) i 0 < 256
part_bytes n l small i = by (ltb i n) refl
  where
    by : (t : Bool) → ltb i n ≡ t → get_or (take n l) i 0 < 256
    by true e = omega (arith, small i, get_or-take n l i 0 (ltb-true i n e))
    by false e = omega (arith, get_or-eq_default (take n l) 0 {n = i} (omega (arith, ltb-false i n e, length-take n l)))

-- A text that has room stands at the front of the page.
stands-front : {text out out' : List ℕ} {r : ℕ} → Appends 0 text out out' r → length text ≤ length out → text ≡ take r out'
stands-front {text} {out} {out'} {r} p h =
    let w = p.written (omega arith) in
    let e : r ≡ length text = omega (arith, w.1) in
    sym (ap₂ take e w.0 ∙ written-front out text h)

module _ {text : List ℕ} {out out' : List ℕ} {r : ℕ} (room : length out ≡ page_room) where
  -- A refusal's line in the page.
  pub refusal-filled : {x : OpenedTable} {entries finals : List ℕ} → OpensTable text none x entries finals → x.refusal ≢ 0 → x.refusal < 4294967296 → Appends 0 (refusal_line x.refusal) out out' r
      → PrintsExport text (take r out')
  refusal-filled (gives_no_table {n} q) d small p = subst (PrintsExport text) (stands-front p (omega (arith, refusal-length n small))) (refused q)
  refusal-filled (gives_no_state c z e) d small p = absurd (none≢some e (start_none _))
  refusal-filled (table c z e) d small p = absurd (d refl)

  -- The header in the page.
  pub header_filled : {x : OpenedTable} {checksum : ℕ} {entries finals : List ℕ} → OpensTable text none x entries finals → x.refusal ≡ 0 → checksum ≡ checksum_of text → checksum < 4294967296 → ((i : ℕ) → get_or finals i 0 < 256)
      → Appends 0 (given_text checksum (opened_given x entries finals)) out out' r → PrintsExport text (take r out')
  header_filled (gives_no_table q) y e small bytes p = absurd (omega (arith, refused-positive q))
  header_filled (gives_no_state c z e) y f small bytes p = absurd (none≢some e (start_none _))
  header_filled {checksum = checksum} (table {s} {a} {t} {state} c z e) y f small bytes p =
      let m = 32768 - length t.entries in
      let n = 256 - length t.finals in
      let same = opened-given c z state m n in
      let used = subst (λ l. (i : ℕ) → get_or l i 0 < 256) (ap (λ g. g.finals) same) (part_bytes (min a.states 256) (t.finals ++ zeros n) bytes) in
      let short = subst (λ l. length l ≤ 344064) (ap (given_text checksum) (sym same)) (given-short c z small used) in
      subst (PrintsExport text) (sym (given-exported c z) ∙ ap₂ given_text (sym f) (sym same) ∙ stands-front p (omega arith)) (exported c z)
