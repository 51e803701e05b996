-- Tables with as many numbers as so many rows take are the room of these rows, and the first parts of arrays that were cleared behind them are the
-- tables of a call in the rows lent, after which the arrays are as long as they were.
use Prim.Native.Nat.{ℕ, ◌+◌, ◌-◌, ◌*◌, ◌≤◌, ◌<◌}
use native.Mathlib.Omega.{arith}
use mathlib.Core.Path.{◌≡◌, refl, sym, ◌∙◌, ap, ap₂, subst, transport}
use mathlib.Core.List.{List, [], ◌∷◌, ◌++◌}
use lib.ListN.{length, take, drop, take-append-drop, length-take, length-drop, length-replicate, replicate-append-replicate}
use lib.Seq.{take_at, drop_at, get_or-drop}
use Rattle.basics.specs.Clearing.{ClearedFrom}
use Rattle.basics.proofs.Clearing.{all-zero}
use Rattle.outcome.specs.Room.{LentTable, zeros}
use Rattle.outcome.specs.Compile.{CompileAnswer, CompileCall}
use Rattle.outcome.proofs.Leaves.{compile_leaves, refused_zero as refused-tables}
use Rattle.lend.specs.Lend.{rows_lent, room_of_rows, tables_of_rows, LentCall}
use Rattle.lend.proofs.Rows.{lent-entries, lent_rows}

-- ---- a call in the tables of so many rows

-- A table with this many numbers, and one number a row.
abbrev single : ℕ → LentTable
single size = record { per_row = 1; size = size }

-- The work tables with these many numbers.
abbrev pub sized_work : (keys live class next heads links envelopes : ℕ) → List LentTable
sized_work keys live class next heads links envelopes =
    record { per_row = 16; size = keys } ∷ (single live ∷ (single class ∷ (single next ∷ (single heads ∷ (single links ∷ (single envelopes ∷ []))))))

-- Those with the numbers that so many rows take are the work tables of these rows.
pub work-of-rows : {rows keys live class next heads links envelopes : ℕ} → rows * 16 ≡ keys → rows ≡ live → rows ≡ class → rows ≡ next → rows ≡ heads → rows ≡ links → rows ≡ envelopes
    → sized_work keys live class next heads links envelopes ≡ (room_of_rows 0 0 rows).work
work-of-rows hk hl hc hn hh hi hs = λ i. sized_work (sym hk i) (sym hl i) (sym hc i) (sym hn i) (sym hh i) (sym hi i) (sym hs i)

pub in_rows : {text : List ℕ} {a : CompileAnswer} {m n rows keys live class next heads links envelopes : ℕ} {entries finals : List ℕ} {work : List (List ℕ)}
    → rows * 16 ≡ keys → rows ≡ live → rows ≡ class → rows ≡ next → rows ≡ heads → rows ≡ links → rows ≡ envelopes
    → CompileCall text (record { entries = m; finals = n; work = sized_work keys live class next heads links envelopes }) a (record { entries = entries; finals = finals; work = work })
    → CompileCall text (room_of_rows m n rows) a (tables_of_rows rows entries finals)
in_rows {text} {a} {m} {n} {rows} {entries = entries} {finals} {work} hk hl hc hn hh hi hs call =
    let sized = subst (λ w. CompileCall text (record { entries = m; finals = n; work = w }) a (record { entries = entries; finals = finals; work = work })) (work-of-rows hk hl hc hn hh hi hs) call in
    subst (λ w. CompileCall text (room_of_rows m n rows) a (record { entries = entries; finals = finals; work = w })) (compile_leaves sized).work_zero sized

-- ---- a call in the first parts of arrays

-- What was cleared from a place on is zero behind it.
cleared-behind : {old new : List ℕ} {from size : ℕ} → length old ≡ size → ClearedFrom old new from → drop from new ≡ zeros (size - from)
cleared-behind {old} {new} {from} {size} h c =
    all-zero (drop from new) (size - from) (omega (arith, length-drop from new, c.same)) (λ i. get_or-drop from new i 0 ∙ c.beyond _ (omega arith))

-- The first part came back, as long as it was lent, and stands before what was cleared behind it.
module _ {text : List ℕ} {a : CompileAnswer} {entries cleared back finals cleared' back' : List ℕ} {rows m n : ℕ} (letters : ℕ) (same : rows ≡ rows_lent letters) (entries_size : length entries ≡ 32768) (finals_size : length finals ≡ 256)
    (entries_clear : ClearedFrom entries cleared (rows * letters)) (finals_clear : ClearedFrom finals cleared' rows) (lent : rows * letters ≡ m) (lent' : rows ≡ n) (kept : length back ≡ m) (kept' : length back' ≡ n) where
  pub parts-lent : CompileCall text (room_of_rows m n rows) a (tables_of_rows rows back back') → LentCall text letters a (back ++ drop (rows * letters) cleared) (back' ++ drop rows cleared')
  parts-lent call =
      let whole = back ++ drop (rows * letters) cleared in
      let whole' = back' ++ drop rows cleared' in
      let long = kept ∙ sym lent in
      let long' = kept' ∙ sym lent' in
      let first : take (rows * letters) whole ≡ back = take_at back _ (rows * letters) long in
      let first' : take rows whole' ≡ back' = take_at back' _ rows long' in
      let behind : drop (rows * letters) whole ≡ zeros (32768 - rows * letters) = drop_at back _ (rows * letters) long ∙ cleared-behind entries_size entries_clear in
      let behind' : drop rows whole' ≡ zeros (256 - rows) = drop_at back' _ rows long' ∙ cleared-behind finals_size finals_clear in
      let inside : CompileCall text (room_of_rows (rows * letters) rows rows) a (tables_of_rows rows (take (rows * letters) whole) (take rows whole')) = transport (λ i. CompileCall text (room_of_rows (sym lent i) (sym lent' i) rows) a (tables_of_rows rows (sym first i) (sym first' i))) call in
      record {
        call = subst (λ r. CompileCall text (room_of_rows (r * letters) r r) a (tables_of_rows r (take (r * letters) whole) (take r whole'))) same inside;
        entries_behind = subst (λ r. drop (r * letters) whole ≡ zeros (32768 - r * letters)) same behind;
        finals_behind = subst (λ r. drop r whole' ≡ zeros (256 - r)) same behind';
      }

-- ---- the arrays are as long as they were

whole-size : (part size : ℕ) (list : List ℕ) → part ≤ size → length (take part list) ≡ part → drop part list ≡ zeros (size - part) → length list ≡ size
whole-size part size list fits first rest =
    omega (arith, length-take part list, length-drop part list, ap length rest, length-replicate {A = ℕ} (size - part) 0)

pub lent-sizes : {text : List ℕ} {letters : ℕ} {a : CompileAnswer} {entries finals : List ℕ} → LentCall text letters a entries finals → (length entries ≡ 32768) × (length finals ≡ 256)
lent-sizes {letters = letters} {entries = entries} {finals} c =
    let leaves = compile_leaves c.call in
    (whole-size (rows_lent letters * letters) 32768 entries (lent-entries letters) leaves.entries_size c.entries_behind, whole-size (rows_lent letters) 256 finals (lent_rows letters) leaves.finals_size c.finals_behind)

-- ---- what the arrays hold

module _ {text : List ℕ} {letters : ℕ} {a : CompileAnswer} {entries finals : List ℕ} (c : LentCall text letters a entries finals) where
  abbrev part : ℕ
  part = rows_lent letters * letters

  -- The entries lent, and zeros.
  pub lent_then_zeros : entries ≡ take part entries ++ zeros (32768 - length (take part entries))
  lent_then_zeros = sym (take-append-drop part entries) ∙ ap (take part entries ++◌) (c.entries_behind ∙ ap (λ n. zeros (32768 - n)) (sym (compile_leaves c.call).entries_size))

  -- The final bytes lent, and zeros.
  pub finals_then_zeros : finals ≡ take (rows_lent letters) finals ++ zeros (256 - length (take (rows_lent letters) finals))
  finals_then_zeros =
      sym (take-append-drop (rows_lent letters) finals) ∙ ap (take (rows_lent letters) finals ++◌) (c.finals_behind ∙ ap (λ n. zeros (256 - n)) (sym (compile_leaves c.call).finals_size))

  -- After a refusal every entry and every final byte is zero.
  pub refused_zero : 0 < a.refusal → entries ≡ zeros 32768
  refused_zero h =
      let fits = lent-entries letters in
      let whole : part + (32768 - part) ≡ 32768 = omega arith in
      sym (take-append-drop part entries) ∙ ap₂ ◌++◌ (ap (λ t. t.entries) (refused-tables c.call h).1) c.entries_behind ∙ replicate-append-replicate part (32768 - part) 0 ∙ ap zeros whole

  pub refused-finals-zero : 0 < a.refusal → finals ≡ zeros 256
  refused-finals-zero h =
      let rows = rows_lent letters in
      let fits = lent_rows letters in
      let whole : rows + (256 - rows) ≡ 256 = omega arith in
      sym (take-append-drop rows finals) ∙ ap₂ ◌++◌ (ap (λ t. t.finals) (refused-tables c.call h).1) c.finals_behind ∙ replicate-append-replicate rows (256 - rows) 0 ∙ ap zeros whole
