-- The parts of a call in terms of the lent lists: what is kept or cleared, the play table that is made, and the whole call.
use Prim.Native.Nat.{ℕ, ◌+◌, ◌-◌, ◌/◌, ◌≤◌, min}
use native.Mathlib.Omega.{arith}
use native.Mathlib.Nat.{div-one, le_trans}
use mathlib.Core.Path.{◌≡◌, refl, sym, ◌∙◌, ap, subst}
use mathlib.Core.List.{List, [], ◌∷◌, ◌++◌}
use lib.ListN.{length, take, drop, replicate, length-drop, length-replicate, replicate-append-replicate}
use lib.Seq.{length-take-le, get_or-drop}
use Rattle.basics.specs.Clearing.{ClearedFrom}
use Rattle.basics.proofs.Clearing.{all-zero}
use Rattle.basics.proofs.Lists.{drop-replicate}
use Rattle.sheet.specs.Reading.{answer_to}
use Rattle.meaning.specs.Letter.{letter_count}
use Rattle.outcome.specs.Room.{LentTable, fewest_rows, zeros}
use Rattle.outcome.specs.Compile.{CompileAnswer, Room, room_rows, Tables, too_many_situations, too_few_rows, no_solution, compiled, CompileOutcome, unread, read}
use Rattle.outcome.proofs.Leaves.{compile_leaves}
use Rattle.outcome.proofs.AcceptedCompile.{refusal-positive}
use Rattle.outcome.proofs.CompileTotal.{fewest_first}
use Rattle.outcome.proofs.StateCount.{states-at-most-situations}
use Rattle.reader.specs.Stored.{reading_of}
use Rattle.reader.specs.declared.Reading.{Reading}
use Rattle.streams.specs.declared.StreamsDescription.{StreamsDescription}
use Rattle.compiled_sheet.specs.Told.{sheet_streams, SheetCall}
use Rattle.compiled_sheet.specs.declared.CompiledSheet.{CompiledSheet}
use Rattle.compile.specs.Lent.{lent, room_of, tables_of}
use Rattle.choices.specs.Counted.{RowsHeld}
use Rattle.game.specs.Call.{ForceSheetCall}
use Rattle.make_play.specs.Parts.{PlayMade}
use Rattle.game.proofs.Cut.{with_finals}
use Rattle.game.proofs.Call.{force_call}

-- ---- final bytes that are cleared from a place on
module _ {finals cleared : List ℕ} {rows : ℕ} (inside : rows ≤ length finals) (C : ClearedFrom finals cleared rows) where
  pub rows_inside : rows ≤ length cleared
  rows_inside = omega (arith, C.same)

  pub rows_taken : length (take rows cleared) ≡ rows
  rows_taken = length-take-le rows cleared rows_inside

  rest-zero : drop rows cleared ≡ zeros (length finals - rows)
  rest-zero = all-zero (drop rows cleared) (length finals - rows) (length-drop rows cleared ∙ ap (◌- rows) C.same) λ i. get_or-drop rows cleared i 0 ∙ C.beyond (rows + i) (omega arith)

-- ---- the whole call

later_rows : (t u : LentTable) (us : List LentTable) → fewest_rows t (u ∷ us) ≤ fewest_rows u us
later_rows t u us = omega arith

module _ (entries finals keys live class next heads links envelopes : List ℕ) where
  abbrev room : Room
  room = room_of entries finals keys live class next heads links envelopes

  -- a compiled table has no more states than `live` has numbers
  states-within : {text : List ℕ} {cut : ℕ} {a : CompileAnswer} {t : Tables} → CompileOutcome text (with_finals room cut) a t → a.refusal ≡ 0 → a.states ≤ length live
  states-within (unread x) z = absurd (omega (arith, refusal-positive x))
  states-within (read x (too_many_situations h y)) z = absurd (omega arith)
  states-within (read x (too_few_rows h y)) z = absurd (omega arith)
  states-within (read x (no_solution f y)) z = absurd (omega arith)
  states-within {cut = cut} (read {s} x (compiled f h)) z = omega (arith, states-at-most-situations s h.table.table f.counted, f.within_room, live-rows, div-one (length live))
    where
      live-rows : room_rows (with_finals room cut) (letter_count s.streams) ≤ length live / 1
      live-rows =
          let others = lent 1 class ∷ (lent 1 next ∷ (lent 1 heads ∷ (lent 1 links ∷ (lent 1 envelopes ∷ [])))) in
          le_trans (later_rows (lent (letter_count s.streams) entries) (record { per_row = 1; size = cut }) (lent 16 keys ∷ (lent 1 live ∷ others)))
          (le_trans (later_rows (record { per_row = 1; size = cut }) (lent 16 keys) (lent 1 live ∷ others)) (le_trans (later_rows (lent 16 keys) (lent 1 live) others) (fewest_first (lent 1 live) others)))

  -- the second work table
  second : List (List ℕ) → List ℕ
  second [] = []
  second (x ∷ []) = []
  second (x ∷ (y ∷ ys)) = y

  module _ (play : List ℕ) {text : List ℕ} {reading : Reading} {streams : StreamsDescription} {held rows : ℕ} {cleared : List ℕ} (answer : reading ≡ reading_of (answer_to text)) (stored : streams ≡ sheet_streams reading.sheet)
      (H : RowsHeld streams (length play) held) (is : rows ≡ min held (length finals)) (C : ClearedFrom finals cleared rows) where
    module _ {r₀ r : CompiledSheet} {entries₁ finals₁ keys₁ live₁ class₁ next₁ heads₁ links₁ envelopes₁ : List ℕ}
        (call : SheetCall text (room_of entries (take rows cleared) keys live class next heads links envelopes) r₀ (tables_of entries₁ finals₁ keys₁ live₁ class₁ next₁ heads₁ links₁ envelopes₁)) {entries₂ finals₂ live₂ play₂ : List ℕ}
        (P : PlayMade r₀ entries₁ (finals₁ ++ drop rows cleared) live₁ play r entries₂ finals₂ live₂ play₂) where
      abbrev t : Tables
      t = tables_of entries₁ finals₁ keys₁ live₁ class₁ next₁ heads₁ links₁ envelopes₁

      cut-call : SheetCall text (with_finals room rows) r₀ t
      cut-call = subst (λ n. SheetCall text (with_finals room n) r₀ t) (rows_taken (omega (arith, is)) C) call

      live_zero : live₁ ≡ zeros (length live)
      unfolding second
      live_zero = ap second (compile_leaves cut-call.call).work_zero

      live-long : length live₁ ≡ length live
      live-long = ap length live_zero ∙ length-replicate (length live) 0

      live_same : live₁ ≡ live₂
      live_same =
          let k = min r₀.states (length live₁) in
          let e : k + (length live - k) ≡ length live = omega (arith, live-long) in
          live_zero ∙ sym (P.live_cleared ∙ ap (λ xs. replicate k 0 ++ drop k xs) live_zero ∙ ap (replicate k 0 ++◌) (drop-replicate 0 k (length live)) ∙ replicate-append-replicate k (length live - k) 0 ∙ ap zeros e)

      pub whole-call : ForceSheetCall text room (length play) r (tables_of entries₂ finals₂ keys₁ live₂ class₁ next₁ heads₁ links₁ envelopes₁) play₂
      whole-call =
          subst (λ xs. ForceSheetCall text room (length play) r (tables_of entries₂ finals₂ keys₁ xs class₁ next₁ heads₁ links₁ envelopes₁) play₂) live_same
          (force_call room is (subst (λ s. RowsHeld s (length play) held) (stored ∙ ap (λ y. sheet_streams y.sheet) answer) H) cut-call refl (λ z. omega (arith, states-within cut-call.call z, live-long))
          (subst (λ xs. PlayMade r₀ entries₁ (finals₁ ++ xs) live₁ play r entries₂ finals₂ live₂ play₂) (rest-zero (omega (arith, is)) C) P))
