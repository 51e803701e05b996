-- From the compile in the cut room and the play table made of it to the outcome of a call. From the laws of the cut room, of the sheet's play table, and of
-- what a compile tells of its sheet (compiled_sheet).
use Prim.Native.Nat.{ℕ, ◌+◌, ◌-◌, ◌/◌, ◌≤◌, ◌<◌, min}
use native.Mathlib.Omega.{arith}
use native.Mathlib.Decide.{ℕ_discrete}
use mathlib.Core.Path.{◌≡◌, refl, sym, ◌∙◌, ap, ap₂, subst}
use mathlib.Core.Logic.{◌≢◌}
use mathlib.Core.Bool.{Bool, true, false, cond}
use mathlib.Core.List.{List, ◌++◌}
use lib.Dec.{eqb}
use lib.ListN.{length, take, length-append, length-replicate}
use lib.Seq.{length-take-le, get_or-take}
use borrow.Author.Tests.{eq-eqb}
use Rattle.meaning.specs.Expression.{Sheet}
use Rattle.meaning.specs.Letter.{letter_count}
use Rattle.meaning.specs.Choice.{choice_count, choice_of}
use Rattle.sheet.specs.Refusal.{sheet, AnswerTo}
use Rattle.sheet.specs.Reading.{answer_to}
use Rattle.sheet.proofs.Reading.{answer-complete}
use Rattle.sheet.proofs.Accepted.{accepted_facts}
use Rattle.outcome.specs.Room.{zeros}
use Rattle.outcome.specs.Compile.{CompileAnswer, refused_answer, Room, Tables, all_zero, SheetOutcome, CompileOutcome, unread, read}
use Rattle.outcome.specs.Force.{with_play, with_zero_play, ForceOutcome, unread, not_compiled, SamePlayRows, ForceCall}
use Rattle.outcome.proofs.Leaves.{Leaves, compile_leaves, refused_words_zero}
use Rattle.outcome.proofs.AcceptedCompile.{refusal-positive}
use Rattle.outcome.proofs.ForceUnique.{force_unique}
use Rattle.outcome.proofs.ForceTotal.{force_total}
use Rattle.reader.specs.Stored.{stored_sheet, reading_of}
use Rattle.reader.specs.declared.StoredSheet.{StoredSheet}
use Rattle.streams.specs.Description.{description_of}
use Rattle.compiled.specs.Answer.{refused_with, answer_of}
use Rattle.streams.specs.Description.{none_described}
use Rattle.compiled_sheet.specs.Told.{sheet_streams, told_with, told, told_with_play, compiled_in, SheetCall}
use Rattle.compiled_sheet.specs.declared.CompiledSheet.{CompiledSheet}
use Rattle.compiled_sheet.proofs.Told.{numbers_of, told-numbers, play-refused}
use Rattle.compiled_sheet.proofs.Sheets.{stored_description, stored-streams-fit, letters-told, streams-told, told_fit}
use Rattle.choices.specs.Counted.{RowsHeld}
use Rattle.choices.proofs.Fit.{fit-can-count, choices-counted, rows-counted, choices-filled}
use Rattle.winning_rows.specs.Play.{PlayOutcome, unfit, lost, won}
use Rattle.game.specs.Call.{ForceSheetCall}
use Rattle.make_play.specs.Parts.{kept_if, PlayMade}
use Rattle.game.proofs.Cut.{with_finals, outcome-behind}
use Rattle.game.proofs.Play.{AreSheetChoices, play-call}

-- ---- what is told and played

-- without rows nothing is forced, and the play table is cleared
no_rows : {entries finals choice : List ℕ} {choices rows room : ℕ} {forced : Bool} {play : List ℕ} → PlayOutcome entries finals choice choices rows room forced play → rows ≡ 0 → (forced ≡ false) × (play ≡ zeros room)
no_rows (unfit x) e = (refl, refl)
no_rows (lost F R x) e = (refl, refl)
no_rows (won F R x H) e = absurd (omega (arith, F.some_row))

-- what is told with a play table
play-tells : (x : StoredSheet) {r : CompiledSheet} (forced : Bool) → r ≡ told x (compiled_in r) → told_with_play r forced ≡ told x (compiled_in (told_with_play r forced))
play-tells x {r} forced e = by (eqb r.refusal 0) forced
  where
    prevented : CompiledSheet
    prevented = told_with (refused_with 16) 0 none_described

    by : (b f : Bool) → cond b (cond f r prevented) r ≡ told x (compiled_in (cond b (cond f r prevented) r))
    by true true = e
    by true false = refl
    by false f = e

-- ---- the call

module _ {text : List ℕ} (room : Room) {size rows held : ℕ} (is : rows ≡ min held room.finals) (H : RowsHeld (sheet_streams (reading_of (answer_to text)).sheet) size held) {r₀ : CompiledSheet} {t : Tables}
    (call : SheetCall text (with_finals room rows) r₀ t) {live play live' play' entries' finals' : List ℕ} {r : CompiledSheet} (long : length play ≡ size)
    (within : r₀.refusal ≡ 0 → r₀.states ≤ length live) (P : PlayMade r₀ t.entries (t.finals ++ zeros (room.finals - rows)) live play r entries' finals' live' play') where
  -- the compile's tables with all final bytes, and what is left of them
  abbrev whole : Tables
  whole = record { entries = t.entries; finals = t.finals ++ zeros (room.finals - rows); work = t.work }

  abbrev left : Tables
  left = record { entries = entries'; finals = finals'; work = t.work }

  sized : Leaves (with_finals room rows) t
  sized = compile_leaves call.call

  left-kept : (forced : Bool) → entries' ≡ kept_if forced whole.entries → finals' ≡ kept_if forced whole.finals → left ≡ cond forced whole (all_zero room)
  left-kept true e f = λ i. record { entries = e i; finals = f i; work = t.work }
  left-kept false e f =
      let finals_long : length whole.finals ≡ room.finals = length-append t.finals (zeros (room.finals - rows)) ∙ ap₂ ◌+◌ sized.finals_size (length-replicate (room.finals - rows) 0) ∙ omega (arith, is) in
      λ i. record { entries = (e ∙ ap zeros sized.entries_size) i; finals = (f ∙ ap zeros finals_long) i; work = sized.work_zero i }

  left_is : left ≡ cond P.forced whole (all_zero room)
  left_is = left-kept P.forced P.entries_kept P.finals_kept

  -- after a refusal everything is zero, and the answer is the compile's
  refused-call : r₀.refusal ≢ 0 → r₀.states ≡ 0 → ForceOutcome text room size (answer_of (compiled_in r₀)) (all_zero room) (zeros size) → ForceOutcome text room size (answer_of (compiled_in r)) left play'
  refused-call n none o =
      let x = no_rows P.played (omega (arith, none)) in
      let answer : answer_of (compiled_in r₀) ≡ answer_of (compiled_in r) = ap (λ y. answer_of (compiled_in y)) (play-refused r₀ P.forced n ∙ sym P.answer) in
      let tables : all_zero room ≡ left = sym (left_is ∙ ap (λ b. cond b whole (all_zero room)) x.0) in
      let plays : zeros size ≡ play' = sym (x.1 ∙ ap zeros long) in
      subst (λ a. ForceOutcome text room size a left play') answer (subst (λ u. ForceOutcome text room size (answer_of (compiled_in r₀)) u play') tables (subst (ForceOutcome text room size (answer_of (compiled_in r₀)) (all_zero room)) plays o))

  module _ {s : Sheet} (x : AnswerTo text (sheet s)) where
    -- the rows that the play table holds
    held_rows : rows ≡ min (size / choice_count s.streams) room.finals
    held_rows =
        let stored : (reading_of (answer_to text)).sheet ≡ stored_sheet s = ap (λ a. (reading_of a).sheet) (answer-complete x) in
        let H' : RowsHeld (sheet_streams (stored_sheet s)) size held = subst (λ y. RowsHeld (sheet_streams y) size held) stored H in
        let facts = accepted_facts x in
        let count = rows-counted (sheet_streams (stored_sheet s)) (fit-can-count (sheet_streams (stored_sheet s)) (stored-streams-fit s facts) facts.some_letter) H' in
        is ∙ ap (λ n. min n room.finals) (count ∙ ap (λ ss. size / choice_count ss) (stored_description s facts))

    -- the compile with the play table among the lent tables
    whole-outcome : SheetOutcome s (with_finals room rows) (answer_of (compiled_in r₀)) t → SheetOutcome s (with_play s size room) (answer_of (compiled_in r₀)) (with_zero_play size whole)
    whole-outcome o = outcome-behind room (record { per_row = choice_count s.streams; size = size }) rows held_rows o

    -- the choices that are told are the sheet's
    module _ (z : r₀.refusal ≡ 0) where
      sheet-choices : AreSheetChoices s.streams (take (min r₀.letters 1024) P.choice) P.choices
      sheet-choices =
          let facts = accepted_facts x in
          let letters = letters-told call.tells z x in
          let told = streams-told call.tells z x in
          let can = fit-can-count r₀.streams (told_fit call.tells z x) (omega (arith, letters, facts.some_letter)) in
          let same : letter_count (description_of r₀.streams) ≡ letter_count s.streams = ap letter_count told in
          let filled = choices-filled r₀.streams can P.filled (omega (arith, same, facts.letters, length-replicate {A = ℕ} 1024 0)) in
          record {
            long = length-take-le (min r₀.letters 1024) P.choice (omega (arith, filled.same, length-replicate {A = ℕ} 1024 0)) ∙ omega (arith, letters, facts.letters);
            agree = λ a h. get_or-take (min r₀.letters 1024) P.choice a 0 (omega (arith, letters, facts.letters)) ∙ filled.choices a (omega (arith, same)) ∙ ap (λ ss. choice_of ss a) told;
            counted = choices-counted r₀.streams can P.counted ∙ ap choice_count told;
          }

      accepted-call : SheetOutcome s (with_finals room rows) (answer_of (compiled_in r₀)) t → ForceOutcome text room size (answer_of (compiled_in r)) left play'
      accepted-call o =
          let all : min r₀.states (length live) ≡ r₀.states = omega (arith, within z) in
          let played : PlayOutcome whole.entries whole.finals (take (min r₀.letters 1024) P.choice) P.choices r₀.states size P.forced play' =
          subst (λ n. PlayOutcome whole.entries whole.finals (take (min r₀.letters 1024) P.choice) P.choices r₀.states n P.forced play') long
          (subst (λ n. PlayOutcome whole.entries whole.finals (take (min r₀.letters 1024) P.choice) P.choices n (length play) P.forced play') all P.played) in
          let answer : cond P.forced (answer_of (compiled_in r₀)) (refused_answer 16) ≡ answer_of (compiled_in r) = sym (ap (λ y. answer_of (compiled_in y)) P.answer ∙ answers P.forced) in
          subst (λ a. ForceOutcome text room size a left play') answer (subst (λ u. ForceOutcome text room size (cond P.forced (answer_of (compiled_in r₀)) (refused_answer 16)) u play') (sym left_is) (play-call x (whole-outcome o) z sheet-choices played))
        where
          answers : (forced : Bool) → answer_of (compiled_in (told_with_play r₀ forced)) ≡ cond forced (answer_of (compiled_in r₀)) (refused_answer 16)
          answers true = simp (eq-eqb r₀.refusal 0 z)
          answers false = simp (eq-eqb r₀.refusal 0 z)

    sheet-call : SheetOutcome s (with_finals room rows) (answer_of (compiled_in r₀)) t → ForceOutcome text room size (answer_of (compiled_in r)) left play'
    sheet-call o = by (ℕ_discrete r₀.refusal 0)
      where
        positive : r₀.refusal ≢ 0 → 0 < r₀.refusal
        positive n = omega (arith, n)

        by : Dec (r₀.refusal ≡ 0) → ForceOutcome text room size (answer_of (compiled_in r)) left play'
        by (yes z) = accepted-call z o
        by (no n) = refused-call n (ap (λ a. a.states) (refused_words_zero o (positive n)).0) (not_compiled x (whole-outcome o) (positive n))

  text-call : {a : CompileAnswer} {u : Tables} → CompileOutcome text (with_finals room rows) a u → a ≡ answer_of (compiled_in r₀) → u ≡ t → ForceOutcome text room size (answer_of (compiled_in r)) left play'
  text-call (unread {n} x) e f =
      refused-call (λ z. omega (arith, refusal-positive x, ap (λ y. y.refusal) e)) (sym (ap (λ y. y.states) e)) (subst (λ a. ForceOutcome text room size a (all_zero room) (zeros size)) e (unread x))
  text-call {a} {u} (read {s} x o) e f = sheet-call x (subst (SheetOutcome s (with_finals room rows) (answer_of (compiled_in r₀))) f (subst (λ b. SheetOutcome s (with_finals room rows) b u) e o))

  pub force_call : ForceSheetCall text room size r left play'
  force_call =
      record {
        call = text-call call.call refl refl;
        tells = subst (λ y. y ≡ told (reading_of (answer_to text)).sheet (compiled_in y)) (sym P.answer) (play-tells (reading_of (answer_to text)).sheet P.forced call.tells);
      }

-- ---- one outcome for each call but for the letters held, and always one

module _ (text : List ℕ) (room : Room) (size : ℕ) where
  pub force_call_unique : {r q : CompiledSheet} {t u : Tables} {play play' : List ℕ} → ForceSheetCall text room size r t play → ForceSheetCall text room size q u play'
      → (r ≡ q) × (t ≡ u) × SamePlayRows text r.states play play'
  force_call_unique a b =
      let one = force_unique text room size a.call b.call in
      (a.tells ∙ ap (λ c. told (reading_of (answer_to text)).sheet (numbers_of c)) one.0 ∙ sym b.tells, one.1, one.2)

  pub record HasForceCall : Type 0 where
    pub answer : CompiledSheet
    pub tables : Tables
    pub play : List ℕ
    pub call : ForceSheetCall text room size answer tables play

  pub force_call_total : HasForceCall
  force_call_total =
      let o = force_total text room size in
      let x = (reading_of (answer_to text)).sheet in
      let same : numbers_of o.answer ≡ compiled_in (told x (numbers_of o.answer)) = sym (told-numbers x (numbers_of o.answer)) in
      record {
        answer = told x (numbers_of o.answer);
        tables = o.tables;
        play = o.play;
        call = record { call = subst (λ c. ForceCall text room size (answer_of c) o.tables o.play) same o.outcome; tells = ap (told x) same };
      }
