-- What `show_strategy` prints by its calls is what document 02 says of the text: the play table that `force` leaves in the rows lent, with the table, names and
-- ranges of the sheet, or the refusal, is printed place by place. Said in the terms of the calls' contracts. From what a call for a play table gives (outcome),
-- the choices that are counted (choices), and the text of a printout (play_text).
use Prim.Native.Nat.{ℕ, ◌+◌, ◌-◌, ◌*◌, ◌<◌, min}
use native.Mathlib.Omega.{arith}
use native.Mathlib.Nat.{le_trans, mul-le-mul_left, min-eq_left}
use mathlib.Core.Path.{◌≡◌, sym, ◌∙◌, ap, ap₂, subst, transport}
use mathlib.Core.Logic.{◌⊎◌, inl, inr}
use mathlib.Core.List.{List}
use lib.Arith.{digits_lt}
use lib.ListN.{length, get_or, take, replicate}
use Rattle.meaning.specs.Expression.{Sheet}
use Rattle.meaning.specs.Letter.{letter_count, SolutionWord}
use Rattle.meaning.specs.Choice.{choice_count}
use Rattle.meaning.proofs.Choice.{choices-at-most}
use Rattle.sheet.specs.Refusal.{sheet, AnswerTo}
use Rattle.sheet.specs.Reading.{answer_to}
use Rattle.sheet.proofs.Accepted.{accepted_facts}
use Rattle.sheet.proofs.Names.{short-names}
use Rattle.automaton.specs.Table.{no_state}
use Rattle.automaton.specs.Stored.{entry_at}
use Rattle.automaton.specs.PlayTable.{ForcedRow, PreventedRow}
use Rattle.outcome.specs.Room.{zeros}
use Rattle.outcome.specs.Compile.{CompileAnswer, refused_answer, Tables, all_zero}
use Rattle.outcome.specs.Force.{sheet_game, HoldsPlay, unread, not_compiled, prevented, forced, ForceCall}
use Rattle.outcome.proofs.AcceptedCompile.{refusal-positive}
use Rattle.reader.specs.declared.Reading.{Reading}
use Rattle.header.specs.Streams.{name_bytes, name_lengths}
use Rattle.reader.specs.Stored.{stored_sheet, reading_of}
use Rattle.situations.proofs.Stored.{part_held, lows-part, highs-part, sheet-letters}
use Rattle.compiled_sheet.specs.Told.{sheet_streams}
use Rattle.compiled_sheet.proofs.Sheets.{stored_description, stored-streams-fit}
use Rattle.choices.specs.Counted.{ChoicesCounted}
use Rattle.choices.proofs.Fit.{fit-can-count, choices-counted}
use Rattle.lend.specs.Lend.{rows_lent, room_of_rows}
use Rattle.lend.proofs.Rows.{lent-entries}
use Rattle.lend.proofs.Outcome.{stored_is}
use Rattle.output.specs.declared.Handed.{Handed}
use Rattle.print.specs.Text.{refusal_line}
use Rattle.table_text.proofs.Places.{get_or-inside}
use Rattle.pages.proofs.Refused.{refused-text}
use Rattle.play_text.specs.Play.{play_text}
use Rattle.play_text.specs.Output.{play_line, play_output}
use Rattle.play_text.proofs.Output.{IsHeld, play-text}
use Rattle.show_strategy.specs.Prints.{ForcedLent, PrintsStrategy, refused_text, refused_sheet, played}
use Rattle.show_strategy.specs.Shows.{ShowsStrategy, play_printout, ShownIn}

-- ---- what a call for a play table leaves

-- Each number of a state's row is that of a letter, or 65,535.
row_held : {s : Sheet} {n size : ℕ} {t : Tables} {play : List ℕ} → HoldsPlay s n t size play → (i c : ℕ) → i < n → c < choice_count s.streams
    → IsHeld s.streams play (i * choice_count s.streams + c)
row_held {s} {n} {t = t} {play} h i c hi hc = by (h.is_play_table.row i hi)
  where
    inside : get_or play (i * choice_count s.streams + c) no_state ≡ entry_at (choice_count s.streams) play i c
    inside = get_or-inside play (i * choice_count s.streams + c) no_state 0 (omega (arith, h.play_size, h.play_fits, digits_lt hi hc))

    by : ForcedRow (sheet_game s n t) (SolutionWord s) (entry_at (choice_count s.streams) play) i ⊎ PreventedRow (sheet_game s n t) (SolutionWord s) (entry_at (choice_count s.streams) play) i
        → IsHeld s.streams play (i * choice_count s.streams + c)
    by (inl x) = inr (subst (λ v. v < letter_count s.streams) (sym inside) (x.moves c hc).letter)
    by (inr x) = inl (inside ∙ x.lacks c hc)

-- ---- what the calls print

module _ (text : List ℕ) {reading : Reading} (read_as : reading ≡ reading_of (answer_to text)) {rows choices entries_room finals_room play_room : ℕ} (lent : rows ≡ rows_lent reading.sheet.letters)
    (counted : ChoicesCounted (sheet_streams reading.sheet) choices) (entries_size : entries_room ≡ rows * reading.sheet.letters) (finals_size : finals_room ≡ rows) (play_size : play_room ≡ min (rows * choices) 32768) where
  -- What is printed of an answer, a table and a play table.
  abbrev printed : CompileAnswer → Tables → List ℕ → List ℕ
  printed a t play = play_output (play_printout reading.sheet a.refusal a.states choices t.entries t.finals play)

  -- A refusal is printed as its line.
  refusal-printed : (a : CompileAnswer) (t : Tables) (play : List ℕ) → 0 < a.refusal → printed a t play ≡ refusal_line a.refusal
  refusal-printed a t play positive =
      refused-text a.refusal (play_line (play_printout reading.sheet a.refusal a.states choices t.entries t.finals play)) (λ z. omega arith) _

  module _ {s : Sheet} (x : AnswerTo text (sheet s)) where
    stored : reading.sheet ≡ stored_sheet s
    stored = stored_is text read_as x

    -- The choices that are counted are the sheet's.
    choices_are : choices ≡ choice_count s.streams
    choices_are =
        let facts = accepted_facts x in
        let streams = sheet_streams (stored_sheet s) in
        choices-counted streams (fit-can-count streams (stored-streams-fit s facts) facts.some_letter) (subst (λ y. ChoicesCounted (sheet_streams y) choices) stored counted)
        ∙ ap choice_count (stored_description s facts)

    -- The rows are those lent for the sheet's letters, and the play table has as many.
    letters_are : reading.sheet.letters ≡ letter_count s.streams
    letters_are = sheet-letters s stored

    rows_are : rows ≡ rows_lent (letter_count s.streams)
    rows_are = lent ∙ ap rows_lent letters_are

    play-room : play_room ≡ rows_lent (letter_count s.streams) * choice_count s.streams
    play-room =
        let k = letter_count s.streams in
        play_size ∙ ap₂ (λ r c. min (r * c) 32768) rows_are choices_are
        ∙ min-eq_left (le_trans (mul-le-mul_left (rows_lent k) (choices-at-most s.streams (accepted_facts x).some_letter)) (lent-entries k))

    in_lent_room : {a : CompileAnswer} {t : Tables} {play : List ℕ} → ForceCall text (room_of_rows entries_room finals_room rows) play_room a t play → ForcedLent text s a t play
    in_lent_room {a} {t} {play} call =
        let entries : entries_room ≡ rows_lent (letter_count s.streams) * letter_count s.streams = entries_size ∙ ap₂ ◌*◌ rows_are letters_are in
        let finals : finals_room ≡ rows_lent (letter_count s.streams) = finals_size ∙ rows_are in
        record { reads = x; call = transport (λ i. ForceCall text (room_of_rows (entries i) (finals i) (rows_are i)) (play-room i) a t play) call }

    -- Without a refusal the lines of the play table are printed.
    play-printed : (a : CompileAnswer) {t : Tables} {play : List ℕ} → a.refusal ≡ 0 → HoldsPlay s a.states t play_room play
        → printed a t play ≡ play_text s.streams a.states t.entries t.finals play
    unfolding stored_sheet
    play-printed a {t} {play} z h =
        let facts = accepted_facts x in
        let k : min reading.sheet.streams 8 ≡ reading.sheet.streams = omega (arith, ap (λ y. y.streams) stored, facts.streams.stream_count) in
        play-text (play_printout reading.sheet a.refusal a.states choices t.entries t.finals play) z facts.streams.stream_count facts.letters (short-names facts.streams)
        (replicate (64 - length (name_bytes s.streams)) 0) (replicate (8 - length (name_lengths s.streams)) 0) (ap (λ y. y.names) stored) (ap (λ y. y.lengths) stored)
        (ap (λ n. take n reading.sheet.lows) k ∙ part_held (lows-part s stored)) (ap (λ n. take n reading.sheet.highs) k ∙ part_held (highs-part s stored))
        choices_are (omega (arith, h.play_size, h.play_fits)) (row_held h)

  call-prints : {a : CompileAnswer} {t : Tables} {play : List ℕ} → ForceCall text (room_of_rows entries_room finals_room rows) play_room a t play → PrintsStrategy text (printed a t play)
  call-prints (unread {n} x) =
      subst (PrintsStrategy text) (sym (refusal-printed (refused_answer n) (all_zero (room_of_rows entries_room finals_room rows)) (zeros play_room) (refusal-positive x))) (refused_text x)
  call-prints (not_compiled {a = a} x o h) =
      subst (PrintsStrategy text) (sym (refusal-printed a (all_zero (room_of_rows entries_room finals_room rows)) (zeros play_room) h)) (refused_sheet (in_lent_room x (not_compiled x o h)) h)
  call-prints (prevented x o z p) =
      subst (PrintsStrategy text) (sym (refusal-printed (refused_answer 16) (all_zero (room_of_rows entries_room finals_room rows)) (zeros play_room) (omega arith))) (refused_sheet (in_lent_room x (prevented x o z p)) (omega arith))
  call-prints {a} (forced x o z f h) = subst (PrintsStrategy text) (sym (play-printed x a z h)) (played (in_lent_room x (forced x o z f h)) z)

  pub shown_strategy : {r : Handed} → ShownIn text reading.sheet rows choices entries_room finals_room play_room r → ShowsStrategy text r
  shown_strategy c = record { bytes = _; prints = call-prints c.call; hands = c.hands }
