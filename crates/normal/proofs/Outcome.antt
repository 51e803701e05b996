-- What is read from the tables for the reader's answer is the outcome of a call for the normal form.
use Prim.Native.Nat.{ℕ, ◌-◌, ◌≤◌, ◌<◌}
use native.Mathlib.Omega.{arith}
use mathlib.Core.Path.{◌≡◌, refl, sym, ◌∙◌, ap, subst}
use mathlib.Core.Bool.{Bool, true, false}
use mathlib.Core.List.{List, ◌++◌}
use lib.Dec.{ltb}
use lib.ListN.{length, replicate}
use borrow.Author.Tests.{ltb-true, ltb-false}
use Rattle.basics.proofs.Lists.{All-map}
use Rattle.meaning.specs.Expression.{Sheet}
use Rattle.meaning.proofs.NormalForm.Names.{streams-length}
use Rattle.sheet.specs.Refusal.{Answer, refused, sheet, AnswerTo}
use Rattle.sheet.specs.Reading.{answer_to}
use Rattle.sheet.proofs.Reading.{answer_correct}
use Rattle.sheet.proofs.Accepted.{accepted_facts}
use Rattle.outcome.specs.NormalForm.{NormalOutcome, unread, too_short, given, refused_normal_answer, given_list, NormalAnswer}
use Rattle.spans.specs.Postfix.{node_expressions}
use Rattle.spans.specs.Stored.{span_table}
use Rattle.normal.specs.Rows.{rewriting_lines, streams_after}
use Rattle.normal_entries.specs.Entries.{blank, stored_entry, listed, refused_made, with_spans}
use Rattle.normal.specs.Table.{numbers_with, ends_with, made_tables}
use Rattle.normal.specs.Encoded.{source_interval, normal_rows, normal_entries, normal_answer_of}
use Rattle.normal.specs.Outcome.{sheet_range, entries_for}
use Rattle.normal_entries.specs.declared.Entry.{Entry}
use Rattle.normal_entries.specs.declared.Made.{Made}
use Rattle.normal.proofs.Decoding.{rows-counted, streams-counted}
use Rattle.normal.proofs.TextSpans.{spans-few}
use Rattle.normal.proofs.Places.{stand_self}
use Rattle.normal.proofs.SheetRows.{rows_few}
use Rattle.normal.proofs.Sources.{sheet-sound}
use Rattle.normal.proofs.Listing.{made-listing, blanks}

abbrev Outcome : List ℕ → ℕ → NormalAnswer → List Entry → Type 0
Outcome text room = NormalOutcome blank (normal_entries text) text room

-- The list that is read from tables.
abbrev read_from : Made → ℕ → List Entry
read_from m room = listed (stored_entry m.numbers m.ends) room

module _ (text : List ℕ) (room : ℕ) where
  short : {s : Sheet} → AnswerTo text (sheet s) → room < length (normal_rows s) → Outcome text room (refused_normal_answer 10) (read_from (refused_made 10) room)
  short {s} r h = subst (Outcome text room (refused_normal_answer 10)) (sym (blanks (replicate 30944 0) (replicate 8256 _) room refl refl)) (too_short r (omega (arith, rows-counted s)))

  whole : {s : Sheet} → AnswerTo text (sheet s) → length (normal_rows s) ≤ room
      → Outcome text room (record { refusal = 0; entries = length (normal_rows s); added = streams_after (length s.streams) (rewriting_lines 0 s.constraints) - length s.streams })
      (listed (stored_entry (with_spans (numbers_with (normal_rows s)) (span_table text)) (ends_with (sheet_range s) (normal_rows s))) room)
  whole {s} r h =
      let ok = accepted_facts r in
      let count = rows-counted s in
      let streams = streams-counted s 0 (length s.streams) s.constraints (stand_self (node_expressions s.constraints)) ∙ sym (streams-length s) in
      let list =
      made-listing text (normal_rows s) (sheet_range s) (source_interval s) (rows_few ok) (All-map (normal_rows s) (λ x k. k.ends) (sheet-sound s ok)) (spans-few r) room h
      ∙ ap (λ k. normal_entries text s ++ replicate (room - k) blank) count in
      subst (λ l. Outcome text room (record { refusal = 0; entries = length (normal_rows s); added = streams_after (length s.streams) (rewriting_lines 0 s.constraints) - length s.streams }) l) (sym list)
      (subst (λ a. Outcome text room a (given_list blank (normal_entries text) room s)) (λ i. record { refusal = 0; entries = sym count i; added = sym streams i - length s.streams }) (given r (omega arith)))

  by_answer : (a : Answer) → AnswerTo text a → Outcome text room (normal_answer_of (entries_for text a room).answer) (read_from (entries_for text a room) room)
  unfolding made_tables
  by_answer (refused n) r = subst (Outcome text room (refused_normal_answer n)) (sym (blanks (replicate 30944 0) (replicate 8256 _) room refl refl)) (unread r)
  by_answer (sheet s) r = by (ltb room (length (normal_rows s))) refl
    where
      by : (b : Bool) → ltb room (length (normal_rows s)) ≡ b → Outcome text room (normal_answer_of (entries_for text (sheet s) room).answer) (read_from (entries_for text (sheet s) room) room)
      by true e = simp e (short r (ltb-true room (length (normal_rows s)) e))
      by false e = simp e (whole r (ltb-false room (length (normal_rows s)) e))

  pub normal_outcome : {m : Made} {zs : List Entry} → m ≡ entries_for text (answer_to text) room → zs ≡ read_from m room → Outcome text room (normal_answer_of m.answer) zs
  normal_outcome {m} {zs} e q =
      subst (λ (x : Made). Outcome text room (normal_answer_of x.answer) zs) (sym e)
      (subst (Outcome text room (normal_answer_of (entries_for text (answer_to text) room).answer)) (sym (q ∙ ap (λ x. read_from x room) e)) (by_answer (answer_to text) (answer_correct text)))
