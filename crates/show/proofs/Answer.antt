-- A text prints one text, and always one; what `show` gives back is of that text. From the one outcome of a compile in the rows lent (lend) and the
-- text of a printout (pages).
use Prim.Native.Nat.{ℕ, ◌-◌, ◌*◌, ◌≤◌, min}
use native.Mathlib.Omega.{arith}
use native.Mathlib.Nat.{le_trans}
use mathlib.Core.Path.{◌≡◌, refl, sym, ◌∙◌, ap, subst}
use mathlib.Core.List.{List}
use mathlib.Core.Bool.{Bool, true, false}
use lib.Dec.{ltb}
use lib.ListN.{length, take, replicate, length-take}
use Rattle.meaning.specs.Expression.{Sheet}
use Rattle.meaning.specs.Letter.{letter_count}
use Rattle.sheet.specs.Refusal.{sheet, AnswerTo}
use borrow.Author.Tests.{ltb-true, ltb-false}
use Rattle.sheet.specs.Reading.{answer_to}
use Rattle.sheet.proofs.Accepted.{accepted_facts}
use Rattle.sheet.proofs.Names.{short-names}
use Rattle.reader.specs.declared.Reading.{Reading}
use Rattle.header.specs.Streams.{name_bytes, name_lengths}
use Rattle.reader.specs.Stored.{stored_sheet, reading_of}
use Rattle.outcome.specs.Compile.{CompileAnswer}
use Rattle.situations.proofs.Stored.{part_held, lows-part, highs-part}
use Rattle.lend.specs.Lend.{rows_lent, HasOutcome, is_refused, is_compiled, LentCall}
use Rattle.lend.proofs.Outcome.{compiled_unique, compiled-held, refused_unique, refused-not-compiled, lent_total, stored_is, call-refused, call-compiled}
use Rattle.pages.specs.Output.{Printout, table_line, output_text}
use Rattle.pages.proofs.Refused.{refused-text}
use Rattle.pages.proofs.Output.{table-text}
use Rattle.print.specs.Text.{refusal_line}
use Rattle.table_text.specs.Table.{printed}
use Rattle.table_text.proofs.Table.{printed-part}
use Rattle.show.specs.declared.Printed.{Printed}
use Rattle.show.specs.Answer.{Prints, refused, compiled, HasTableOutput, Shown, printout_of, CompiledWith}

-- ---- a text prints one text

module _ {text : List ℕ} where
  pub prints_unique : {m n : ℕ} {b c : List ℕ} → Prints text m b → Prints text n c → (m ≡ n) × (b ≡ c)
  prints_unique (refused r) (refused r') = let e = refused_unique r r' in (e, ap refusal_line e)
  prints_unique (refused r) (compiled c z) = absurd (refused-not-compiled r c z)
  prints_unique (compiled c z) (refused r) = absurd (refused-not-compiled r c z)
  prints_unique (compiled c z) (compiled c' z') =
      let e = compiled_unique c c' in (refl, λ i. printed (e.0 i).streams (e.1.0 i).states (e.1.1 i).entries (e.1.1 i).finals)

-- ---- and always one

pub prints-total : (text : List ℕ) → HasTableOutput text
prints-total text = go (lent_total text)
  where
    go : HasOutcome text → HasTableOutput text
    go (is_refused r) = record { number = _; bytes = _; prints = refused r }
    go (is_compiled c z) = record { number = _; bytes = _; prints = compiled c z }

-- ---- what `show` gives back

module _ (text : List ℕ) {reading : Reading} (read_as : reading ≡ reading_of (answer_to text)) where
  abbrev shown_as : CompileAnswer → (entries finals : List ℕ) → Printout
  shown_as a entries finals = printout_of reading.sheet a.refusal a.states entries finals

  -- The text of a table is that of the sheet's streams.
  table-bytes : {s : Sheet} (a : CompileAnswer) (entries finals : List ℕ) → AnswerTo text (sheet s) → a.refusal ≡ 0 → a.states * letter_count s.streams ≤ length entries
      → output_text (shown_as a entries finals) ≡ printed s.streams a.states entries finals
  unfolding stored_sheet
  table-bytes {s} a entries finals x z fits =
      let f = accepted_facts x in
      let same = stored_is text read_as x in
      let few = f.streams.stream_count in
      let k : min reading.sheet.streams 8 ≡ reading.sheet.streams = omega (arith, ap (λ y. y.streams) same) in
      table-text (shown_as a entries finals) z few f.letters (short-names f.streams) (replicate (64 - length (name_bytes s.streams)) 0) (replicate (8 - length (name_lengths s.streams)) 0)
      (ap (λ y. y.names) same) (ap (λ y. y.lengths) same) (ap (λ n. take n reading.sheet.lows) k ∙ part_held (lows-part s same)) (ap (λ n. take n reading.sheet.highs) k ∙ part_held (highs-part s same)) fits

  -- The bytes of the pages of a call in the rows lent are what the text prints.
  pub call-prints : {a : CompileAnswer} {entries finals : List ℕ} → LentCall text reading.sheet.letters a entries finals → Prints text a.refusal (output_text (shown_as a entries finals))
  call-prints {a} {entries} {finals} o = go (ltb 0 a.refusal) refl
    where
      go : (b : Bool) → ltb 0 a.refusal ≡ b → Prints text a.refusal (output_text (shown_as a entries finals))
      go true e =
          let h = ltb-true 0 a.refusal e in
          subst (Prints text a.refusal) (sym (refused-text a.refusal (table_line (shown_as a entries finals)) (λ z. omega arith) _)) (refused (call-refused text read_as o.call h))
      go false e =
          let z : a.refusal ≡ 0 = omega (arith, ltb-false 0 a.refusal e) in
          let c = call-compiled text read_as o.call z in
          let held = (compiled-held c.1 z).table in
          let streams = c.0.streams in
          let rows = rows_lent reading.sheet.letters in
          let size = length-take (rows * reading.sheet.letters) entries in
          let fits : a.states * letter_count streams ≤ length entries = le_trans held.entries_fit (omega arith) in
          let inside : a.states * letter_count streams ≤ rows * reading.sheet.letters = le_trans held.entries_fit (omega arith) in
          let inside' : a.states ≤ rows = omega (arith, held.finals_fit, length-take rows finals) in
          let text_of = table-bytes a entries finals c.1.reads z fits ∙ printed-part streams entries finals inside inside' in
          subst (λ n. Prints text n (output_text (shown_as a entries finals))) (sym z) (subst (Prints text 0) (sym text_of) (compiled c.1 z))

  pub shown_of : {r : Printed} → CompiledWith text reading.sheet r → Shown text r
  shown_of {r} c =
      let bytes = output_text (shown_as c.answer c.entries c.finals) in
      record {
        bytes = bytes;
        prints = subst (λ n. Prints text n bytes) (sym c.prints.number) (call-prints c.outcome);
        hands = c.prints.hands;
      }
