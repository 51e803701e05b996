-- What a compile in the rows lent gives for a text is there for every text, and is one; and a call with the letters of the text's own sheet gives it.
-- From the one answer to a text (sheet) and the one outcome of a compile (outcome).
use Prim.Native.Nat.{ℕ, ◌≤◌, ◌<◌}
use native.Mathlib.Omega.{arith}
use mathlib.Core.Path.{◌≡◌, refl, ◌∙◌, ap, subst}
use mathlib.Core.Bool.{Bool, true, false}
use mathlib.Core.List.{List}
use lib.Dec.{ltb}
use borrow.Author.Tests.{ltb-true, ltb-false}
use Rattle.meaning.specs.Expression.{Sheet}
use Rattle.meaning.specs.Letter.{letter_count}
use Rattle.sheet.specs.Refusal.{Answer, refused, sheet, AnswerTo}
use Rattle.sheet.specs.Reading.{answer_to}
use Rattle.sheet.proofs.Reading.{answer_correct, answer_unique}
use Rattle.reader.specs.declared.Reading.{Reading}
use Rattle.reader.specs.Stored.{stored_sheet, reading_of}
use Rattle.situations.proofs.Stored.{sheet-letters}
use Rattle.outcome.specs.Compile.{CompileAnswer, Tables, HoldsSheetTable, CompileCall, unread as text_unread, read}
use Rattle.outcome.proofs.Answers.{one_number, one-sheet, refused≢sheet}
use Rattle.outcome.proofs.AcceptedCompile.{refusal-positive, accepted_compile}
use Rattle.outcome.proofs.CompileUnique.{compile_unique}
use Rattle.outcome.proofs.CompileTotal.{compile_total}
use Rattle.lend.specs.Lend.{lent_room, CompiledLent, RefusedLent, unread, not_compiled, HasOutcome, is_refused, is_compiled, LentCall}

-- ---- one outcome

module _ {text : List ℕ} where
  pub compiled_unique : {s q : Sheet} {a b : CompileAnswer} {t u : Tables} → CompiledLent text s a t → CompiledLent text q b u → (s ≡ q) × ((a ≡ b) × (t ≡ u))
  compiled_unique {q = q} {a} {t = t} c d =
      let e = one-sheet c.reads d.reads in
      (e, compile_unique text (lent_room (letter_count q.streams)) (subst (λ z. CompileCall text (lent_room (letter_count z.streams)) a t) e c.call) d.call)

  -- The tables of a compile without a refusal hold the sheet's table.
  pub compiled-held : {s : Sheet} {a : CompileAnswer} {t : Tables} → CompiledLent text s a t → a.refusal ≡ 0 → HoldsSheetTable s (lent_room (letter_count s.streams)) a.states t
  compiled-held {s} {a} {t} c z =
      let k = accepted_compile c.call z in subst (λ q. HoldsSheetTable q (lent_room (letter_count s.streams)) a.states t) (one-sheet k.read c.reads) k.held

  pub refused-positive : {n : ℕ} → RefusedLent text n → 0 < n
  refused-positive (unread r) = refusal-positive r
  refused-positive (not_compiled c h) = h

  pub refused_unique : {m n : ℕ} → RefusedLent text m → RefusedLent text n → m ≡ n
  refused_unique (unread r) (unread q) = one_number r q
  refused_unique (unread r) (not_compiled d k) = absurd (refused≢sheet r d.reads)
  refused_unique (not_compiled c h) (unread q) = absurd (refused≢sheet q c.reads)
  refused_unique (not_compiled c h) (not_compiled d k) = ap (λ a. a.refusal) (compiled_unique c d).1.0

  -- A text is not both refused and compiled.
  pub refused-not-compiled : {n : ℕ} {s : Sheet} {a : CompileAnswer} {t : Tables} → RefusedLent text n → CompiledLent text s a t → a.refusal ≡ 0 → ⊥
  refused-not-compiled (unread r) d z = refused≢sheet r d.reads
  refused-not-compiled (not_compiled c h) d z = omega (arith, ap (λ a. a.refusal) (compiled_unique c d).1.0)

-- ---- and always one

pub lent_total : (text : List ℕ) → HasOutcome text
lent_total text = go (answer_to text) (answer_correct text)
  where
    by : {s : Sheet} {a : CompileAnswer} {t : Tables} → CompiledLent text s a t → (b : Bool) → ltb 0 a.refusal ≡ b → HasOutcome text
    by {a = a} c true e = is_refused (not_compiled c (ltb-true 0 a.refusal e))
    by {a = a} c false e = is_compiled c (omega (arith, ltb-false 0 a.refusal e))

    go : (x : Answer) → AnswerTo text x → HasOutcome text
    go (refused n) r = is_refused (unread r)
    go (sheet s) r = let o = compile_total text (lent_room (letter_count s.streams)) in by (record { reads = r; call = o.outcome }) (ltb 0 o.answer.refusal) refl

-- ---- a call with the letters of the sheet that was read

module _ (text : List ℕ) {reading : Reading} (read_as : reading ≡ reading_of (answer_to text)) where
  -- The stored sheet is that of the sheet which the text is.
  pub stored_is : {s : Sheet} → AnswerTo text (sheet s) → reading.sheet ≡ stored_sheet s
  stored_is {s} r = ap (λ x. x.sheet) (read_as ∙ ap reading_of (answer_unique (answer_correct text) r))

  pub in_lent_room : {s : Sheet} {a : CompileAnswer} {t : Tables} → AnswerTo text (sheet s) → CompileCall text (lent_room reading.sheet.letters) a t → CompiledLent text s a t
  in_lent_room {s} {a} {t} r o = record { reads = r; call = subst (λ k. CompileCall text (lent_room k) a t) (sheet-letters s (stored_is r)) o }

  pub call-refused : {a : CompileAnswer} {t : Tables} → CompileCall text (lent_room reading.sheet.letters) a t → 0 < a.refusal → RefusedLent text a.refusal
  call-refused (text_unread r) h = unread r
  call-refused (read r o) h = not_compiled (in_lent_room r (read r o)) h

  pub call-compiled : {a : CompileAnswer} {t : Tables} → CompileCall text (lent_room reading.sheet.letters) a t → a.refusal ≡ 0 → (s : Sheet) × CompiledLent text s a t
  call-compiled o z = let c = accepted_compile o z in (c.source, in_lent_room c.read o)

-- There are no more states than rows.
pub few_states : {text : List ℕ} {letters : ℕ} {a : CompileAnswer} {entries finals : List ℕ} → LentCall text letters a entries finals → a.refusal ≡ 0 → a.states ≤ 256
few_states c z = let k = (accepted_compile c.call z).held in omega (arith, k.table.finals_fit, k.finals_size)
