-- From the reader's answer to a text to the outcome of its compile: a refusal of the text is the outcome where every table is cleared, and what is
-- made of a sheet that is read is the outcome for its text.
use Prim.Native.Nat.{ℕ}
use native.Mathlib.Omega.{arith}
use mathlib.Core.Path.{◌≡◌, sym, ◌∙◌, ap, subst}
use mathlib.Core.List.{List}
use borrow.Author.Tests.{ne_eqb}
use Rattle.meaning.specs.Expression.{Sheet}
use Rattle.sheet.specs.Accepted.{Accepted}
use Rattle.sheet.specs.Refusal.{Answer, refused, sheet, AnswerTo}
use Rattle.sheet.specs.Reading.{answer_to}
use Rattle.sheet.proofs.Reading.{answer_correct}
use Rattle.sheet.proofs.Accepted.{accepted_facts}
use Rattle.reader.specs.declared.Reading.{Reading}
use Rattle.reader.specs.Stored.{stored_sheet, reading_of}
use Rattle.outcome.specs.Compile.{Room, Tables, all_zero, SheetOutcome, CompileOutcome, unread, read}
use Rattle.outcome.proofs.AcceptedCompile.{refusal-positive}
use Rattle.compiled.specs.declared.Compiled.{Compiled}
use Rattle.compiled.specs.Answer.{answer_of, refused_with, answered}

module _ {text : List ℕ} {room : Room} {t : Tables} {made : Compiled} where
  outcome_for : (a : Answer) → AnswerTo text a → (r : Reading) → r ≡ reading_of a → ((s : Sheet) → Accepted s → r.sheet ≡ stored_sheet s → SheetOutcome s room (answer_of made) t)
      → (r.sheet.letters ≡ 0 → t ≡ all_zero room) → CompileOutcome text room (answer_of (answered r.refusal made)) t
  outcome_for (refused n) x r e compiled cleared =
      let number : answered r.refusal made ≡ refused_with n = ap (λ y. answered y.refusal made) e ∙ simp (ne_eqb n 0 (λ z. omega (arith, refusal-positive x))) in
      subst (λ y. CompileOutcome text room (answer_of y) t) (sym number) (subst (CompileOutcome text room (answer_of (refused_with n))) (sym (cleared (ap (λ y. y.sheet.letters) e))) (unread x))
  outcome_for (sheet s) x r e compiled cleared =
      subst (λ y. CompileOutcome text room (answer_of (answered y.refusal made)) t) (sym e) (read x (compiled s (accepted_facts x) (ap (λ y. y.sheet) e)))

  -- The outcome for a text from what it was read as.
  pub text-outcome : {reading : Reading} {answer : Compiled} → reading ≡ reading_of (answer_to text) → answer ≡ answered reading.refusal made
      → ((s : Sheet) → Accepted s → reading.sheet ≡ stored_sheet s → SheetOutcome s room (answer_of made) t) → (reading.sheet.letters ≡ 0 → t ≡ all_zero room) → CompileOutcome text room (answer_of answer) t
  text-outcome {reading} {answer} e same compiled cleared =
      subst (λ y. CompileOutcome text room (answer_of y) t) (sym same) (outcome_for (answer_to text) (answer_correct text) reading e compiled cleared)
