-- What `histogram` prints is there for every sheet and every record, and is one. From the one answer to a text (sheet).
use Prim.Native.Nat.{ℕ}
use mathlib.Core.Path.{◌≡◌, sym, ◌∙◌, ap}
use mathlib.Core.List.{List}
use Rattle.sheet.specs.Refusal.{Answer, refused, sheet, AnswerTo}
use Rattle.sheet.specs.Reading.{answer_to}
use Rattle.sheet.proofs.Reading.{answer_correct, answer_unique}
use Rattle.histogram_text.specs.Prints.{PrintsHistogram, refused_sheet, counted, text_for}

module _ {sheet_text : List ℕ} (record_text : List ℕ) where
  pub answer-prints : (a : Answer) → AnswerTo sheet_text a → PrintsHistogram sheet_text record_text (text_for record_text a)
  answer-prints (refused n) r = refused_sheet r
  answer-prints (sheet s) r = counted r

  -- One text for each answer, and so for each sheet;
  pub printed_for : {a : Answer} {printed : List ℕ} → AnswerTo sheet_text a → PrintsHistogram sheet_text record_text printed → printed ≡ text_for record_text a
  printed_for r (refused_sheet q) = ap (text_for record_text) (answer_unique q r)
  printed_for r (counted q) = ap (text_for record_text) (answer_unique q r)

-- and there is one.
pub prints-total : (sheet_text record_text : List ℕ) → PrintsHistogram sheet_text record_text (text_for record_text (answer_to sheet_text))
prints-total sheet_text record_text = answer-prints record_text (answer_to sheet_text) (answer_correct sheet_text)

pub prints_unique : {sheet_text record_text printed printed' : List ℕ} → PrintsHistogram sheet_text record_text printed → PrintsHistogram sheet_text record_text printed' → printed ≡ printed'
prints_unique {sheet_text} {record_text} p q = printed_for record_text (answer_correct sheet_text) p ∙ sym (printed_for record_text (answer_correct sheet_text) q)
