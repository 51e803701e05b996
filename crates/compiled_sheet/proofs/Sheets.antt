-- What a call without refusal tells of the sheet: the number of its letters, and streams that describe its own and that an accepted sheet has. From the
-- laws of stored streams.
use Prim.Native.Nat.{ℕ, ◌-◌}
use mathlib.Core.Path.{◌≡◌, refl, sym, ap, subst, ◌∙◌}
use mathlib.Core.Bool.{cond}
use mathlib.Core.List.{List}
use lib.IntN.{pos}
use lib.ListN.{length, replicate}
use borrow.Author.Tests.{eq-eqb}
use Rattle.meaning.specs.Expression.{Stream, Sheet}
use Rattle.meaning.specs.Letter.{letter_count}
use Rattle.sheet.specs.Refusal.{sheet, AnswerTo}
use Rattle.sheet.specs.Accepted.{Accepted}
use Rattle.sheet.proofs.Reading.{answer-complete}
use Rattle.sheet.proofs.Accepted.{accepted_facts}
use Rattle.sheet.proofs.Names.{short-names}
use Rattle.nodes.specs.Bounds.{lows_of, highs_of}
use Rattle.header.specs.Streams.{name_bytes, name_lengths, stream_kind_codes}
use Rattle.reader.specs.Stored.{stored_sheet, reading_of}
use Rattle.streams.specs.Description.{description_of, StreamsFit}
use Rattle.streams.proofs.Stored.{describing, description_stored, stored-fit}
use Rattle.streams.specs.Description.{none_described}
use Rattle.compiled_sheet.specs.Told.{sheet_streams, told_with, told, compiled_in, Tells}
use Rattle.compiled_sheet.specs.declared.CompiledSheet.{CompiledSheet}

-- The streams of a stored sheet, with the zeros behind them.
module _ (s : Sheet) where
  abbrev ss : List Stream
  ss = s.streams

  stored_are : sheet_streams (stored_sheet s)
      ≡ describing (replicate (64 - length (name_bytes ss)) 0) (replicate (8 - length (name_lengths ss)) 0) (replicate (8 - length (lows_of ss)) (pos 0)) (replicate (8 - length (highs_of ss)) (pos 0)) (replicate (8 - length (stream_kind_codes ss)) 0) ss (length ss)
  unfolding stored_sheet
  stored_are = refl

  pub stored_description : Accepted s → description_of (sheet_streams (stored_sheet s)) ≡ s.streams
  stored_description a = ap description_of stored_are ∙ description_stored _ _ _ _ _ ss (short-names a.streams)

  pub stored-streams-fit : Accepted s → StreamsFit (sheet_streams (stored_sheet s)) (letter_count s.streams)
  stored-streams-fit a = subst (λ x. StreamsFit x (letter_count ss)) (sym stored_are) (stored-fit _ _ _ _ _ ss a.streams a.letters)

module _ {text : List ℕ} {r : CompiledSheet} (tells : Tells text r) (accepted : r.refusal ≡ 0) {s : Sheet} (read : AnswerTo text (sheet s)) where
  tells-sheet : r ≡ told_with (compiled_in r) (stored_sheet s).letters (sheet_streams (stored_sheet s))
  tells-sheet =
      tells ∙ ap (λ a. told (reading_of a).sheet (compiled_in r)) (answer-complete read)
      ∙ ap (λ b. cond b (told_with (compiled_in r) (stored_sheet s).letters (sheet_streams (stored_sheet s))) (told_with (compiled_in r) 0 none_described)) (eq-eqb r.refusal 0 accepted)

  -- "The kinds travel with every description of a stream": a call without refusal tells the sheet's letters and streams, kinds and all.
  pub letters-told : r.letters ≡ letter_count s.streams
  unfolding stored_sheet
  letters-told = ap (λ x. x.letters) tells-sheet

  pub streams-told : description_of r.streams ≡ s.streams
  streams-told = ap (λ x. description_of x.streams) tells-sheet ∙ stored_description s (accepted_facts read)

  pub told_fit : StreamsFit r.streams r.letters
  told_fit =
      subst (StreamsFit r.streams) (sym letters-told)
      (subst (λ x. StreamsFit x (letter_count s.streams)) (sym (ap (λ x. x.streams) tells-sheet)) (stored-streams-fit s (accepted_facts read)))
