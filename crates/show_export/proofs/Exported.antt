-- The header of the used rows of a compile, with the streams that are told of its sheet, is that of the sheet, and it is short. From the stored form of a sheet
-- (reader), what is settled of an accepted sheet (sheet) and the lengths of the header's parts (export_text).
use Prim.Native.Nat.{ℕ, zero, suc, ◌-◌, ◌*◌, ◌≤◌, ◌<◌, min}
use native.Mathlib.Omega.{arith}
use mathlib.Core.Path.{◌≡◌, refl, sym, ap, subst, ◌∙◌}
use mathlib.Core.List.{List, [], ◌∷◌}
use lib.ListN.{length, get_or, take, replicate, length-map, length-take}
use lib.Seq.{take_at}
use Rattle.meaning.specs.Expression.{StreamKind, read_kind, set_kind, Stream, Sheet}
use Rattle.meaning.specs.Letter.{letter_count}
use Rattle.sheet.specs.Form.{names_of}
use Rattle.sheet.specs.Accepted.{Accepted}
use Rattle.sheet.proofs.Accepted.{accepted_facts}
use Rattle.sheet.proofs.Names.{short-names}
use Rattle.nodes.specs.Code.{stream_kind_code}
use Rattle.header.specs.Streams.{name_bytes, name_lengths, stream_kind_codes}
use Rattle.reader.specs.Stored.{stored_sheet}
use Rattle.outcome.specs.Compile.{CompileAnswer, Tables}
use Rattle.compiled_sheet.specs.Told.{sheet_streams}
use Rattle.theorems.specs.UsedRows.{used_entries, used_finals}
use Rattle.lend.specs.Lend.{CompiledLent}
use Rattle.print.specs.Lines.{AllFit, stored_names}
use Rattle.print.proofs.Names.{stored-names}
use Rattle.stored_ranges.proofs.Ranges.{lows-fit, highs-fit}
use Rattle.stored_ranges.proofs.Passed.{lows-passed, highs-passed}
use Rattle.checksum.specs.Checksum.{checksum_of}
use Rattle.opened_tables.specs.Used.{compiled_given}
use Rattle.opening.proofs.Sizes.{few_rows, used_fits}
use Rattle.opened_tables.proofs.Used.{finals-long}
use Rattle.export_text.specs.Export.{export_text}
use Rattle.export_text.specs.Described.{described_export}
use Rattle.export_text.proofs.Lengths.{export_short}
use Rattle.show_export.specs.Prints.{exported_table}
use Rattle.show_export.specs.Shows.{given_text}

-- A kind's number is 0 or 1.
kind-small : (ss : List Stream) (i : ℕ) → get_or (stream_kind_codes ss) i 0 < 256
kind-small [] i = omega arith
kind-small (x ∷ ss) zero = by x.kind
  where
    by : (k : StreamKind) → stream_kind_code k < 256
    by read_kind = omega arith
    by set_kind = omega arith
kind-small (x ∷ ss) (suc i) = kind-small ss i

module _ (s : Sheet) (accepted : Accepted s) where
  counted : min (length s.streams) 8 ≡ length s.streams
  counted = omega (arith, accepted.streams.stream_count)

  names-stored : stored_names (sheet_streams (stored_sheet s)).names (sheet_streams (stored_sheet s)).lengths (min (sheet_streams (stored_sheet s)).count 8) ≡ names_of s.streams
  unfolding stored_sheet
  names-stored =
      ap (stored_names (stored_sheet s).names (stored_sheet s).lengths) counted
      ∙ stored-names (replicate (64 - length (name_bytes s.streams)) 0) (replicate (8 - length (name_lengths s.streams)) 0) s.streams (short-names accepted.streams)

  kinds-stored : take (min (sheet_streams (stored_sheet s)).count 8) (sheet_streams (stored_sheet s)).kinds ≡ stream_kind_codes s.streams
  unfolding stored_sheet
  kinds-stored =
      ap (λ n. take n (sheet_streams (stored_sheet s)).kinds) counted
      ∙ take_at (stream_kind_codes s.streams) (replicate (8 - length (stream_kind_codes s.streams)) 0) (length s.streams) (length-map s.streams (λ x. stream_kind_code x.kind))

module _ {text : List ℕ} {s : Sheet} {a : CompileAnswer} {t : Tables} (c : CompiledLent text s a t) (z : a.refusal ≡ 0) where
  accepted-sheet : Accepted s
  accepted-sheet = accepted_facts c.reads

  pub given-exported : given_text (checksum_of text) (compiled_given s a t) ≡ export_text (exported_table text s a t)
  given-exported =
      let names = names-stored s accepted-sheet in
      let lows = lows-passed s accepted-sheet refl in
      let highs = highs-passed s accepted-sheet refl in
      let kinds = kinds-stored s accepted-sheet in
      let states = finals-long c z in
      λ i. export_text
      (record {
        names = names i;
        lows = lows i;
        highs = highs i;
        kinds = kinds i;
        letters = letter_count s.streams;
        states = states i;
        checksum = checksum_of text;
        entries = used_entries s a t;
        finals = used_finals a t;
      })

  pub given-short : {checksum : ℕ} → checksum < 4294967296 → ((i : ℕ) → get_or (used_finals a t) i 0 < 256) → length (given_text checksum (compiled_given s a t)) ≤ 344064
  given-short {checksum} small bytes =
      export_short (sheet_streams (stored_sheet s)) (letter_count s.streams) checksum (used_entries s a t) (used_finals a t)
      (subst AllFit (sym (lows-passed s accepted-sheet refl)) (lows-fit accepted-sheet.streams))
      (subst AllFit (sym (highs-passed s accepted-sheet refl)) (highs-fit accepted-sheet.streams))
      (subst (λ l. (i : ℕ) → get_or l i 0 < 256) (sym (kinds-stored s accepted-sheet)) (kind-small s.streams))
      bytes
      (omega (arith, accepted-sheet.letters))
      small
      (omega (arith, length-take (a.states * letter_count s.streams) t.entries, used_fits c z))
      (omega (arith, finals-long c z, few_rows c z))
