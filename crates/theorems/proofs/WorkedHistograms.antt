-- Worked records for `histogram`: what is printed of each row's texts is what the row says, by computation from the texts on. There is one printout for each
-- sheet and record (histogram_text, Prints), so it is no other.
use Prim.Native.Nat.{ℕ}
use mathlib.Core.Path.{◌≡◌, refl, subst}
use mathlib.Core.List.{List}
use Rattle.basics.specs.Lists.{All}
use Rattle.basics.proofs.Lists.{All-map}
use Rattle.text.specs.Bytes.{bytes_of, lines, tokens}
use Rattle.text.specs.Token.{is_name, is_natural, is_integer, natural_from, integer_value, reserved_words, is_reserved}
use Rattle.meaning.specs.Interval.{interval, subexpressions}
use Rattle.meaning.specs.Letter.{letter_count, letter_number}
use Rattle.meaning.specs.Window.{reach, back, firsts, B, D}
use Rattle.sheet.specs.Vocabulary.{operator_tokens, operator_of, relation_tokens, relation_of, prefix_tokens, prefix_of, stream_kind_tokens, stream_kind_of, name_place}
use Rattle.sheet.specs.Release.{says_release, said_release}
use Rattle.sheet.specs.Form.{says_kinds}
use Rattle.sheet.specs.Parser.{expression_by, opening_of, part_to, parse_constraint}
use Rattle.sheet.specs.Reading.{refuses1, too_deep_from, refuses2, streams_from, constraints_of, form_of, refuses4, refuses5, refuses6, refuses7, answer_to_sheet, answer_to}
use Rattle.letters.specs.Described.{is_letter}
use Rattle.print.specs.Text.{digits_within}
use Rattle.print.specs.Lines.{lines_from}
use Rattle.records.specs.Line.{value_line}
use Rattle.record_names.specs.Line.{is_names_line}
use Rattle.held_lines.specs.Counts.{how_many}
use Rattle.tally.specs.Faults.{values_fault, record_fault}
use Rattle.histogram_text.specs.Histogram.{histogram_text, counted_text}
use Rattle.histogram_text.specs.Prints.{PrintsHistogram, text_for}
use Rattle.histogram_text.proofs.Prints.{prints-total}
use Rattle.theorems.specs.WorkedHistograms.{WorkedHistogram, worked_histograms, PrintsRow}

abbrev Computes : WorkedHistogram → Type 0
Computes r = text_for (bytes_of r.record_text) (answer_to (bytes_of r.sheet_text)) ≡ bytes_of r.printed

row-prints : (r : WorkedHistogram) → Computes r → PrintsRow r
row-prints r e = subst (PrintsHistogram (bytes_of r.sheet_text) (bytes_of r.record_text)) e (prints-total (bytes_of r.sheet_text) (bytes_of r.record_text))

computed : All Computes worked_histograms
unfolding worked_histograms lines tokens is_name is_natural is_integer natural_from integer_value reserved_words is_reserved interval subexpressions letter_count letter_number reach back firsts B D operator_tokens operator_of relation_tokens relation_of prefix_tokens prefix_of stream_kind_tokens stream_kind_of says_release said_release says_kinds name_place expression_by opening_of part_to parse_constraint refuses1 too_deep_from refuses2 streams_from constraints_of form_of refuses4 refuses5 refuses6 refuses7 answer_to_sheet answer_to is_letter digits_within lines_from value_line is_names_line how_many values_fault record_fault histogram_text counted_text
computed = (refl, (refl, (refl, (refl, (refl, (refl, (refl, (refl, tt))))))))

pub histograms_print : All PrintsRow worked_histograms
histograms_print = All-map {P = Computes} {Q = PrintsRow} worked_histograms row-prints computed
