-- Worked records, played from state 0 against worked sheet P4, `x y|0 0|1 1|x until y`: what is printed of each, by computation along the row of the
-- worked sheets, and so along the table of every compile of that text, whatever room was lent.
use Prim.Native.Nat.{ℕ}
use native.Mathlib.Omega.{arith}
use mathlib.Core.Path.{◌≡◌, refl, sym, ◌∙◌, ap, subst}
use mathlib.Core.List.{List, [], ◌∷◌, Memᴰ}
use lib.IntN.{pos}
use Rattle.basics.specs.Lists.{All}
use Rattle.basics.proofs.Lists.{All-map}
use Rattle.automaton.specs.Stored.{StoredTable}
use Rattle.automaton.proofs.Equality.{unique_used_rows}
use Rattle.automaton.proofs.Paths.{entry-state}
use Rattle.text.specs.Bytes.{bytes_of, lines, tokens}
use Rattle.text.specs.Token.{is_name, is_natural, is_integer, natural_from, integer_value, reserved_words, is_reserved}
use Rattle.meaning.specs.Expression.{set_kind, Stream, Sheet}
use Rattle.meaning.specs.Interval.{interval, subexpressions}
use Rattle.meaning.specs.Letter.{letter_count, letter_number, SolutionWord}
use Rattle.meaning.specs.Window.{reach, back, firsts, B, D}
use Rattle.sheet.specs.Refusal.{Answer, refused, sheet, AnswerTo}
use Rattle.sheet.specs.Vocabulary.{operator_tokens, operator_of, relation_tokens, relation_of, prefix_tokens, prefix_of, stream_kind_tokens, stream_kind_of, name_place}
use Rattle.sheet.specs.Release.{says_release, said_release}
use Rattle.sheet.specs.Form.{says_kinds}
use Rattle.sheet.specs.Parser.{expression_by, opening_of, part_to, parse_constraint}
use Rattle.sheet.specs.Reading.{refuses1, too_deep_from, refuses2, streams_from, constraints_of, form_of, refuses4, refuses5, refuses6, refuses7, answer_to_sheet, answer_to}
use Rattle.sheet.proofs.Reading.{answer_correct, answer_unique}
use Rattle.outcome.specs.Compile.{CompileAnswer, Room, Tables, CompileCall}
use Rattle.outcome.proofs.Answers.{one-sheet}
use Rattle.worked.specs.Rows.{WorkedSheet, worked_sheets, Holds, compiles, refuses}
use Rattle.worked.proofs.Rows.{rows_hold}
use Rattle.letters.specs.Described.{is_letter}
use Rattle.print.specs.Text.{digits_within}
use Rattle.records.specs.Line.{value_line}
use Rattle.record_names.specs.Line.{is_names_line}
use Rattle.replaying.specs.Replay.{replayed, replayed_lines}
use Rattle.theorems.specs.WorkedRecords.{RecordPrints, worked_records}
use Rattle.theorems.proofs.Demands.{table-stored}
use Rattle.theorems.proofs.Plays.{rows-printed}

abbrev streams : List Stream
streams =
    record { name = bytes_of "x"; kind = set_kind; range = record { low = pos 0; high = pos 1 } }
    ∷ record { name = bytes_of "y"; kind = set_kind; range = record { low = pos 0; high = pos 1 } }
    ∷ []

-- "P4 [..] entries 65535 1 0 1, then 1 1 1 1."
abbrev pub p4 : WorkedSheet
p4 = record { text = "x y\n0 0\n1 1\nx until y"; refusal = 0; states = 2; situations = 3; entries = 65535 ∷ 1 ∷ 0 ∷ 1 ∷ 1 ∷ 1 ∷ 1 ∷ 1 ∷ []; finals = 0 ∷ 1 ∷ [] }

computed : All (RecordPrints streams p4.entries) worked_records
unfolding worked_records lines tokens is_integer is_natural integer_value natural_from is_letter letter_number letter_count digits_within value_line is_names_line replayed replayed_lines
computed = (refl, (refl, (refl, (refl, (refl, (refl, (refl, (refl, (refl, (refl, tt))))))))))

-- "instead of 0": the last line of the first record, played from the state where the three lines before it ended.
second_half_computed : replayed_lines streams p4.entries 1 (lines (bytes_of "x y\n0 0")) ≡ bytes_of "line state\n1 1\n"
unfolding lines tokens is_integer is_natural integer_value natural_from is_letter letter_number letter_count digits_within value_line is_names_line replayed replayed_lines
second_half_computed = refl

-- The streams of the sheet that the text is.
abbrev streams_in : Answer → List Stream
streams_in (refused n) = []
streams_in (sheet s) = s.streams

p4-streams : streams_in (answer_to (bytes_of p4.text)) ≡ streams
unfolding lines tokens is_name is_natural is_integer natural_from integer_value reserved_words is_reserved interval subexpressions letter_count reach back firsts B D operator_tokens operator_of relation_tokens relation_of prefix_tokens prefix_of stream_kind_tokens stream_kind_of says_release said_release says_kinds name_place expression_by opening_of part_to parse_constraint refuses1 too_deep_from refuses2 streams_from constraints_of form_of refuses4 refuses5 refuses6 refuses7 answer_to_sheet answer_to
p4-streams = refl

p4-row : Memᴰ p4 worked_sheets
unfolding worked_sheets
p4-row = Memᴰ.tail (Memᴰ.tail (Memᴰ.tail (Memᴰ.head refl)))

-- The row of the worked sheet as a table of the sheet that the text is.
p4-table : {s : Sheet} → AnswerTo (bytes_of p4.text) (sheet s) → StoredTable (SolutionWord s) (letter_count s.streams) 2 p4.entries p4.finals
p4-table {s} read = go (rows_hold p4 p4-row)
  where
    go : Holds p4 → StoredTable (SolutionWord s) (letter_count s.streams) 2 p4.entries p4.finals
    go (compiles r count e stored entries_size finals_size) = subst (λ q. StoredTable (SolutionWord q) (letter_count q.streams) 2 p4.entries p4.finals) (one-sheet r read) stored
    go (refuses r count e unsolved a b c) = absurd (omega (arith, e))

-- Whatever room a compile of the sheet's text was lent, each record prints what its row says.
pub records_print : {room : Room} {a : CompileAnswer} {t : Tables} → CompileCall (bytes_of p4.text) room a t → a.refusal ≡ 0
    → {s : Sheet} → AnswerTo (bytes_of p4.text) (sheet s) → All (RecordPrints s.streams t.entries) worked_records
records_print {t = t} call accepted {s} read =
    let stored = p4-table read in
    let rows = unique_used_rows stored (table-stored call read accepted) in
    let same : (ls : List (List ℕ)) → replayed_lines s.streams p4.entries 0 ls ≡ replayed_lines s.streams t.entries 0 ls = λ ls.
    rows-printed s.streams p4.entries t.entries rows.entries (λ i b hi hb some_state. (entry-state stored.table i b hi hb some_state).0) ls 0 stored.table.some_state in
    let e : s.streams ≡ streams = ap streams_in (answer_unique read (answer_correct (bytes_of p4.text))) ∙ p4-streams in
    All-map {P = RecordPrints s.streams p4.entries} {Q = RecordPrints s.streams t.entries} worked_records (λ r h. sym (same (lines (bytes_of r.text))) ∙ h)
    (subst (λ q. All (RecordPrints q p4.entries) worked_records) (sym e) computed)
