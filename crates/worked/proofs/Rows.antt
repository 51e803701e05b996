-- Each row of the worked sheets holds: a test that computes the answer to the text, the situations and the table of their graph, and one law
-- that turns the test into what the row says.
use Prim.Native.Nat.{ℕ, ◌*◌}
use mathlib.Core.Path.{◌≡◌, refl, sym, subst}
use mathlib.Core.Bool.{Bool, true, false, ◌&&◌}
use mathlib.Core.List.{List, [], ◌∷◌, map, Memᴰ}
use lib.Dec.{T, eqb, eqb→eq, eqb_refl, leb, leb→le}
use lib.ListN.{length}
use Rattle.basics.proofs.Tests.{T_and}
use Rattle.automaton.specs.Table.{no_state}
use Rattle.automaton.specs.Graph.{Graph}
use Rattle.automaton.specs.Construction.{language_answer, IsAnswer}
use Rattle.automaton.specs.Construction as construction
use Rattle.automaton.proofs.Construction.{answer-is}
use Rattle.automaton.proofs.Equality.{stored_transfer}
use Rattle.text.specs.Bytes.{bytes_of, lines, tokens}
use Rattle.text.specs.Token.{is_name, is_natural, is_integer, natural_from, integer_value, reserved_words, is_reserved}
use Rattle.meaning.specs.Expression.{Sheet, value_from, value}
use Rattle.meaning.specs.Interval.{interval, subexpressions}
use Rattle.meaning.specs.Letter.{letter_count, letter_of}
use Rattle.meaning.specs.Window.{reach, back, firsts, B, D}
use Rattle.meaning.specs.Evaluation.{window_value, window_permits, window_marks, allows_letter, situation_after, successor, marks_of, all_done}
use Rattle.meaning.specs.Situation.{all, SituationCount, done, permits, lawful, first_values, until_marks, situation}
use Rattle.sheet.specs.Refusal.{Answer, refused, sheet, AnswerTo}
use Rattle.sheet.specs.Vocabulary.{operator_tokens, operator_of, relation_tokens, relation_of, prefix_tokens, prefix_of, stream_kind_tokens, stream_kind_of, name_place}
use Rattle.sheet.specs.Release.{says_release, said_release}
use Rattle.sheet.specs.Form.{says_kinds}
use Rattle.sheet.specs.Parser.{expression_by, opening_of, part_to, parse_constraint}
use Rattle.sheet.specs.Reading.{refuses1, too_deep_from, refuses2, streams_from, constraints_of, form_of, refuses4, refuses5, refuses6, refuses7, answer_to_sheet, answer_to}
use Rattle.sheet.proofs.Reading.{answer_correct}
use Rattle.sheet.proofs.Accepted.{accepted_facts}
use Rattle.outcome.proofs.CompileTotal.{no_streams}
use Rattle.outcome.proofs.SituationGraph.{place_in, node_successor, situation_graph, start_node, situations_language}
use Rattle.worked.specs.Rows.{WorkedSheet, worked_sheets, Holds, compiles, refuses}
use Rattle.worked.proofs.Equality.{same_list, lists, Decides, decide_situation}
use Rattle.worked.proofs.Count.{explored, situation_of, counts_situations, counted}

-- ---- the test

abbrev found : Sheet → List (List ℕ)
found s = explored s 64 ([] ∷ []) ([] ∷ [])

module _ (s : Sheet) (t : T (counts_situations s (found s))) where
  abbrev graph : Graph
  graph = situation_graph decide_situation s (counted s (found s) t)

  abbrev start : ℕ
  start = start_node decide_situation s (counted s (found s) t)

-- As long as the table.
abbrev size_test : WorkedSheet → Sheet → Bool
size_test r s = eqb (length r.entries) (r.states * letter_count s.streams) && eqb (length r.finals) r.states

abbrev answer_test : WorkedSheet → Sheet → construction.LanguageAnswer → Bool
answer_test r s construction.LanguageAnswer.no_word = eqb r.refusal 9 && (eqb r.states 0 && (same_list eqb r.entries [] && same_list eqb r.finals []))
answer_test r s (construction.LanguageAnswer.table x) =
    eqb r.refusal 0 && (eqb x.states r.states && ((same_list eqb x.entries r.entries && same_list eqb x.finals r.finals) && size_test r s))

abbrev counted_test : (r : WorkedSheet) (s : Sheet) (b : Bool) → counts_situations s (found s) ≡ b → Bool
counted_test r s true e =
    let t = subst T (sym e) tt in
    leb (graph s t).nodes no_state && (eqb (length (map (situation_of s) (found s))) r.situations && answer_test r s (language_answer (graph s t) (start s t)))
counted_test r s false e = false

abbrev sheet_test : WorkedSheet → Answer → Bool
sheet_test r (refused n) = false
sheet_test r (sheet s) = counted_test r s (counts_situations s (found s)) refl

abbrev row_test : WorkedSheet → Bool
row_test r = sheet_test r (answer_to (bytes_of r.text))

-- ---- what the test shows

numbers : Decides eqb
numbers = record { sound = λ x y t. eqb→eq x y t; reflexive = eqb_refl }

module _ (r : WorkedSheet) {s : Sheet} (read : AnswerTo (bytes_of r.text) (sheet s)) where
  module _ (t : T (counts_situations s (found s))) (e : length (map (situation_of s) (found s)) ≡ r.situations) where
    count : SituationCount s r.situations
    count = subst (SituationCount s) e (counted s (found s) t)

    answer-holds : (a : construction.LanguageAnswer) → IsAnswer (graph s t) (start s t) a → T (answer_test r s a) → Holds r
    unfolding situation_graph
    answer-holds construction.LanguageAnswer.no_word n h =
        let p = (T_and (eqb r.refusal 9) (eqb r.states 0 && (same_list eqb r.entries [] && same_list eqb r.finals []))).0 h in
        let q = (T_and (eqb r.states 0) (same_list eqb r.entries [] && same_list eqb r.finals [])).0 p.1 in
        let u = (T_and (same_list eqb r.entries []) (same_list eqb r.finals [])).0 q.1 in
        let none =
        no_streams (record { sides = (accepted_facts read).names_known }) λ w b z. n w b ((situations_language decide_situation s (counted s (found s) t)).from w b z) in
        refuses read count (eqb→eq r.refusal 9 p.0) none (eqb→eq r.states 0 q.0) ((lists numbers).sound r.entries [] u.0) ((lists numbers).sound r.finals [] u.1)
    answer-holds (construction.LanguageAnswer.table x) n h =
        let same = same_list eqb x.entries r.entries && same_list eqb x.finals r.finals in
        let p = (T_and (eqb r.refusal 0) (eqb x.states r.states && (same && size_test r s))).0 h in
        let q = (T_and (eqb x.states r.states) (same && size_test r s)).0 p.1 in
        let v = (T_and same (size_test r s)).0 q.1 in
        let u = (T_and (same_list eqb x.entries r.entries) (same_list eqb x.finals r.finals)).0 v.0 in
        let z = (T_and (eqb (length r.entries) (r.states * letter_count s.streams)) (eqb (length r.finals) r.states)).0 v.1 in
        let stored = stored_transfer (situations_language decide_situation s (counted s (found s) t)) n in
        compiles read count (eqb→eq r.refusal 0 p.0)
        (rw (← eqb→eq x.states r.states q.0, ← (lists numbers).sound x.entries r.entries u.0, ← (lists numbers).sound x.finals r.finals u.1) stored)
        (eqb→eq (length r.entries) (r.states * letter_count s.streams) z.0) (eqb→eq (length r.finals) r.states z.1)

  counted-holds : (b : Bool) (e : counts_situations s (found s) ≡ b) → T (counted_test r s b e) → Holds r
  counted-holds true e h =
      let t = subst T (sym e) tt in
      let p = (T_and (leb (graph s t).nodes no_state) (eqb (length (map (situation_of s) (found s))) r.situations && answer_test r s (language_answer (graph s t) (start s t)))).0 h in
      let q = (T_and (eqb (length (map (situation_of s) (found s))) r.situations) (answer_test r s (language_answer (graph s t) (start s t)))).0 p.1 in
      answer-holds t (eqb→eq (length (map (situation_of s) (found s))) r.situations q.0) (language_answer (graph s t) (start s t)) (answer-is (graph s t) (start s t) (leb→le (graph s t).nodes no_state p.0)) q.1
  counted-holds false e h = absurd h

row-holds : (r : WorkedSheet) → T (row_test r) → Holds r
row-holds r h = go (answer_to (bytes_of r.text)) (answer_correct (bytes_of r.text)) h
  where
    go : (a : Answer) → AnswerTo (bytes_of r.text) a → T (sheet_test r a) → Holds r
    go (refused n) c h = absurd h
    go (sheet s) c h = counted-holds r c (counts_situations s (found s)) refl h

all-rows : (l : List WorkedSheet) → T (all row_test l) → (r : WorkedSheet) → Memᴰ r l → Holds r
all-rows [] t r x'' = elim x'' [ ]
all-rows (x ∷ l) t r (Memᴰ.head e) = subst Holds (sym e) (row-holds x ((T_and (row_test x) (all row_test l)).0 t).0)
all-rows (x ∷ l) t r (Memᴰ.tail m) = all-rows l ((T_and (row_test x) (all row_test l)).0 t).1 r m

computed : T (all row_test worked_sheets)
unfolding lines tokens is_name is_natural is_integer natural_from integer_value reserved_words is_reserved interval subexpressions letter_count letter_of reach back firsts B D operator_tokens operator_of relation_tokens relation_of prefix_tokens prefix_of stream_kind_tokens stream_kind_of says_release said_release says_kinds name_place expression_by opening_of part_to parse_constraint refuses1 too_deep_from refuses2 streams_from constraints_of form_of refuses4 refuses5 refuses6 refuses7 answer_to_sheet answer_to value_from value permits done lawful first_values until_marks situation window_value window_permits window_marks allows_letter situation_after successor marks_of all_done place_in node_successor situation_graph start_node worked_sheets
computed = tt

-- Every row of the worked sheets holds.
pub rows_hold : (r : WorkedSheet) → Memᴰ r worked_sheets → Holds r
rows_hold = all-rows worked_sheets computed
