-- A worked sheet for which fewer states would do if a final state had to be met only once (document 02, S-14), so that `Smallest` is seen not to be empty:
-- `x|0|1|x -> ( next x eq 0 )|1 until x` has three states, and a machine of two takes its solutions that way. From the row of the worked sheets.
use Prim.Native.Nat.{ℕ, zero, suc, ◌+◌, ◌≤◌, ◌<◌}
use native.Mathlib.Omega.{arith}
use mathlib.Core.Path.{◌≡◌, refl, sym, ◌∙◌, ap, subst}
use mathlib.Core.Logic.{◌↔◌, ◌⊎◌, inl, inr}
use mathlib.Core.List.{List, [], ◌∷◌, Memᴰ}
use lib.ListN.{length, get_or}
use Rattle.automaton.specs.Words.{Word, tail, InRange}
use Rattle.automaton.specs.Solutions.{Settles}
use Rattle.automaton.specs.Table.{run, Follows, AcceptedWord}
use Rattle.automaton.specs.Stored.{StoredTable, entry_at, final_at}
use Rattle.automaton.proofs.Acceptance.{solution↔accepted}
use Rattle.text.specs.Bytes.{bytes_of, lines, tokens}
use Rattle.text.specs.Token.{is_name, is_natural, is_integer, natural_from, integer_value, reserved_words, is_reserved}
use Rattle.meaning.specs.Value.{Streams}
use Rattle.meaning.specs.Expression.{Sheet, Solution}
use Rattle.meaning.specs.Interval.{interval, subexpressions}
use Rattle.meaning.specs.Letter.{letter_count, SolutionWord}
use Rattle.meaning.specs.Window.{reach, back, firsts, B, D}
use Rattle.meaning.proofs.Facts.{get_or-member}
use Rattle.sheet.specs.Refusal.{Answer, refused, sheet, AnswerTo}
use Rattle.sheet.specs.Vocabulary.{operator_tokens, operator_of, relation_tokens, relation_of, prefix_tokens, prefix_of, stream_kind_tokens, stream_kind_of, name_place}
use Rattle.sheet.specs.Release.{says_release, said_release}
use Rattle.sheet.specs.Form.{says_kinds}
use Rattle.sheet.specs.Parser.{expression_by, opening_of, part_to, parse_constraint}
use Rattle.sheet.specs.Reading.{refuses1, too_deep_from, refuses2, streams_from, constraints_of, form_of, refuses4, refuses5, refuses6, refuses7, answer_to_sheet, answer_to}
use Rattle.sheet.proofs.Reading.{answer_correct, answer_unique}
use Rattle.outcome.proofs.Answers.{one-sheet}
use Rattle.outcome.proofs.SheetWords.{solutions_settle}
use Rattle.worked.specs.Rows.{WorkedSheet, worked_sheets, Holds, compiles, refuses}
use Rattle.worked.proofs.Rows.{rows_hold}
use Rattle.theorems.specs.Machines.{MetOnce, TakesWord, TakesStreams}
use Rattle.theorems.proofs.Following.{solution-by-word}
use Rattle.theorems.proofs.Demands.{read_known}
use Rattle.theorems.proofs.Smallest.{words→streams}

-- The row of the worked sheets.
abbrev pub no_two_ones : WorkedSheet
no_two_ones = record { text = "x\n0\n1\nx -> ( next x eq 0 )\n1 until x"; refusal = 0; states = 3; situations = 7; entries = 0 ∷ 1 ∷ 2 ∷ 65535 ∷ 2 ∷ 1 ∷ []; finals = 0 ∷ 1 ∷ 1 ∷ [] }

-- A machine of two states: the letter before was 0, as at the start, or 1; and the second is final.
abbrev pub two_states : ℕ → ℕ → ℕ
two_states = entry_at 2 (0 ∷ 1 ∷ 0 ∷ 65535 ∷ [])

abbrev pub second_final : ℕ → ℕ
second_final = final_at (0 ∷ 1 ∷ [])

-- ---- the row as a table

-- How many letters the sheet has that the text is.
abbrev letters_in : Answer → ℕ
letters_in (refused n) = 0
letters_in (sheet s) = letter_count s.streams

two_letters : letters_in (answer_to (bytes_of no_two_ones.text)) ≡ 2
unfolding lines tokens is_name is_natural is_integer natural_from integer_value reserved_words is_reserved interval subexpressions letter_count reach back firsts B D operator_tokens operator_of relation_tokens relation_of prefix_tokens prefix_of stream_kind_tokens stream_kind_of says_release said_release says_kinds name_place expression_by opening_of part_to parse_constraint refuses1 too_deep_from refuses2 streams_from constraints_of form_of refuses4 refuses5 refuses6 refuses7 answer_to_sheet answer_to
two_letters = refl

is_row : Memᴰ no_two_ones worked_sheets
unfolding worked_sheets
is_row = get_or-member worked_sheets 18 no_two_ones (omega arith)

module _ {s : Sheet} (read : AnswerTo (bytes_of no_two_ones.text) (sheet s)) where
  letters : letter_count s.streams ≡ 2
  letters = ap letters_in (answer_unique read (answer_correct (bytes_of no_two_ones.text))) ∙ two_letters

  row-table : StoredTable (SolutionWord s) 2 3 no_two_ones.entries no_two_ones.finals
  row-table = go (rows_hold no_two_ones is_row)
    where
      go : Holds no_two_ones → StoredTable (SolutionWord s) 2 3 no_two_ones.entries no_two_ones.finals
      go (compiles r count e stored entries_size finals_size) =
          subst (λ n. StoredTable (SolutionWord s) n 3 no_two_ones.entries no_two_ones.finals) letters
          (subst (λ q. StoredTable (SolutionWord q) (letter_count q.streams) 3 no_two_ones.entries no_two_ones.finals) (one-sheet r read) stored)
      go (refuses r count e unsolved a b c) = absurd (omega (arith, e))

-- ---- three states beside two

abbrev three : ℕ → ℕ → ℕ
three = entry_at 2 no_two_ones.entries

abbrev final : ℕ → ℕ
final = final_at no_two_ones.finals

-- The state of the machine beside a state of the table: whether the letter before was 1.
abbrev beside : ℕ → ℕ
beside i = get_or (0 ∷ 1 ∷ 0 ∷ []) i 0

-- each of two letters, and of three states
below_two : (P : ℕ → Type 0) → P 0 → P 1 → (a : ℕ) → a < 2 → P a
below_two P x y zero h = x
below_two P x y (suc zero) h = y
below_two P x y (suc (suc a)) h = absurd (omega arith)

below-three : (P : ℕ → Type 0) → P 0 → P 1 → P 2 → (i : ℕ) → i < 3 → P i
below-three P x y z zero h = x
below-three P x y z (suc zero) h = y
below-three P x y z (suc (suc zero)) h = z
below-three P x y z (suc (suc (suc i))) h = absurd (omega arith)

-- One letter leads to states side by side, or there is no entry in either.
pub data BothGo (i a : ℕ) : Type 0 where
  go_on : three i a < 3 → two_states (beside i) a ≡ beside (three i a) → BothGo i a
  stop : three i a ≡ 65535 → two_states (beside i) a ≡ 65535 → BothGo i a

both : (i a : ℕ) → i < 3 → a < 2 → BothGo i a
both i a h b =
    below-three (λ j. BothGo j a) (below_two (BothGo 0) (go_on (omega arith) refl) (go_on (omega arith) refl) a b) (below_two (BothGo 1) (go_on (omega arith) refl) (stop refl refl) a b)
    (below_two (BothGo 2) (go_on (omega arith) refl) (go_on (omega arith) refl) a b) i h

-- Where the table is followed the machine is beside it.
beside-run : (t i : ℕ) (w : Word) → i < 3 → InRange 2 w → Follows 3 three i w → run two_states (beside i) w t ≡ beside (run three i w t)
beside-run zero i w h b f = refl
beside-run (suc t) i w h b f = go (both i (w 0) h (b 0)) (beside-run t (three i (w 0)) (tail w) (f 1) (λ u. b (suc u)) (λ u. f (suc u)))
  where
    go : BothGo i (w 0) → run two_states (beside (three i (w 0))) (tail w) t ≡ beside (run three (three i (w 0)) (tail w) t)
        → run two_states (two_states (beside i) (w 0)) (tail w) t ≡ beside (run three (three i (w 0)) (tail w) t)
    go (go_on l e) later = ap (λ q. run two_states q (tail w) t) e ∙ later
    go (stop e d) later = absurd (omega (arith, f 1, e))

-- Where the machine is followed, so is the table.
table-follows : (t i : ℕ) (w : Word) → i < 3 → InRange 2 w → Follows 2 two_states (beside i) w → run three i w t < 3
table-follows zero i w h b f = h
table-follows (suc t) i w h b f = go (both i (w 0) h (b 0)) (λ l. table-follows t (three i (w 0)) (tail w) l (λ u. b (suc u)))
  where
    go : BothGo i (w 0) → (three i (w 0) < 3 → Follows 2 two_states (beside (three i (w 0))) (tail w) → run three (three i (w 0)) (tail w) t < 3)
        → run three (three i (w 0)) (tail w) t < 3
    go (go_on l e) later = later l (λ u. subst (λ q. run two_states q (tail w) u < 2) e (f (suc u)))
    go (stop e d) later = absurd (omega (arith, f 1, d))

beside-small : (i : ℕ) → i < 3 → beside i < 2
beside-small = below-three (λ i. beside i < 2) (omega arith) (omega arith) (omega arith)

-- ---- final states of the table

-- A final state is met only behind the state after a 1.
one-met : (u i : ℕ) (w : Word) → i < 3 → Follows 3 three i w → InRange 2 w → final (run three i w u) ≡ 1 → (i ≡ 2) ⊎ ((v : ℕ) × (run three i w v ≡ 1))
one-met zero i w h f b e = below-three Met (λ d. absurd (omega (arith, d))) (λ d. inr (0, refl)) (λ d. inl refl) i h e
  where
    Met : ℕ → Type 0
    Met j = final j ≡ 1 → (j ≡ 2) ⊎ ((v : ℕ) × (run three j w v ≡ 1))
one-met (suc u) i w h f b e = later (one-met u (three i (w 0)) (tail w) (f 1) (λ t. f (suc t)) (λ t. b (suc t)) e)
  where
    Before : (j a : ℕ) → Type 0
    Before j a = three j a ≡ 2 → (j ≡ 2) ⊎ (j ≡ 1)

    before : (j a : ℕ) → j < 3 → a < 2 → Before j a
    before j a g c =
        below-three (λ q. Before q a) (below_two (Before 0) (λ d. absurd (omega (arith, d))) (λ d. absurd (omega (arith, d))) a c) (λ d. inr refl) (λ d. inl refl) j g

    first : (i ≡ 2) ⊎ (i ≡ 1) → (i ≡ 2) ⊎ ((v : ℕ) × (run three i w v ≡ 1))
    first (inl d) = inl d
    first (inr d) = inr (0, d)

    later : (three i (w 0) ≡ 2) ⊎ ((v : ℕ) × (run three (three i (w 0)) (tail w) v ≡ 1)) → (i ≡ 2) ⊎ ((v : ℕ) × (run three i w v ≡ 1))
    later (inl d) = first (before i (w 0) h (b 0) d)
    later (inr (v, d)) = inr (suc v, d)

final_on : (i a : ℕ) → i < 3 → a < 2 → three i a < 3 → final i ≡ 1 → final (three i a) ≡ 1
final_on i a h b =
    below-three (λ j. On j a) (λ l d. absurd (omega (arith, d))) (below_two (On 1) (λ l d. refl) (λ l d. absurd (omega (arith, l))) a b)
    (below_two (On 2) (λ l d. refl) (λ l d. refl) a b) i h
  where
    On : (j c : ℕ) → Type 0
    On j c = three j c < 3 → final j ≡ 1 → final (three j c) ≡ 1

-- From a final state on all are final.
final-stays : (t i : ℕ) (w : Word) → i < 3 → Follows 3 three i w → InRange 2 w → final i ≡ 1 → final (run three i w t) ≡ 1
final-stays zero i w h f b e = e
final-stays (suc t) i w h f b e =
    final-stays t (three i (w 0)) (tail w) (f 1) (λ u. f (suc u)) (λ u. b (suc u)) (final_on i (w 0) h (b 0) (f 1) e)

after_one : (u t i : ℕ) (w : Word) → i < 3 → Follows 3 three i w → InRange 2 w → run three i w u ≡ 1 → u ≤ t → final (run three i w t) ≡ 1
after_one zero t i w h f b e l = final-stays t i w h f b (ap final e)
after_one (suc u) zero i w h f b e l = absurd (omega arith)
after_one (suc u) (suc t) i w h f b e l = after_one u t (three i (w 0)) (tail w) (f 1) (λ v. f (suc v)) (λ v. b (suc v)) e (omega arith)

-- ---- the two take the same words

beside-one : (i : ℕ) → i < 3 → second_final (beside i) ≡ 1 → i ≡ 1
beside-one = below-three (λ i. second_final (beside i) ≡ 1 → i ≡ 1) (λ e. absurd (omega (arith, e))) (λ e. refl) (λ e. absurd (omega (arith, e)))

same_words : (x : Word) → InRange 2 x → AcceptedWord 3 three final x ↔ TakesWord 2 two_states (MetOnce second_final) 0 x
same_words x b = (to, from)
  where
    to : AcceptedWord 3 three final x → TakesWord 2 two_states (MetOnce second_final) 0 x
    to g = record { follows = λ t. rw (beside-run t 0 x (omega arith) b g.follows) (beside-small (run three 0 x t) (g.follows t)); met = once (g.again 0) }
      where
        found : (◌≡◌ {A = ℕ} 0 2) ⊎ ((v : ℕ) × (run three 0 x v ≡ 1)) → MetOnce second_final (run two_states 0 x)
        found (inl d) = absurd (omega (arith, d))
        found (inr (v, d)) = (v, ap second_final (beside-run v 0 x (omega arith) b g.follows ∙ ap beside d))

        once : (u : ℕ) × (0 ≤ u) × (final (run three 0 x u) ≡ 1) → MetOnce second_final (run two_states 0 x)
        once (u, l, e) = found (one-met u 0 x (omega arith) g.follows b e)

    from : TakesWord 2 two_states (MetOnce second_final) 0 x → AcceptedWord 3 three final x
    from g =
        let f : Follows 3 three 0 x = λ t. table-follows t 0 x (omega arith) b g.follows in
        let u = g.met.0 in
        let one = beside-one (run three 0 x u) (f u) (ap second_final (sym (beside-run u 0 x (omega arith) b f)) ∙ g.met.1) in
        record { follows = f; again = λ t. (t + u, omega arith, after_one u (t + u) 0 x (omega arith) f b one (omega arith)) }

-- Of this sheet the compile reports three states, and a machine of two that need only meet a final state once takes exactly its solutions.
pub fewer-states_once : {s : Sheet} → AnswerTo (bytes_of no_two_ones.text) (sheet s)
    → (w : Streams) → Solution s w ↔ TakesStreams s.streams 2 two_states (MetOnce second_final) 0 w
fewer-states_once {s} read =
    words→streams (solution-by-word s (read_known read)) 2 two_states (MetOnce second_final) 0 λ x b.
    let two : InRange 2 x = λ t. subst (x t <◌) (letters read) (b t) in
    let own = solution↔accepted (row-table read).table (subst (Settles (SolutionWord s)) (letters read) (solutions_settle s)) x two in
    let same = same_words x two in
    (λ h. same.0 (own.0 h), λ h. own.1 (same.1 h))
