-- The outcome of a call for a play table is one: equal arguments give the same numbers and the same tables, and play tables that hold letters for the same
-- states. From the one outcome of a compile, and since never both players can have their way (automaton).
use Prim.Native.Nat.{ℕ, ◌*◌, ◌≤◌, ◌<◌}
use native.Mathlib.Omega.{arith}
use native.Mathlib.Decide.{dec_lt}
use mathlib.Core.Path.{◌≡◌, refl, sym, ◌∙◌, ap, subst}
use mathlib.Core.Logic.{◌⊎◌, inl, inr, ◌↔◌}
use mathlib.Core.List.{List, [], ◌∷◌}
use lib.ListN.{length, drop}
use Rattle.automaton.specs.Table.{no_state, IsTable}
use Rattle.automaton.specs.Stored.{entry_at, final_at}
use Rattle.automaton.specs.Strategies.{AreChoices}
use Rattle.automaton.specs.PlayTable.{Game, KeepsRow, LacksRow, ForcedRow, PreventedRow, IsPlayTable}
use Rattle.automaton.proofs.Strategies.{not-both}
use Rattle.automaton.proofs.PlayTable.{kept_same}
use Rattle.meaning.specs.Expression.{Sheet}
use Rattle.meaning.specs.Letter.{letter_count, SolutionWord}
use Rattle.meaning.specs.Choice.{choice_count, choice_of}
use Rattle.meaning.proofs.Choice.{some_choice, choice-below, choice-letter}
use Rattle.sheet.specs.Accepted.{Accepted}
use Rattle.sheet.specs.Refusal.{refused, sheet, AnswerTo}
use Rattle.sheet.proofs.Accepted.{accepted_facts}
use Rattle.outcome.specs.Compile.{CompileAnswer, refused_answer, Room, Tables, SheetOutcome, too_many_situations, too_few_rows, no_solution, compiled}
use Rattle.outcome.specs.Force.{KeeperForces, RiverPrevents, sheet_game, with_play, with_zero_play, HoldsPlay, ForceOutcome, unread, not_compiled, prevented, forced, SamePlayRows}
use Rattle.outcome.proofs.Answers.{one_number, one-sheet, refused≢sheet}
use Rattle.outcome.proofs.CompileUnique.{words_unique}

-- ---- the choices of a sheet

pub sheet-choices : (s : Sheet) → 0 < letter_count s.streams → AreChoices (letter_count s.streams) (choice_count s.streams) (choice_of s.streams)
sheet-choices s some =
    record {
      some_choice = some_choice s.streams some;
      is_choice = choice-below s.streams;
      letter = λ c. letter c (dec_lt c (choice_count s.streams));
      is_letter = λ c h. (legal c h (dec_lt c (choice_count s.streams))).0;
      has_choice = λ c h. (legal c h (dec_lt c (choice_count s.streams))).1;
    }
  where
    letter : (c : ℕ) → Dec (c < choice_count s.streams) → ℕ
    letter c (yes h) = (choice-letter s.streams some c h).0
    letter c (no h) = 0

    legal : (c : ℕ) → c < choice_count s.streams → (d : Dec (c < choice_count s.streams)) → (letter c d < letter_count s.streams) × (choice_of s.streams (letter c d) ≡ c)
    legal c h (yes g) = let x = choice-letter s.streams some c g in (x.1, x.2)
    legal c h (no g) = absurd (g h)

-- ---- what a compile without a refusal gives

-- the table of the sheet
pub compiled-table : {s : Sheet} {room : Room} {a : CompileAnswer} {t : Tables} → SheetOutcome s room a t → a.refusal ≡ 0
    → IsTable (SolutionWord s) (letter_count s.streams) a.states (entry_at (letter_count s.streams) t.entries) (final_at t.finals)
compiled-table (too_many_situations h x) e = absurd (omega arith)
compiled-table (too_few_rows h x) e = absurd (omega arith)
compiled-table (no_solution f x) e = absurd (omega arith)
compiled-table (compiled f h) e = h.table.table

module _ {text : List ℕ} where
  -- two outcomes in the room with the play table
  same_compile : {room : Room} {size : ℕ} {s s' : Sheet} {a a' : CompileAnswer} {t t' : Tables} → AnswerTo text (sheet s) → AnswerTo text (sheet s') → SheetOutcome s (with_play s size room) a t
      → SheetOutcome s' (with_play s' size room) a' t' → (a ≡ a') × (t ≡ t')
  same_compile {room} {size} {a' = a'} {t' = t'} r r' o o' = words_unique o (subst (λ q. SheetOutcome q (with_play q size room) a' t') (one-sheet r' r) o')

  -- no sheet is both forced and prevented
  not-forced-prevented : {s s' : Sheet} → AnswerTo text (sheet s) → AnswerTo text (sheet s') → KeeperForces s [] → RiverPrevents s' [] → ⊥
  not-forced-prevented r r' f p = not-both f (subst (λ q. RiverPrevents q []) (one-sheet r' r) p)

  -- a play table is zero after a refusal
  same-zero : (states : ℕ) (play : List ℕ) → SamePlayRows text states play play
  same-zero states play = record { size = refl; rows = λ s r i h. (λ x. x, λ x. x); beyond = λ s r. refl }

  -- two play tables of one table
  same_rows : {s : Sheet} (r : AnswerTo text (sheet s)) {states size : ℕ} {t : Tables} {play play' : List ℕ}
      → IsTable (SolutionWord s) (letter_count s.streams) states (entry_at (letter_count s.streams) t.entries) (final_at t.finals)
      → HoldsPlay s states t size play → HoldsPlay s states t size play' → SamePlayRows text states play play'
  same_rows {s} r {states} {size} {t} {play} {play'} A h h' =
      record {
        size = h.play_size ∙ sym h'.play_size;
        rows = λ q x i b. subst (λ q. LacksRow (choice_count q.streams) (entry_at (choice_count q.streams) play) i ↔ LacksRow (choice_count q.streams) (entry_at (choice_count q.streams) play') i) (one-sheet r x) (lacks h h' i b, lacks h' h i b);
        beyond = λ q x. subst (λ q. drop (states * choice_count q.streams) play ≡ drop (states * choice_count q.streams) play') (one-sheet r x) (h.play_beyond ∙ sym h'.play_beyond);
      }
    where
      facts : Accepted s
      facts = accepted_facts r

      choices : AreChoices (letter_count s.streams) (choice_count s.streams) (choice_of s.streams)
      choices = sheet-choices s facts.some_letter

      lacks : {p p' : List ℕ} → HoldsPlay s states t size p → HoldsPlay s states t size p' → (i : ℕ) → i < states → LacksRow (choice_count s.streams) (entry_at (choice_count s.streams) p) i
          → LacksRow (choice_count s.streams) (entry_at (choice_count s.streams) p') i
      lacks {p} {p'} g g' i b none = by (g'.is_play_table.row i b)
        where
          by : ForcedRow (sheet_game s states t) (SolutionWord s) (entry_at (choice_count s.streams) p') i ⊎ PreventedRow (sheet_game s states t) (SolutionWord s) (entry_at (choice_count s.streams) p') i
              → LacksRow (choice_count s.streams) (entry_at (choice_count s.streams) p') i
          by (inr x) = x.lacks
          by (inl x) =
              let keeps = kept_same A choices (omega (arith, facts.letters)) g'.is_play_table g.is_play_table i b (λ c hc e. omega (arith, (x.moves c hc).letter, facts.letters)) in
              absurd (keeps 0 choices.some_choice (none 0 choices.some_choice))

module _ (text : List ℕ) (room : Room) (size : ℕ) where
  pub force_unique : {a b : CompileAnswer} {t u : Tables} {play play' : List ℕ} → ForceOutcome text room size a t play → ForceOutcome text room size b u play'
      → (a ≡ b) × (t ≡ u) × SamePlayRows text a.states play play'
  force_unique (unread r) (unread r') = (ap refused_answer (one_number r r'), refl, same-zero 0 _)
  force_unique (unread r) (not_compiled r' o h) = absurd (refused≢sheet r r')
  force_unique (unread r) (prevented r' o z p) = absurd (refused≢sheet r r')
  force_unique (unread r) (forced r' o z f h) = absurd (refused≢sheet r r')
  force_unique (not_compiled r o h) (unread r') = absurd (refused≢sheet r' r)
  force_unique {a} (not_compiled r o h) (not_compiled r' o' h') = ((same_compile r r' o o').0, refl, same-zero a.states _)
  force_unique (not_compiled r o h) (prevented r' o' z p) = absurd (omega (arith, ap (λ x. x.refusal) (same_compile r r' o o').0))
  force_unique (not_compiled r o h) (forced r' o' z f x) = absurd (omega (arith, ap (λ x. x.refusal) (same_compile r r' o o').0))
  force_unique (prevented r o z p) (unread r') = absurd (refused≢sheet r' r)
  force_unique (prevented r o z p) (not_compiled r' o' h) = absurd (omega (arith, ap (λ x. x.refusal) (same_compile r r' o o').0))
  force_unique (prevented r o z p) (prevented r' o' z' p') = (refl, refl, same-zero 0 _)
  force_unique (prevented r o z p) (forced r' o' z' f h) = absurd (not-forced-prevented r' r f p)
  force_unique (forced r o z f h) (unread r') = absurd (refused≢sheet r' r)
  force_unique (forced r o z f h) (not_compiled r' o' h') = absurd (omega (arith, ap (λ x. x.refusal) (same_compile r r' o o').0))
  force_unique (forced r o z f h) (prevented r' o' z' p) = absurd (not-forced-prevented r r' f p)
  force_unique {a} {b} {t} {u} {play} {play'} (forced {s} r o z f h) (forced {s = s'} r' o' z' f' h') =
      let one = same_compile r r' o o' in
      let answers : a ≡ b = one.0 in
      let tables : t ≡ u = tables-same one.1 in
      let moved : HoldsPlay s a.states t size play' = subst (λ q. HoldsPlay q a.states t size play') (one-sheet r' r) (subst (λ x. HoldsPlay s' x.states t size play') (sym answers) (subst (λ x. HoldsPlay s' b.states x size play') (sym tables) h')) in
      (answers, tables, same_rows r (compiled-table o z) h moved)
    where
      others : List (List ℕ) → List (List ℕ)
      others [] = []
      others (x ∷ xs) = xs

      tables-same : with_zero_play size t ≡ with_zero_play size u → t ≡ u
      tables-same e i = record { entries = (e i).entries; finals = (e i).finals; work = others (e i).work }
