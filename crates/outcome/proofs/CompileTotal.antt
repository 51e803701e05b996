-- Every compile has an outcome, whatever the bytes and the room. From the answer to a text (sheet), the exploration of situations (meaning) and
-- the table of their graph (proofs/SituationGraph).
use Prim.Native.Nat.{ℕ, ◌+◌, ◌-◌, ◌*◌, ◌/◌, ◌≤◌, ◌<◌}
use native.Mathlib.Omega.{arith}
use native.Mathlib.Nat.{div-add-mod', mul-le-mul_right}
use native.Mathlib.Decide.{dec_le}
use mathlib.Core.Path.{◌≡◌, refl, sym, ◌∙◌}
use mathlib.Core.Logic.{◌⊎◌, inl, inr}
use mathlib.Core.List.{List, [], ◌∷◌, ◌++◌}
use lib.ListN.{length, get_or, take, drop, length-append, length-replicate, get_or-append}
use lib.Seq.{length-take-le, get_or-take, drop_at}
use Rattle.basics.specs.Count.{CountOf, MoreThan}
use Rattle.automaton.specs.Words.{Word}
use Rattle.automaton.specs.Solutions.{NoSolution}
use Rattle.automaton.specs.Table.{SameRows}
use Rattle.automaton.specs.Stored.{StoredTable, HasTable, entry_at, final_at}
use Rattle.automaton.proofs.Places.{place-before}
use Rattle.automaton.proofs.Transfer.{rows-table}
use Rattle.meaning.specs.Value.{Streams}
use Rattle.meaning.specs.Expression.{Sheet, Solution}
use Rattle.meaning.specs.Letter.{letter_count, SolutionWord}
use Rattle.meaning.specs.Situation.{IsSituation, SituationCount}
use Rattle.meaning.specs.Scope.{NamesKnown}
use Rattle.meaning.proofs.Word.{spelled_once, solution-word}
use Rattle.meaning.proofs.Exploration.{Situation-discrete, counted_or_more}
use Rattle.sheet.specs.Refusal.{Answer, refused, sheet, AnswerTo}
use Rattle.sheet.specs.Reading.{answer_to}
use Rattle.sheet.proofs.Reading.{answer_correct}
use Rattle.outcome.specs.Room.{LentTable, rows_held, fewest_rows, zeros, zero_tables}
use Rattle.outcome.specs.Compile.{CompileAnswer, Room, room_rows, Tables, HoldsTable, CountFits, WordsOutcome, too_many_situations, too_few_rows, no_solution, compiled, CompileOutcome, unread, read, situation_bound}
use Rattle.outcome.proofs.SituationGraph.{table_or_no_word}
use Rattle.outcome.proofs.StateCount.{states-at-most-situations}

-- ---- the rows that the tables hold fit them

pub fewest_first : (t : LentTable) (ts : List LentTable) → fewest_rows t ts ≤ rows_held t
fewest_first t [] = omega arith
fewest_first t (u ∷ us) = omega arith

fewest_second : (t u : LentTable) (us : List LentTable) → fewest_rows t (u ∷ us) ≤ rows_held u
fewest_second t u us = let h = fewest_first u us in omega arith

pub rows_fit : (n k size : ℕ) → n ≤ size / k → n * k ≤ size
rows_fit n k size h = let l = mul-le-mul_right k h in omega (arith, div-add-mod' size k, l)

-- ---- the first N numbers of a list, and zeros up to a size

kept_first : ℕ → ℕ → List ℕ → List ℕ
kept_first N size l = take N l ++ zeros (size - N)

module _ (N size : ℕ) (l : List ℕ) (enough : N ≤ length l) (fits : N ≤ size) where
  kept-first-length : length (kept_first N size l) ≡ size
  unfolding kept_first
  kept-first-length = omega (arith, length-append (take N l) (zeros (size - N)), length-take-le N l enough, length-replicate {A = ℕ} (size - N) 0)

  kept-first-beyond : drop N (kept_first N size l) ≡ zeros (size - N)
  unfolding kept_first
  kept-first-beyond = drop_at (take N l) (zeros (size - N)) N (length-take-le N l enough)

  kept-first-below : (i : ℕ) → i < N → get_or (kept_first N size l) i 0 ≡ get_or l i 0
  unfolding kept_first
  kept-first-below i h = get_or-append (take N l) (zeros (size - N)) 0 i (omega (arith, length-take-le N l enough)) ∙ get_or-take N l i 0 h

module _ {Sol : Word → Type 0} {k : ℕ} (room : Room) where
  -- A table that fits the room can be held in it.
  holds_kept : {n : ℕ} {entries finals : List ℕ} → StoredTable Sol k n entries finals → n * k ≤ room.entries → n ≤ room.finals
      → HoldsTable Sol k room n (record { entries = kept_first (n * k) room.entries entries; finals = kept_first n room.finals finals; work = zero_tables room.work })
  holds_kept {n} {entries} {finals} t fe ff =
      let es = kept_first (n * k) room.entries entries in
      let fs = kept_first n room.finals finals in
      let same : SameRows k n (entry_at k entries) (final_at finals) n (entry_at k es) (final_at fs) =
      record {
        states = refl;
        entries = λ i a hi ha. sym (kept-first-below (n * k) room.entries entries t.entries_fit fe (i * k + a) (omega (arith, place-before k i a n 0 ha (inl hi))));
        finals = λ i hi. sym (kept-first-below n room.finals finals t.finals_fit ff i hi);
      } in
      record {
        entries_size = kept-first-length (n * k) room.entries entries t.entries_fit fe;
        finals_size = kept-first-length n room.finals finals t.finals_fit ff;
        table =
            record {
              entries_fit = omega (arith, kept-first-length (n * k) room.entries entries t.entries_fit fe);
              finals_fit = omega (arith, kept-first-length n room.finals finals t.finals_fit ff);
              table = rows-table same t.table;
            };
        entries_beyond = kept-first-beyond (n * k) room.entries entries t.entries_fit fe;
        finals_beyond = kept-first-beyond n room.finals finals t.finals_fit ff;
        work_zero = refl;
      }

-- An outcome, whatever its numbers and contents.
pub record HasOutcome (text : List ℕ) (room : Room) : Type 0 where
  pub answer : CompileAnswer
  pub tables : Tables
  pub outcome : CompileOutcome text room answer tables

-- No word is a solution, so no streams are.
pub no_streams : {s : Sheet} → NamesKnown s → NoSolution (letter_count s.streams) (SolutionWord s) → (w : Streams) → Solution s w → ⊥
no_streams {s} known f w x =
    let p = spelled_once s.streams w x.ranged in
    f p.word p.spells.letters ((solution-word known p.spells).1 x)

-- An outcome of what is compiled from a set of words, whatever its numbers and contents.
pub record HasWordsOutcome (Sol : Word → Type 0) (k : ℕ) {X : Type 0} (Counted : X → Type 0) (room : Room) : Type 0 where
  pub answer : CompileAnswer
  pub tables : Tables
  pub outcome : WordsOutcome Sol k Counted room answer tables

-- What is counted is counted up to any limit, or exceeds it; and where it can be counted, the set has a table of no more states, or no word is in it.
module _ {Sol : Word → Type 0} {k : ℕ} {X : Type 0} {Counted : X → Type 0} (room : Room)
    (counts : (limit : ℕ) → ((m : ℕ) × (m ≤ limit) × CountOf Counted m) ⊎ MoreThan Counted limit)
    (settles : (m : ℕ) → CountOf Counted m → m ≤ situation_bound → ((t : HasTable Sol k) × (t.states ≤ m)) ⊎ NoSolution k Sol) where
  fit_outcome : {m : ℕ} → CountFits Counted k room m → HasWordsOutcome Sol k Counted room
  fit_outcome {m} e = go (settles m e.counted e.within_bound)
    where
      go : ((t : HasTable Sol k) × (t.states ≤ m)) ⊎ NoSolution k Sol → HasWordsOutcome Sol k Counted room
      go (inl (t, le)) =
          let n = t.states in
          let rows = e.within_room in
          let one = fewest_first (record { per_row = k; size = room.entries }) (record { per_row = 1; size = room.finals } ∷ room.work) in
          let two = fewest_second (record { per_row = k; size = room.entries }) (record { per_row = 1; size = room.finals }) room.work in
          let fe : n * k ≤ room.entries = rows_fit n k room.entries (omega arith) in
          let ff : n * 1 ≤ room.finals = rows_fit n 1 room.finals (omega arith) in
          record { answer = _; tables = _; outcome = compiled e (holds_kept room t.stored fe (omega arith)) }
      go (inr f) = record { answer = _; tables = _; outcome = no_solution e f }

  pub words_total : HasWordsOutcome Sol k Counted room
  words_total = go (dec_le situation_bound rows)
    where
      rows : ℕ
      rows = room_rows room k

      many : situation_bound ≤ rows → ((m : ℕ) × (m ≤ situation_bound) × CountOf Counted m) ⊎ MoreThan Counted situation_bound → HasWordsOutcome Sol k Counted room
      many h (inl c) = fit_outcome (record { counted = c.2; within_bound = c.1; within_room = omega (arith, c.1, h) })
      many h (inr x) = record { answer = _; tables = _; outcome = too_many_situations h x }

      few : rows < situation_bound → ((m : ℕ) × (m ≤ rows) × CountOf Counted m) ⊎ MoreThan Counted rows → HasWordsOutcome Sol k Counted room
      few h (inl c) = fit_outcome (record { counted = c.2; within_bound = omega (arith, c.1, h); within_room = c.1 })
      few h (inr x) = record { answer = _; tables = _; outcome = too_few_rows h x }

      go : Dec (situation_bound ≤ rows) → HasWordsOutcome Sol k Counted room
      go (yes h) = many h (counts situation_bound)
      go (no h) = few (omega arith) (counts rows)

-- The words of a sheet, whose situations are counted.
pub sheet-total : (s : Sheet) (room : Room) → HasWordsOutcome (SolutionWord s) (letter_count s.streams) (IsSituation s) room
sheet-total s room = words_total room (counted_or_more s) (λ m c h. settled c (table_or_no_word Situation-discrete s c (omega (arith, h))))
  where
    settled : {m : ℕ} → SituationCount s m → HasTable (SolutionWord s) (letter_count s.streams) ⊎ NoSolution (letter_count s.streams) (SolutionWord s)
        → ((t : HasTable (SolutionWord s) (letter_count s.streams)) × (t.states ≤ m)) ⊎ NoSolution (letter_count s.streams) (SolutionWord s)
    settled c (inl t) = inl (t, states-at-most-situations s t.stored.table c)
    settled c (inr f) = inr f

module _ (text : List ℕ) (room : Room) where
  pub compile_total : HasOutcome text room
  compile_total = go (answer_to text) (answer_correct text)
    where
      go : (a : Answer) → AnswerTo text a → HasOutcome text room
      go (refused n) r = record { answer = _; tables = _; outcome = unread r }
      go (sheet s) r = let o = sheet-total s room in record { answer = o.answer; tables = o.tables; outcome = read r o.outcome }
