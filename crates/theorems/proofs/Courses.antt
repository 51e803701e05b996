-- What a call for a course gives (document 02, S-3 and S-8). A call has a table as it is lent, streams, a state, a list and work room, the answer, and
-- list and work room afterwards; `CourseCall` (crate course) is what the public function `course` (crate course) and its entry for C (crate course_c)
-- ensure, for all arguments. Each refusal is given exactly if its condition holds; the course that is given is one, no shorter one exists, none as short
-- has fewer changes, and none with as few of both comes first in number order. From every state of a table that a compile gave there is one of fewer
-- letters than there are states, so only another table meets 15. From the laws of courses, and what a compile gives (`Demands`).
use Prim.Native.Nat.{ℕ, suc, ◌+◌, ◌-◌, ◌*◌, ◌≤◌, ◌<◌}
use native.Mathlib.Nat.{mul-le-mul_right}
use native.Mathlib.Decide.{dec_lt}
use native.Mathlib.Omega.{arith}
use mathlib.Core.Path.{◌≡◌, refl, sym, ap, ◌∙◌, subst}
use mathlib.Core.Logic.{◌↔◌, ◌⊎◌, inl, inr, ◌≢◌}
use mathlib.Core.Bool.{cond, ◌&&◌}
use mathlib.Core.List.{List, [], ◌∷◌, Memᴰ}
use lib.ListN.{length, get_or, take, drop, replicate}
use lib.Seq.{length-take-le, take_at, drop_at, get_or-drop}
use Rattle.basics.proofs.Clearing.{zeros}
use Rattle.automaton.specs.Table.{walk, PathFrom, IsTable}
use Rattle.automaton.specs.Stored.{entry_at, final_at}
use Rattle.automaton.specs.WellFormed.{IsWellFormed, WellFormedState}
use Rattle.automaton.specs.Course.{NotAfter, NoLater.fewer_letters, NoLater.fewer_changes, NoLater.by_number, NoLater, total_after, CourseOutcome.unfit, CourseOutcome.endless, CourseOutcome.short, CourseOutcome.found}
use Rattle.automaton.proofs.WellFormed.{used_table, used_well_formed}
use Rattle.automaton.proofs.Course.{best_fewest}
use Rattle.automaton.proofs.CourseOutcome.{state-course, compiled-course, compiled-outcome}
use Rattle.meaning.specs.Value.{compares, Comparison.different}
use Rattle.meaning.specs.Expression.{read_kind, Stream, Sheet}
use Rattle.meaning.specs.Letter.{Letter, letter_count, letter_of, SolutionWord}
use Rattle.sheet.specs.Refusal.{sheet, AnswerTo}
use Rattle.outcome.specs.Compile.{CompileAnswer, Room, Tables, CompileCall}
use Rattle.outcome.proofs.SheetWords.{solutions_settle}
use Rattle.streams.specs.Description.{description_of, StreamsFit}
use Rattle.streams.specs.declared.StreamsDescription.{StreamsDescription}
use Rattle.changes.specs.Changes.{is_set_kind, changed, differing}
use Rattle.compiled.specs.Answer.{answer_of}
use Rattle.compiled_sheet.specs.Told.{compiled_in, SheetCall}
use Rattle.compiled_sheet.specs.declared.CompiledSheet.{CompiledSheet}
use Rattle.compiled_sheet.proofs.Sheets.{letters-told, told_fit}
use Rattle.course_tests.specs.Refusals.{IsFit, IsShort}
use Rattle.course.specs.Outcome.{BestCourse, CourseCall}
use Rattle.course.proofs.Outcome.{call_functional}
use Rattle.theorems.specs.UsedRows.{used_entries, used_finals}
use Rattle.theorems.specs.Courses.{LeadsToFinal, changes_in}
use Rattle.theorems.proofs.Demands.{ReadAs, held, few_states, table-stored}

module _ {k : ℕ} {entries finals : List ℕ} {streams : StreamsDescription} {state room work refusal count : ℕ} {list work' : List ℕ}
    (call : CourseCall k entries finals streams state room work refusal count list work') where
  -- ---- the refusals: "Turned away: 15, no final state can be reached from the state given, after 11 [..] and before 10 (a list too short for
  -- the course)."; "Streams that no accepted sheet could have, or that do not make the table's letters, are 11."; "Work room is lent, one number
  -- for each entry of the table; less is 10."

  pub eleven↔ : (refusal ≡ 11) ↔ (¬ IsFit k entries finals streams state)
  eleven↔ = go call.outcome
    where
      go : {r c : ℕ} {l : List ℕ} → BestCourse k entries finals streams state room work r c l → (r ≡ 11) ↔ (¬ IsFit k entries finals streams state)
      go (unfit x) = (λ e. x, λ n. refl)
      go (endless f x) = (λ e. absurd (omega arith), λ n. absurd (n f))
      go (short f b h) = (λ e. absurd (omega arith), λ n. absurd (n f))
      go (found f b h) = (λ e. absurd (omega arith), λ n. absurd (n f))

  pub fifteen↔ : (refusal ≡ 15) ↔ (IsFit k entries finals streams state × ((r : List ℕ) → ¬ LeadsToFinal k entries finals state r))
  fifteen↔ = go call.outcome
    where
      go : {r c : ℕ} {l : List ℕ} → BestCourse k entries finals streams state room work r c l → (r ≡ 15) ↔ (IsFit k entries finals streams state × ((q : List ℕ) → ¬ LeadsToFinal k entries finals state q))
      go (unfit x) = (λ e. absurd (omega arith), λ n. absurd (x n.0))
      go (endless f x) = (λ e. (f, x), λ n. refl)
      go (short {r} f b h) = (λ e. absurd (omega arith), λ n. absurd (n.1 r b.course))
      go (found {r} f b h) = (λ e. absurd (omega arith), λ n. absurd (n.1 r b.course))

  -- There are courses, and each has more letters than the list has room for, or the work room has fewer numbers than there are entries.
  pub ten↔ : (refusal ≡ 10)
      ↔ (IsFit k entries finals streams state × ((r : List ℕ) × LeadsToFinal k entries finals state r) × (((r : List ℕ) → LeadsToFinal k entries finals state r → room < length r) ⊎ (work < length entries)))
  ten↔ = go call.outcome
    where
      every : (r : List ℕ) → ((q : List ℕ) → LeadsToFinal k entries finals state q → length r ≤ length q) → IsShort room work (length entries) (length r)
          → ((q : List ℕ) → LeadsToFinal k entries finals state q → room < length q) ⊎ (work < length entries)
      every r least (inl h) = inl λ q c. omega (arith, least q c)
      every r least (inr h) = inr h

      some : (r : List ℕ) → LeadsToFinal k entries finals state r → ((q : List ℕ) → LeadsToFinal k entries finals state q → room < length q) ⊎ (work < length entries) → IsShort room work (length entries) (length r)
      some r c (inl f) = inl (f r c)
      some r c (inr h) = inr h

      go : {r c : ℕ} {l : List ℕ} → BestCourse k entries finals streams state room work r c l
          → (r ≡ 10) ↔ (IsFit k entries finals streams state × ((q : List ℕ) × LeadsToFinal k entries finals state q) × (((q : List ℕ) → LeadsToFinal k entries finals state q → room < length q) ⊎ (work < length entries)))
      go (unfit x) = (λ e. absurd (omega arith), λ n. absurd (x n.0))
      go (endless f x) = (λ e. absurd (omega arith), λ n. absurd (x n.1.0 n.1.1))
      go (short {r} f b h) = (λ e. (f, (r, b.course), every r (best_fewest (changed (description_of streams)) k (entry_at k entries) (final_at finals) state r b) h), λ n. refl)
      go (found {r} f b h) = (λ e. absurd (omega arith), λ n. absurd (h (some r b.course n.2)))

  -- "The list is then zero."
  pub refused-course-zero : 0 < refusal → (count ≡ 0) × (list ≡ replicate room 0)
  refused-course-zero = go call.outcome
    where
      go : {r c : ℕ} {l : List ℕ} → BestCourse k entries finals streams state room work r c l → 0 < r → (c ≡ 0) × (l ≡ replicate room 0)
      go (unfit x) h = (refl, refl)
      go (endless f x) h = (refl, refl)
      go (short f b g) h = (refl, refl)
      go (found f b g) h = absurd (omega arith)

  -- The work room is zero after every call.
  pub work-cleared : work' ≡ replicate work 0
  work-cleared = call.cleared

  -- ---- the course that is given

  -- It has as many letters as are reported, leads to a final state, and the list is zero behind it.
  pub given-leads : refusal ≡ 0 → LeadsToFinal k entries finals state (take count list) × (length (take count list) ≡ count) × (drop count list ≡ replicate (room - count) 0)
  given-leads = go call.outcome
    where
      go : {n c : ℕ} {l : List ℕ} → BestCourse k entries finals streams state room work n c l → n ≡ 0
          → LeadsToFinal k entries finals state (take c l) × (length (take c l) ≡ c) × (drop c l ≡ replicate (room - c) 0)
      go (unfit x) e = absurd (omega arith)
      go (endless f x) e = absurd (omega arith)
      go (short f b h) e = absurd (omega arith)
      go (found {r} f b h) e =
          let front = take_at r (replicate (room - length r) 0) (length r) refl in
          (rw front b.course, ap length front, drop_at r (replicate (room - length r) 0) (length r) refl)

  -- No course comes before it in the order of S-8.
  given-first : refusal ≡ 0 → (q : List ℕ) → LeadsToFinal k entries finals state q → NoLater (changed (description_of streams)) (take count list) q
  given-first = go call.outcome
    where
      go : {n c : ℕ} {l : List ℕ} → BestCourse k entries finals streams state room work n c l → n ≡ 0 → (q : List ℕ) → LeadsToFinal k entries finals state q → NoLater (changed (description_of streams)) (take c l) q
      go (unfit x) e q c = absurd (omega arith)
      go (endless f x) e q c = absurd (omega arith)
      go (short f b h) e q c = absurd (omega arith)
      go (found {r} f b h) e q c = rw (take_at r (replicate (room - length r) 0) (length r) refl) (b.first q c)

  module _ (given : refusal ≡ 0) (q : List ℕ) (leads : LeadsToFinal k entries finals state q) where
    -- "No shorter course may exist".
    pub no_shorter : count ≤ length q
    no_shorter = go (given-first given q leads) (given-leads given).1
      where
        go : NoLater (changed (description_of streams)) (take count list) q → length (take count list) ≡ count → count ≤ length q
        go (fewer_letters l) e = omega arith
        go (fewer_changes l g) e = omega arith
        go (by_number l g n) e = omega arith

    -- "Among shortest courses of S-3, the one with the fewest changes now comes first".
    pub no_fewer_changes : length q ≡ count → changes_in streams (take count list) ≤ changes_in streams q
    no_fewer_changes same = go (given-first given q leads) (given-leads given).1
      where
        go : NoLater (changed (description_of streams)) (take count list) q → length (take count list) ≡ count → changes_in streams (take count list) ≤ changes_in streams q
        go (fewer_letters l) e = absurd (omega arith)
        go (fewer_changes l g) e = omega arith
        go (by_number l g n) e = omega arith

    -- "Only courses still equal go by number order."
    pub none_first : length q ≡ count → changes_in streams q ≡ changes_in streams (take count list) → NotAfter (take count list) q
    none_first same equal = go (given-first given q leads) (given-leads given).1
      where
        go : NoLater (changed (description_of streams)) (take count list) q → length (take count list) ≡ count → NotAfter (take count list) q
        go (fewer_letters l) e = absurd (omega arith)
        go (fewer_changes l g) e = absurd (omega arith)
        go (by_number l g n) e = n

-- Answer, list and work room are settled: a call with the same arguments gives the same.
pub one-course : {k : ℕ} {entries finals : List ℕ} {streams : StreamsDescription} {state room work a c a' c' : ℕ} {l l' w w' : List ℕ} → CourseCall k entries finals streams state room work a c l w
    → CourseCall k entries finals streams state room work a' c' l' w' → (a ≡ a') × (c ≡ c') × (l ≡ l') × (w ≡ w')
one-course {k} {entries} {finals} {streams} {state} {room} {work} x y = call_functional k entries finals streams state room work x y

-- ---- changes of read streams do not count: where no stream is set, the course is the first in number order among the shortest (S-3)

read-alone : (ss : List Stream) → ((s : Stream) → Memᴰ s ss → s.kind ≡ read_kind) → (l m : Letter) → differing ss l m ≡ 0
unfolding differing
read-alone [] all l m = refl
read-alone (s ∷ ss) all [] m = refl
read-alone (s ∷ ss) all (v ∷ l) [] = refl
read-alone (s ∷ ss) all (v ∷ l) (w ∷ m) = omega (
  arith,
  ap (λ kind. cond {A = ℕ} (is_set_kind kind && compares different v w) 1 0) (all s (Memᴰ.head refl)),
  read-alone ss (λ x y. all x (Memᴰ.tail y)) l m,
)

no_total : (changes : ℕ → ℕ → ℕ) (first : ℕ → ℕ) → ((a b : ℕ) → changes a b ≡ 0) → ((a : ℕ) → first a ≡ 0) → (r : List ℕ) → total_after changes first r ≡ 0
no_total changes first none begin [] = refl
no_total changes first none begin (a ∷ r) = omega (arith, begin a, no_total changes (changes a) none (none a) r)

pub read-by-number : {k : ℕ} {entries finals : List ℕ} {streams : StreamsDescription} {state room work refusal count : ℕ} {list work' : List ℕ} → CourseCall k entries finals streams state room work refusal count list work'
    → refusal ≡ 0 → ((s : Stream) → Memᴰ s (description_of streams) → s.kind ≡ read_kind) → (q : List ℕ) → LeadsToFinal k entries finals state q → length q ≡ count → NotAfter (take count list) q
unfolding changed
read-by-number {streams = streams} {count = count} {list = list} call given all q leads same =
    let none : (a b : ℕ) → changed (description_of streams) a b ≡ 0 = λ a b. read-alone (description_of streams) all (letter_of (description_of streams) a) (letter_of (description_of streams) b) in
    none_first call given q leads same (no_total (changed (description_of streams)) (λ a. 0) none (λ a. refl) q ∙ sym (no_total (changed (description_of streams)) (λ a. 0) none (λ a. refl) (take count list)))

-- ---- tables that a compile gave: the used rows, "as many as the states reported"

module _ {text : List ℕ} {room : Room} {a : CompileAnswer} {t : Tables} (call : CompileCall text room a t) {s : Sheet} (read : ReadAs text s) (accepted : a.refusal ≡ 0) where
  abbrev k : ℕ
  k = letter_count s.streams

  -- They are a well_formed table.
  pub compiled-well_formed : IsWellFormed k (used_entries s a t) (used_finals a t)
  compiled-well_formed = used_well_formed (table-stored call read accepted) (few_states call read accepted)

  pub compiled-state : (i : ℕ) → i < a.states → WellFormedState k (used_entries s a t) (used_finals a t) i
  compiled-state i h = record { well_formed = compiled-well_formed; is_row = omega (arith, length-take-le a.states t.finals (table-stored call read accepted).finals_fit) }

  -- "from every state of a compiled table one of fewer letters than there are states does."
  pub short-course : (i : ℕ) → i < a.states → (r : List ℕ) × LeadsToFinal k (used_entries s a t) (used_finals a t) i r × (length r < a.states)
  short-course i h =
      let c = compiled-course (used_table (table-stored call read accepted)) (solutions_settle s) (λ a b. 0) i h in
      (c.0, c.1.course, c.2)

  module _ {streams : StreamsDescription} {i numbers work refusal count : ℕ} {list work' : List ℕ}
      (course : CourseCall k (used_entries s a t) (used_finals a t) streams i numbers work refusal count list work') where
    -- So from a state, with streams that fit, in a list with room for one letter less than there are states, and with work room for every entry, the
    -- answer is a course of fewer letters than there are states.
    pub state-answered : i < a.states → StreamsFit streams k → a.states ≤ suc numbers → length (used_entries s a t) ≤ work → (refusal ≡ 0) × (count < a.states)
    state-answered h fit enough lent =
        compiled-outcome (used_table (table-stored call read accepted)) (solutions_settle s) (changed (description_of streams)) i h (IsFit k (used_entries s a t) (used_finals a t) streams i)
        (IsShort numbers work (length (used_entries s a t))) numbers (record { state = compiled-state i h; streams_fit = fit }) room-enough course.outcome
      where
        room-enough : (m : ℕ) → m < a.states → ¬ IsShort numbers work (length (used_entries s a t)) m
        room-enough m l (inl g) = omega arith
        room-enough m l (inr g) = omega arith

    -- "Only a table that no compile gave can lack one."
    pub never_fifteen : refusal ≢ 15
    never_fifteen e =
        let lacks = (fifteen↔ course).0 e in
        let c = short-course i (omega (arith, lacks.0.state.is_row, length-take-le a.states t.finals (table-stored call read accepted).finals_fit)) in
        lacks.1 c.0 c.1

  -- Nor does one that was lent whole, with the zero rows behind the used ones: they lead to state 0.
  zero-entry : (i : ℕ) → a.states ≤ i → entry_at k t.entries i 0 ≡ 0
  zero-entry i h =
      let place : i * k + 0 ≡ a.states * k + (i * k - a.states * k) = omega (arith, mul-le-mul_right k h) in
      ap (λ j. get_or t.entries j 0) place ∙ sym (get_or-drop (a.states * k) t.entries (i * k - a.states * k) 0)
      ∙ ap (λ l. get_or l (i * k - a.states * k) 0) (held call read accepted).entries_beyond ∙ zeros (room.entries - a.states * k) (i * k - a.states * k)

  pub lent-never_fifteen : {streams : StreamsDescription} {i numbers work refusal count : ℕ} {list work' : List ℕ}
      → CourseCall k t.entries t.finals streams i numbers work refusal count list work' → refusal ≢ 15
  lent-never_fifteen {streams} {i} course e = go (dec_lt i a.states)
    where
      table : IsTable (SolutionWord s) k a.states (entry_at k t.entries) (final_at t.finals)
      table = (table-stored call read accepted).table

      lacks : IsFit k t.entries t.finals streams i × ((r : List ℕ) → ¬ LeadsToFinal k t.entries t.finals i r)
      lacks = (fifteen↔ course).0 e

      go : Dec (i < a.states) → ⊥
      go (yes h) = let c = state-course table (solutions_settle s) i h in lacks.1 c.0 c.1
      go (no h) =
          let c = state-course table (solutions_settle s) 0 table.some_state in
          let zero = zero-entry i (omega arith) in
          let some : k ≢ 0 = lacks.0.state.well_formed.whole.some_letter in
          lacks.1 (0 ∷ c.0) (record {
            letters = (omega arith, c.1.letters);
            path = (omega (arith, zero), subst (λ j. PathFrom (entry_at k t.entries) j c.0) (sym zero) c.1.path);
            ends = subst (λ j. final_at t.finals (walk (entry_at k t.entries) j c.0) ≡ 1) (sym zero) c.1.ends;
          })

-- ---- a compile and then a course, by the entries for C: the streams and letters that the compile tells fit the course

pub told-answered : {text : List ℕ} {room : Room} {r : CompiledSheet} {t : Tables} → SheetCall text room r t → r.refusal ≡ 0 → {s : Sheet} → AnswerTo text (sheet s)
    → {i numbers work refusal count : ℕ} {list work' : List ℕ}
    → CourseCall r.letters (used_entries s (answer_of (compiled_in r)) t) (used_finals (answer_of (compiled_in r)) t) r.streams i numbers work refusal count list work'
    → i < r.states → r.states ≤ suc numbers → length (used_entries s (answer_of (compiled_in r)) t) ≤ work → (refusal ≡ 0) × (count < r.states)
told-answered {r = r} {t = t} call accepted {s} read {i} {numbers} {work} {refusal} {count} {list} {work'} course h enough lent =
    let same = letters-told call.tells accepted read in
    state-answered call.call read accepted
    (subst (λ n. CourseCall n (used_entries s (answer_of (compiled_in r)) t) (used_finals (answer_of (compiled_in r)) t) r.streams i numbers work refusal count list work') same course)
    h (subst (StreamsFit r.streams) same (told_fit call.tells accepted read)) enough lent
