-- What a call of the compile gives: the file to open first. A call has the sheet's bytes `text`, the room lent, the answer and the contents of the
-- tables afterwards; `CompileCall` (crate outcome) is what the public function `compile` (crate compile) ensures. Demand 1: an answer has no refusal
-- or one with a number; after a refusal every table is zero, and work tables are zero after every call; after a refused step the running place is
-- unchanged. Demand 2: the streams along which the table can be followed are the solutions, each solution extends to the normal form in one way
-- only, and each solution of the normal form, cut back, is a solution. Demand 3: each refusal is given exactly if its condition holds and that of
-- none before it; where none of 1 to 8 and 10 applies, 9 exactly if there is no solution, else the table, which is settled; paths are the records
-- that begin a solution, and so are the records that can be followed by steps; equal used rows are equal solutions, whatever room was lent and
-- whatever kinds the streams have. From the laws of the layers below.
use Prim.Native.Nat.{ℕ, ◌≤◌, ◌<◌}
use native.Mathlib.Omega.{arith}
use mathlib.Core.Path.{◌≡◌, refl, sym, subst}
use mathlib.Core.Logic.{◌↔◌, ◌⊎◌, inl, inr}
use mathlib.Core.Bool.{Bool, true, false, cond}
use mathlib.Core.List.{List, [], ◌∷◌, map}
use lib.Dec.{T, eqb, eqb→eq}
use lib.ListN.{length, replicate}
use Rattle.automaton.specs.Table.{IsPath}
use Rattle.automaton.specs.Stored.{StoredTable, SameUsedRows, entry_at}
use Rattle.automaton.proofs.Paths.{has_solution}
use Rattle.meaning.specs.Value.{Streams, ValueStreams}
use Rattle.meaning.specs.Expression.{Sheet, Solution}
use Rattle.meaning.specs.Letter.{Record, OfLetters, letter_count, letter_number, SolutionWord}
use Rattle.meaning.specs.Situation.{SituationCount}
use Rattle.meaning.specs.NormalForm.{NormalSolution, ExtendsUniquely, CutsBack}
use Rattle.meaning.specs.Scope.{NamesKnown}
use Rattle.meaning.specs.StreamKinds.{SameNamesAndRanges}
use Rattle.meaning.proofs.NormalForm.{extends_uniquely, cut-back}
use Rattle.sheet.specs.Form.{HasForm}
use Rattle.sheet.specs.Refusal.{sheet, AnswerTo, accepted}
use Rattle.sheet.proofs.Form.{form_unique, form_decided}
use Rattle.sheet.proofs.Accepted.{accepted_facts}
use Rattle.outcome.specs.Room.{zero_tables}
use Rattle.outcome.specs.Compile.{CompileAnswer, refused_answer, situation_bound, Room, Tables, all_zero, HoldsSheetTable, too_many_situations, too_few_rows, no_solution, compiled, CompileCall, unread, read}
use Rattle.outcome.specs.NormalForm.{NormalAnswer, refused_normal_answer, NormalOutcome, unread, too_short, given}
use Rattle.outcome.proofs.Answers.{one-sheet}
use Rattle.outcome.proofs.Leaves.{compile_leaves, refused_zero as refused-tables}
use Rattle.outcome.proofs.AcceptedCompile.{accepted_compile, refusal-in_range}
use Rattle.outcome.proofs.CompileUnique.{compile_unique}
use Rattle.outcome.proofs.StateCount.{states-at-most-situations}
use Rattle.step.specs.declared.Place.{Place}
use Rattle.step.specs.Step.{StepAnswer, refused11, refused12, moves, refused_step}
use Rattle.step.specs.RunningPlace.{PlaceAfter, unchanged, changed, PlaceStep}
use Rattle.step.specs.Followed.{Followed}
use Rattle.step.proofs.Answers.{answer-refused}
use Rattle.theorems.specs.Following.{FollowedAlong, BeginsSolution, HaveSameSolutions}
use Rattle.theorems.specs.UsedRows.{used_bytes}
use Rattle.theorems.specs.Refusals.{Refusal9, others_than_nine, nine, in_order, IsGiven, NoneApplies}
use Rattle.theorems.proofs.Following.{all-below, solution↔followed, path↔begins_solution, used_rows↔same_solutions}
use Rattle.theorems.proofs.KindsApart.{table_same, over-differs, over-known, over_solutions}
use Rattle.theorems.proofs.Steps.{path↔steps}
use Rattle.theorems.proofs.Refusals.{given_unique, given-rest, of-form, call-given}

-- The text is this sheet, and none of refusals 1 to 7 applies.
abbrev pub ReadAs : List ℕ → Sheet → Type 0
ReadAs text s = AnswerTo text (sheet s)

abbrev pub Solves : Sheet → Streams → Type 0
Solves s w = Solution s w

abbrev pub Unsolved : Sheet → Type 0
Unsolved s = (w : Streams) → Solves s w → ⊥

-- No refusal, the number of the sheet's situations, and its table.
abbrev pub GivesTable : Sheet → Room → CompileAnswer → Tables → Type 0
GivesTable s room a t = (a.refusal ≡ 0) × SituationCount s a.situations × HoldsSheetTable s room a.states t

pub read-form : {text : List ℕ} {s : Sheet} → ReadAs text s → HasForm text s
read-form (accepted a b c d e f g h) = h

pub read_known : {text : List ℕ} {s : Sheet} → ReadAs text s → NamesKnown s
read_known r = record { sides = (accepted_facts r).names_known }

module _ {text : List ℕ} {room : Room} {a : CompileAnswer} {t : Tables} (call : CompileCall text room a t) where
  -- ---- demand 1

  -- "an answer or a numbered refusal" (demand 1): 0 for an answer, or a refusal of 1 to 10.
  pub numbered : a.refusal ≤ 10
  numbered = go call
    where
      go : {b : CompileAnswer} {u : Tables} → CompileCall text room b u → b.refusal ≤ 10
      go (unread r) = omega (arith, (refusal-in_range r).1)
      go (read r (too_many_situations x y)) = omega arith
      go (read r (too_few_rows x y)) = omega arith
      go (read r (no_solution e f)) = omega arith
      go (read r (compiled e x)) = omega arith

  -- "A refusal returns its number with states and situations 0." "After a refused compile every lent table is zero" (demand 1).
  pub refused_zero : 0 < a.refusal → (a ≡ refused_answer a.refusal) × (t ≡ all_zero room)
  refused_zero h = refused-tables call h

  -- "work tables are zero after every call"
  pub work_zero : t.work ≡ zero_tables room.work
  work_zero = (compile_leaves call).work_zero

  -- ---- demand 2, for an accepted sheet: "A sheet is accepted if its compile gives no refusal."

  module _ {s : Sheet} (read : ReadAs text s) (accepted : a.refusal ≡ 0) where
    abbrev k : ℕ
    k = letter_count s.streams

    -- The used rows hold the sheet's table, and what is beyond them is zero.
    pub held : HoldsSheetTable s room a.states t
    held =
        let c = accepted_compile call accepted in
        subst (λ q. HoldsSheetTable q room a.states t) (one-sheet c.read read) c.held

    -- Streams are a solution exactly if the table can be followed along them from its start without a missing entry and meets final states again
    -- and again.
    pub solution↔table : (w : Streams) → Solves s w ↔ FollowedAlong s.streams t.entries t.finals w
    solution↔table w = solution↔followed s (read_known read) held.table w

    -- ---- demand 3, the paths

    -- A record of letters, the empty one too, is a path from the start exactly if it begins a solution.
    pub path↔solution : (r : Record) → OfLetters s.streams r
        → IsPath (entry_at k t.entries) (map (letter_number s.streams) r) ↔ BeginsSolution s r
    path↔solution r h = path↔begins_solution s (read_known read) held.table r h

    -- No sheet has more states than 4,096.
    pub few_states : a.states ≤ situation_bound
    few_states =
        let c = accepted_compile call accepted in
        omega (arith, states-at-most-situations c.source c.held.table.table c.fit.counted, c.fit.within_bound)

    -- The same for steps along the bytes of the used rows, from state 0: no step is refused exactly if the record begins a solution.
    pub steps↔solution : (r : Record) → OfLetters s.streams r
        → ((last : ℕ) × Followed (used_bytes s a t) k 0 (map (letter_number s.streams) r) last) ↔ BeginsSolution s r
    steps↔solution r h =
        let steps = path↔steps held.table few_states (map (letter_number s.streams) r) (all-below r h) in
        (λ f. (path↔solution r h).0 (steps.1 f), λ b. steps.0 ((path↔solution r h).1 b))

    -- The numbers reported are the numbers of states of the sheet's table and of its distinct situations.
    pub situations-counted : SituationCount s a.situations
    situations-counted =
        let c = accepted_compile call accepted in
        subst (λ q. SituationCount q a.situations) (one-sheet c.read read) c.fit.counted

    pub table-stored : StoredTable (SolutionWord s) k a.states t.entries t.finals
    table-stored = held.table

  -- ---- demand 3, which answer is given

  -- Answer and tables are settled: a call with the same bytes and the same room gives the same.
  pub one-outcome : {b : CompileAnswer} {u : Tables} → CompileCall text room b u → (a ≡ b) × (t ≡ u)
  one-outcome c = compile_unique text room call c

  -- Each of 1 to 10 is given exactly if its condition holds and that of none before it, and none is given exactly if no condition holds. At a
  -- numeral the right side is those conditions (`Refusals.three-is`).
  pub refusal↔ : (n : ℕ) → (a.refusal ≡ n) ↔ IsGiven (in_order text room) n
  refusal↔ n =
      let g = call-given text room call in
      (λ e. subst (IsGiven (in_order text room)) e g, λ h. given_unique (in_order text room) a.refusal n g h)

  -- ---- demand 3, where none of refusals 1 to 8 and 10 applies, "by their conditions as written"

  module _ (none : NoneApplies text room) {s : Sheet} (form : HasForm text s) where
    -- The compile gives 9 and there is no solution; or it gives no refusal, the number of situations and the table.
    pub nine_or_table : ((a.refusal ≡ 9) × Unsolved s) ⊎ GivesTable s room a t
    nine_or_table = go (eqb a.refusal 9) refl (given-rest (others_than_nine text room) (nine text ∷ []) a.refusal none (call-given text room call))
      where
        go : (b : Bool) → eqb a.refusal 9 ≡ b → cond b (Refusal9 text) ((Refusal9 text → ⊥) × (a.refusal ≡ 0)) → ((a.refusal ≡ 9) × Unsolved s) ⊎ GivesTable s room a t
        go true e r = inl (eqb→eq a.refusal 9 (subst T (sym e) tt), of-form form Unsolved r.form r.unsolved)
        go false e r =
            let c = accepted_compile call r.1 in
            inr (of-form form (λ q. GivesTable q room a t) (read-form c.read) (r.1, c.fit.counted, c.held))

    -- "9: no solution."
    pub nine↔no_solution : (a.refusal ≡ 9) ↔ Unsolved s
    nine↔no_solution = go nine_or_table
      where
        go : ((a.refusal ≡ 9) × Unsolved s) ⊎ GivesTable s room a t → (a.refusal ≡ 9) ↔ Unsolved s
        go (inl x) = (λ e. x.1, λ f. x.0)
        go (inr x) = (λ e. absurd (omega (arith, x.0)), λ f. absurd (has_solution x.2.table.table (λ w b h. f _ h.solves)))

-- There is one sheet that the text has the form of, and only one.
pub one_form : {text : List ℕ} {room : Room} → NoneApplies text room → (s : Sheet) × HasForm text s × ((q : Sheet) → HasForm text q → q ≡ s)
one_form {text} none = go (form_decided text)
  where
    go : Dec ((s : Sheet) × HasForm text s) → (s : Sheet) × HasForm text s × ((q : Sheet) → HasForm text q → q ≡ s)
    go (yes x) = (x.0, x.1, λ q f. form_unique f x.1)
    go (no f) = absurd (none.1.1.0 (record { formless = λ s h. f (s, h) }))

-- ---- demand 1, the normal form and the step

-- "The normal form can meet 1 to 7 and 10, and leaves its list zero."
pub refused-list-zero : {E : Type 0} {blank : E} {encoded : Sheet → List E} {text : List ℕ} {room : ℕ} {b : NormalAnswer} {l : List E}
    → NormalOutcome blank encoded text room b l → 0 < b.refusal → (b ≡ refused_normal_answer b.refusal) × (l ≡ replicate room blank)
refused-list-zero (unread r) h = (refl, refl)
refused-list-zero (too_short r x) h = (refl, refl)
refused-list-zero (given r x) h = absurd (omega arith)

-- "after a refused step the running place is unchanged" (demand 1), and the refusal is 11 or 12.
module _ {table : List ℕ} {letters letter : ℕ} {before after : Place} {r : ℕ} (step : PlaceStep table letters letter before r after) (refused : 65536 ≤ r) where
  pub refused-step-unchanged : after ≡ before
  refused-step-unchanged = go step.place
    where
      go : {p : Place} → PlaceAfter table letters letter before r p → p ≡ before
      go (unchanged x) = refl
      go (changed x) = absurd (x (answer-refused step.answers refused))

  pub refused-step-numbered : (r ≡ refused_step 11) ⊎ (r ≡ refused_step 12)
  refused-step-numbered = go step.answers refused
    where
      go : {q : ℕ} → StepAnswer table letters before.state letter q → 65536 ≤ q → (q ≡ refused_step 11) ⊎ (q ≡ refused_step 12)
      go (refused11 x) h = inl refl
      go (refused12 x y) h = inr refl
      go (moves x y) h = elim (answer-refused (moves x y) h) [ inl z ↦ absurd (x z) | inr z ↦ absurd (y z) ]

-- ---- demand 2, the normal form

module _ {text : List ℕ} {s : Sheet} (read : ReadAs text s) where
  -- Each solution extends to the normal form in one way only, where the added streams may carry none;
  pub extends_in_one_way : {w : Streams} → Solves s w → ExtendsUniquely s w
  extends_in_one_way h = extends_uniquely s (read_known read) h

  -- each solution of the normal form, cut back, solves the sheet.
  pub cut-back-solves : {v : ValueStreams} → NormalSolution s v → CutsBack s v
  cut-back-solves h = cut-back s (read_known read) h

-- ---- demand 3, two accepted sheets over the same streams, their names and ranges in the same order and whatever kinds (document 02, S-6), whatever room
-- was lent

pub equal_rows↔same_solutions : {text text' : List ℕ} {room room' : Room} {a a' : CompileAnswer} {t t' : Tables} → CompileCall text room a t → CompileCall text' room' a' t'
    → {s s' : Sheet} → ReadAs text s → ReadAs text' s' → a.refusal ≡ 0 → a'.refusal ≡ 0 → SameNamesAndRanges s'.streams s.streams
    → SameUsedRows (letter_count s.streams) a.states t.entries t.finals a'.states t'.entries t'.finals ↔ HaveSameSolutions s s'
equal_rows↔same_solutions {a = a} {a' = a'} {t = t} {t' = t'} call call' {s} {s'} r r' e e' same =
    let rows = used_rows↔same_solutions s.streams s.constraints s'.constraints (read_known r) (over-known s s' same (read_known r')) (table-stored call r e) (table_same (over-differs s s' same) (table-stored call' r' e')) in
    let solutions = over_solutions s s' same in
    (λ h. solutions.0 (rows.0 h), λ h. rows.1 (solutions.1 h))
