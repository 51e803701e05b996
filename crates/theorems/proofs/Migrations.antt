-- What a call for the states to go on from gives (document 02, S-10): the file to open for it. A call has an old and a new table with their streams, a list,
-- the answer and the list afterwards; `CarryOutcome` (crate carry) is what the public function `carry` (crate carry) and its entry for C (`carry_c`) ensure,
-- for all arguments. Each refusal is given exactly if its condition holds; after 0 the list has for each old row the state that every record leads to. So,
-- by the proved step and for every record, the gate stands where it would have stood under the new table from the first reading, and goes on from there as
-- it would have gone on. For tables that compiles gave 11 is never met, 17 exactly if the sheets' streams differ, and each old state has a new one. From the
-- laws of the outcome (carry), of steps and paths (step), and what a compile gives and tells (`Demands`, compiled_sheet).
use Prim.Native.Nat.{ℕ, ◌-◌, ◌*◌, ◌≤◌, ◌<◌}
use native.Mathlib.Omega.{arith}
use mathlib.Core.Path.{◌≡◌, refl, sym, ap, subst, ◌∙◌}
use mathlib.Core.Logic.{◌↔◌, ◌≢◌}
use mathlib.Core.List.{List, ◌++◌, map}
use lib.ListN.{length, get_or, drop, take, replicate, get_or-append}
use lib.Seq.{drop_at, length-take-le}
use Rattle.automaton.specs.Words.{AllBelow}
use Rattle.automaton.specs.Table.{walk, PathFrom, IsPath}
use Rattle.automaton.specs.WellFormed.{WholeTable}
use Rattle.automaton.proofs.Words.{all-below-append}
use Rattle.automaton.proofs.WellFormed.{well_formed-entries}
use Rattle.automaton.proofs.Course.{walk-append, path-append}
use Rattle.automaton.proofs.States.{representative-path, representative-leads}
use Rattle.meaning.specs.Expression.{Sheet}
use Rattle.meaning.specs.Letter.{Record, OfLetters, letter_count, letter_number}
use Rattle.outcome.specs.Compile.{Room, Tables}
use Rattle.stored.specs.Number.{table_bytes}
use Rattle.step.specs.Step.{entry_width}
use Rattle.step.specs.declared.Place.{Place}
use Rattle.step.specs.RunningPlace.{most_steps}
use Rattle.step.specs.Followed.{Followed, place_after}
use Rattle.step.proofs.Paths.{followed↔path, followed↔path_from}
use Rattle.step.proofs.Places.{followed-place}
use Rattle.compiled.specs.Answer.{answer_of}
use Rattle.compiled_sheet.specs.declared.CompiledSheet.{CompiledSheet}
use Rattle.compiled_sheet.specs.Told.{compiled_in, SheetCall}
use Rattle.compiled_sheet.proofs.Sheets.{streams-told}
use Rattle.given_tables.specs.Given.{GivenTable, table_rows, table_entry, IsFitTable, SameStreams}
use Rattle.given_tables.proofs.Fit.{same-letters}
use Rattle.carry.specs.Carry.{LeadsToState, IsReached, CarriesTo, IsCarried, to_state, unreached, OverSameStreams, TableLacksState, CarryOutcome, unfit, other_streams, lacking, short, carried}
use Rattle.carry.proofs.Records.{path-behind, leads-row}
use Rattle.carry.proofs.Outcome.{none-lacks, carry_functional}
use Rattle.theorems.specs.Following.{BeginsSolution}
use Rattle.theorems.specs.UsedRows.{used_bytes}
use Rattle.theorems.specs.ToldTables.{told_table}
use Rattle.theorems.specs.Migrations.{step_bytes, place_over}
use Rattle.theorems.proofs.Following.{all-below}
use Rattle.theorems.proofs.Demands.{ReadAs, table-stored, steps↔solution}
use Rattle.theorems.proofs.ToldTables.{k-told, told-table, told-table-fit}

module _ {old new : GivenTable} {room : ℕ} where
  -- ---- the refusals: "Turned away: 11 as in S-9; then 17 for streams of another name, place, range or kind; then 18 for an old state with no such new state,
  -- exactly then; then 10 for a list shorter than the old rows. The list is then zero."

  pub eleven↔unfit : {refusal : ℕ} {list : List ℕ} → CarryOutcome old new room refusal list → (refusal ≡ 11) ↔ (¬ (IsFitTable old × IsFitTable new))
  eleven↔unfit (unfit x) = (λ e. x, λ n. refl)
  eleven↔unfit (other_streams f g d) = (λ e. absurd (omega arith), λ n. absurd (n (f, g)))
  eleven↔unfit (lacking s x) = (λ e. absurd (omega arith), λ n. absurd (n (s.old_fit, s.new_fit)))
  eleven↔unfit (short s x h) = (λ e. absurd (omega arith), λ n. absurd (n (s.old_fit, s.new_fit)))
  eleven↔unfit (carried s e A h) = (λ e. absurd (omega arith), λ n. absurd (n (s.old_fit, s.new_fit)))

  pub seventeen↔other_streams : {refusal : ℕ} {list : List ℕ} → CarryOutcome old new room refusal list
      → (refusal ≡ 17) ↔ (IsFitTable old × IsFitTable new × (¬ SameStreams old.streams new.streams))
  seventeen↔other_streams (unfit x) = (λ e. absurd (omega arith), λ n. absurd (x (n.0, n.1)))
  seventeen↔other_streams (other_streams f g d) = (λ e. (f, g, d), λ n. refl)
  seventeen↔other_streams (lacking s x) = (λ e. absurd (omega arith), λ n. absurd (n.2 s.same_streams))
  seventeen↔other_streams (short s x h) = (λ e. absurd (omega arith), λ n. absurd (n.2 s.same_streams))
  seventeen↔other_streams (carried s e A h) = (λ e. absurd (omega arith), λ n. absurd (n.2 s.same_streams))

  -- Some old state that some record reaches has no new state, exactly then.
  pub eighteen↔lacks : {refusal : ℕ} {list : List ℕ} → CarryOutcome old new room refusal list → (refusal ≡ 18) ↔ (OverSameStreams old new × TableLacksState old new)
  eighteen↔lacks (unfit x) = (λ e. absurd (omega arith), λ n. absurd (x (n.0.old_fit, n.0.new_fit)))
  eighteen↔lacks (other_streams f g d) = (λ e. absurd (omega arith), λ n. absurd (d n.0.same_streams))
  eighteen↔lacks (lacking s x) = (λ e. (s, x), λ n. refl)
  eighteen↔lacks (short s x h) = (λ e. absurd (omega arith), λ n. absurd (x n.1))
  eighteen↔lacks (carried s e A h) = (λ e. absurd (omega arith), λ n. absurd (none-lacks s e A n.1))

  pub ten↔short_list : {refusal : ℕ} {list : List ℕ} → CarryOutcome old new room refusal list
      → (refusal ≡ 10) ↔ (OverSameStreams old new × (¬ TableLacksState old new) × (room < table_rows old))
  ten↔short_list (unfit x) = (λ e. absurd (omega arith), λ n. absurd (x (n.0.old_fit, n.0.new_fit)))
  ten↔short_list (other_streams f g d) = (λ e. absurd (omega arith), λ n. absurd (d n.0.same_streams))
  ten↔short_list (lacking s x) = (λ e. absurd (omega arith), λ n. absurd (n.1 x))
  ten↔short_list (short s x h) = (λ e. (s, x, h), λ n. refl)
  ten↔short_list (carried s e A h) = (λ e. absurd (omega arith), λ n. absurd (omega (arith, n.2)))

  -- "The list is then zero."
  pub refused-states-zero : {refusal : ℕ} {list : List ℕ} → CarryOutcome old new room refusal list → 0 < refusal → list ≡ replicate room 0
  refused-states-zero (unfit x) h = refl
  refused-states-zero (other_streams f g d) h = refl
  refused-states-zero (lacking s x) h = refl
  refused-states-zero (short s x g) h = refl
  refused-states-zero (carried s e A g) h = absurd (omega arith)

  -- Answer and list are settled: a call with the same tables and a list as long gives the same.
  pub one_migration : {a b : ℕ} {l m : List ℕ} → CarryOutcome old new room a l → CarryOutcome old new room b m → (a ≡ b) × (l ≡ m)
  one_migration x y = carry_functional x y

  -- ---- what is given

  pub given-tables : {refusal : ℕ} {list : List ℕ} → CarryOutcome old new room refusal list → refusal ≡ 0 → OverSameStreams old new
  given-tables (unfit x) z = absurd (omega arith)
  given-tables (other_streams f g d) z = absurd (omega arith)
  given-tables (lacking s x) z = absurd (omega arith)
  given-tables (short s x h) z = absurd (omega arith)
  given-tables (carried s e A h) z = s

  -- "give for each old state the new state to go on from"; "A row that no record reaches gets 65,535".
  pub given-states : {refusal : ℕ} {list : List ℕ} → CarryOutcome old new room refusal list → refusal ≡ 0
      → (i : ℕ) → i < table_rows old → IsCarried old.letters (table_entry old) (table_entry new) i (get_or list i 0)
  given-states (unfit x) z i l = absurd (omega arith)
  given-states (other_streams f g d) z i l = absurd (omega arith)
  given-states (lacking s x) z i l = absurd (omega arith)
  given-states (short s x h) z i l = absurd (omega arith)
  given-states (carried {states} s e A h) z i l =
      let inside : i < length states = omega (arith, e) in
      subst (IsCarried old.letters (table_entry old) (table_entry new) i) (sym (get_or-append states (replicate (room - table_rows old) 0) 0 i inside)) (A.each i inside)

  -- The list is zero beyond the old rows.
  pub zero-behind : {refusal : ℕ} {list : List ℕ} → CarryOutcome old new room refusal list → refusal ≡ 0 → drop (table_rows old) list ≡ replicate (room - table_rows old) 0
  zero-behind (unfit x) z = absurd (omega arith)
  zero-behind (other_streams f g d) z = absurd (omega arith)
  zero-behind (lacking s x) z = absurd (omega arith)
  zero-behind (short s x h) z = absurd (omega arith)
  zero-behind (carried {states} s e A h) z = drop_at states (replicate (room - table_rows old) 0) (table_rows old) e

  -- ---- "After the change, the gate stands where it would have stood under the new sheet from the first reading."

  module _ {refusal : ℕ} {list : List ℕ} (call : CarryOutcome old new room refusal list) (z : refusal ≡ 0) where
    same_tables : OverSameStreams old new
    same_tables = given-tables call z

    old-whole : WholeTable old.letters (table_rows old) old.entries
    old-whole = same_tables.old_fit.well_formed.whole

    new-whole : WholeTable new.letters (table_rows new) new.entries
    new-whole = same_tables.new_fit.well_formed.whole

    letters-same : old.letters ≡ new.letters
    letters-same = same-letters same_tables.old_fit same_tables.new_fit same_tables.same_streams

    -- Every record that leads to an old state leads, in the new table, to the state that the list has for it.
    pub record_leads : (i : ℕ) (r : List ℕ) → LeadsToState old.letters (table_entry old) i r → LeadsToState old.letters (table_entry new) (get_or list i 0) r
    record_leads i r x = by (given-states call z i (leads-row (well_formed-entries same_tables.old_fit.well_formed) old-whole.some_row x))
      where
        by : IsCarried old.letters (table_entry old) (table_entry new) i (get_or list i 0) → LeadsToState old.letters (table_entry new) (get_or list i 0) r
        by (to_state y c) = c.every r x
        by (unreached n e) = absurd (n (record { by = r; reaches = x }))

    pub path_in_both : (r : List ℕ) → AllBelow old.letters r → IsPath (table_entry old) r
        → IsPath (table_entry new) r × (get_or list (walk (table_entry old) 0 r) 0 ≡ walk (table_entry new) 0 r)
    path_in_both r letters path =
        let x = record_leads (walk (table_entry old) 0 r) r (record { letters = letters; path = path; leads = refl }) in
        (x.path, sym x.leads)

    -- By steps along the bytes of both tables, from state 0: a record that can be followed in the old table can be followed in the new one, and leads to
    -- the state that the list has for the one where it ends.
    pub stands_as_from_the_start : (r : List ℕ) (last : ℕ) → AllBelow old.letters r → Followed (step_bytes old) old.letters 0 r last
        → Followed (step_bytes new) new.letters 0 r (get_or list last 0)
    stands_as_from_the_start r last letters followed =
        let p = (followed↔path old-whole r last letters).0 followed in
        let x = record_leads last r (record { letters = letters; path = p.0; leads = sym p.1 }) in
        (followed↔path new-whole r (get_or list last 0) (subst (λ k. AllBelow k r) letters-same letters)).1 (x.path, sym x.leads)

    -- So the running place of the cabinet, with the list's state in place of its own, is the one that it would have after the same readings in the new
    -- table, from whatever count of steps.
    pub place_as_from_the_start : (before : Place) → before.state ≡ 0 → before.steps ≤ most_steps → (r : List ℕ) (last : ℕ) → AllBelow old.letters r
        → Followed (step_bytes old) old.letters 0 r last
        → place_over list (place_after (step_bytes old) old.letters before r) ≡ place_after (step_bytes new) new.letters before r
    place_as_from_the_start before start within r last letters followed =
        let there = stands_as_from_the_start r last letters followed in
        ap (place_over list) (followed-place before r last within (subst (λ i. Followed (step_bytes old) old.letters i r last) (sym start) followed))
        ∙ sym (followed-place before r (get_or list last 0) within (subst (λ i. Followed (step_bytes new) new.letters i r (get_or list last 0)) (sym start) there))

    -- And it goes on from there as it would have gone on: whatever is read next.
    pub goes_on_as_from_the_start : (r q : List ℕ) (last end : ℕ) → AllBelow old.letters r → AllBelow old.letters q → Followed (step_bytes old) old.letters 0 r last
        → Followed (step_bytes new) new.letters (get_or list last 0) q end ↔ Followed (step_bytes new) new.letters 0 (r ++ q) end
    goes_on_as_from_the_start r q last end letters more followed =
        let k = new.letters in
        let entry = table_entry new in
        let state = get_or list last 0 in
        let first = subst (λ k. AllBelow k r) letters-same letters in
        let next = subst (λ k. AllBelow k q) letters-same more in
        let p = (followed↔path new-whole r state first).0 (stands_as_from_the_start r last letters followed) in
        let here : walk entry 0 r ≡ state = sym p.1 in
        let inside = leads-row {r = r} (well_formed-entries same_tables.new_fit.well_formed) new-whole.some_row (record { letters = first; path = p.0; leads = here }) in
        let on = followed↔path_from new-whole state inside q end next in
        let whole = followed↔path new-whole (r ++ q) end (all-below-append k r q first next) in
        let joined = walk-append entry 0 r q ∙ ap (λ i. walk entry i q) here in (
          (λ f. let x = on.0 f in whole.1 (path-append entry 0 r q p.0 (subst (λ i. PathFrom entry i q) (sym here) x.0), x.1 ∙ sym joined)),
          λ f. let x = whole.0 f in on.1 (subst (λ i. PathFrom entry i q) here (path-behind entry 0 r q x.0), x.1 ∙ joined),
        )

-- ---- tables that compiles gave, each with the letters and the streams that it tells

module _ {text : List ℕ} {room : Room} {r : CompiledSheet} {t : Tables} (call : SheetCall text room r t) (accepted : r.refusal ≡ 0) {s : Sheet} (read : ReadAs text s) where
  -- Every state is reached by a record, so that 65,535 is given for none.
  pub state-reached : (i : ℕ) → i < r.states → IsReached r.letters (table_entry (told_table r t)) i
  state-reached i h =
      let table = told-table call accepted read in
      subst (λ k. IsReached k (table_entry (told_table r t)) i) (sym (k-told call accepted read)) (record {
        by = table.representative i;
        reaches = record {
          letters = table.letters i h;
          path = representative-path table i h;
          leads = representative-leads table i h;
        };
      })

module _ {text text' : List ℕ} {room room' : Room} {r r' : CompiledSheet} {t t' : Tables} (call : SheetCall text room r t) (call' : SheetCall text' room' r' t') (accepted : r.refusal ≡ 0)
    (accepted' : r'.refusal ≡ 0) {s s' : Sheet} (read : ReadAs text s) (read' : ReadAs text' s') {numbers refusal : ℕ} {list : List ℕ}
    (carry : CarryOutcome (told_table r t) (told_table r' t') numbers refusal list) where
  pub never-eleven : refusal ≢ 11
  never-eleven e = (eleven↔unfit carry).0 e (told-table-fit call accepted read, told-table-fit call' accepted' read')

  -- "streams of another name, place, range or kind": those of the two sheets.
  told-streams : SameStreams r.streams r'.streams ↔ (s.streams ≡ s'.streams)
  told-streams = (
    λ e. sym (streams-told call.tells accepted read) ∙ e ∙ streams-told call'.tells accepted' read',
    λ e. streams-told call.tells accepted read ∙ e ∙ sym (streams-told call'.tells accepted' read'),
  )

  pub seventeen↔sheets_differ : (refusal ≡ 17) ↔ (s.streams ≢ s'.streams)
  seventeen↔sheets_differ = (
    λ e d. ((seventeen↔other_streams carry).0 e).2 (told-streams.1 d),
    λ d. (seventeen↔other_streams carry).1 (told-table-fit call accepted read, told-table-fit call' accepted' read', λ e. d (told-streams.0 e)),
  )

  -- Each old state has a state of the new table to go on from.
  pub each-state-goes_on : refusal ≡ 0 → (i : ℕ) → i < r.states
      → CarriesTo r.letters (table_entry (told_table r t)) (table_entry (told_table r' t')) i (get_or list i 0) × (get_or list i 0 < r'.states)
  each-state-goes_on z i h = by (given-states carry z i (omega (arith, rows)))
    where
      rows : length (take r.states t.finals) ≡ r.states
      rows = length-take-le r.states t.finals (table-stored call.call read accepted).finals_fit

      new-rows : length (take r'.states t'.finals) ≡ r'.states
      new-rows = length-take-le r'.states t'.finals (table-stored call'.call read' accepted').finals_fit

      letters : r.letters ≡ r'.letters
      letters = same-letters (told-table-fit call accepted read) (told-table-fit call' accepted' read') (given-tables carry z).same_streams

      by : IsCarried r.letters (table_entry (told_table r t)) (table_entry (told_table r' t')) i (get_or list i 0)
          → CarriesTo r.letters (table_entry (told_table r t)) (table_entry (told_table r' t')) i (get_or list i 0) × (get_or list i 0 < r'.states)
      by (to_state x c) =
          let there = c.every x.by x.reaches in
          let fit = told-table-fit call' accepted' read' in
          let inside = leads-row (well_formed-entries fit.well_formed) fit.well_formed.whole.some_row
          (subst (λ k. LeadsToState k (table_entry (told_table r' t')) (get_or list i 0) x.by) letters there) in
          (c, omega (arith, inside, new-rows))
      by (unreached n e) = absurd (n (state-reached call accepted read i h))

  -- For records of values, by steps along the used rows: "the gate stands where it would have stood under the new sheet from the first reading".
  pub sheet-stands : refusal ≡ 0 → (q : Record) → OfLetters s.streams q → (last : ℕ)
      → Followed (used_bytes s (answer_of (compiled_in r)) t) (letter_count s.streams) 0 (map (letter_number s.streams) q) last
      → Followed (used_bytes s' (answer_of (compiled_in r')) t') (letter_count s'.streams) 0 (map (letter_number s'.streams) q) (get_or list last 0)
  sheet-stands z q letters last followed =
      let word = map (letter_number s.streams) q in
      let old = subst (λ k. Followed (table_bytes entry_width (take (r.states * k) t.entries)) k 0 word last) (sym (k-told call accepted read)) followed in
      let there = stands_as_from_the_start carry z word last (subst (λ k. AllBelow k word) (sym (k-told call accepted read)) (all-below q letters)) old in
      let new = subst (λ k. Followed (table_bytes entry_width (take (r'.states * k) t'.entries)) k 0 word (get_or list last 0)) (k-told call' accepted' read') there in
      subst (λ ss. Followed (used_bytes s' (answer_of (compiled_in r')) t') (letter_count s'.streams) 0 (map (letter_number ss) q) (get_or list last 0))
      (told-streams.0 (given-tables carry z).same_streams) new

  -- So every record that begins a solution of the old sheet begins one of the new: a sheet that forbids a record of the old one cannot take over.
  pub begins-both : refusal ≡ 0 → (q : Record) → OfLetters s.streams q → BeginsSolution s q → BeginsSolution s' q
  begins-both z q letters begins =
      let f = (steps↔solution call.call read accepted q letters).1 begins in
      let letters' = subst (λ ss. OfLetters ss q) (told-streams.0 (given-tables carry z).same_streams) letters in
      (steps↔solution call'.call read' accepted' q letters').0 (get_or list f.0 0, sheet-stands z q letters f.0 f.1)
