-- The outcome of a call for the new states is one, and there always is one: of each old row one record that reaches it is found, if there is any, and the
-- states where these lead in the new table are what is given, or some row has no new state. From the laws of records, the search for a course to a row
-- (automaton), and the decision of fit tables (given_tables).
use mathlib.Core.Path.{◌≡◌, refl, sym, ap, ap₂, subst, ◌∙◌}
use mathlib.Core.Logic.{◌⊎◌, inl, inr, ◌≢◌}
use mathlib.Core.Bool.{Bool, true, false, cond, true≢false}
use mathlib.Core.List.{List, [], ◌∷◌, ◌++◌}
use Prim.Native.Nat.{ℕ, ◌+◌, ◌-◌, ◌<◌, ◌≤◌}
use native.Mathlib.Omega.{arith}
use native.Mathlib.Decide.{ℕ_discrete, dec_lt}
use lib.Dec.{eqb}
use lib.ListN.{length, get_or, drop, replicate}
use lib.Seq.{ext_get_or, paste, take_all}
use borrow.Author.Tests.{eq-eqb, ne_eqb}
use Rattle.basics.proofs.Lists.{drop-replicate}
use Rattle.meaning.proofs.Search.{search_below}
use Rattle.automaton.specs.Table.{no_state, walk, PathFrom}
use Rattle.automaton.specs.Stored.{entry_at}
use Rattle.automaton.specs.WellFormed.{RowEntries, WholeTable}
use Rattle.automaton.specs.Closure.{tabulate}
use Rattle.automaton.proofs.Closure.{get_d_tabulate, length-tabulate}
use Rattle.automaton.proofs.WellFormed.{well_formed-entries}
use Rattle.automaton.proofs.Course.{Decided, has_best, has_none, course_decided}
use Rattle.given_tables.specs.Given.{GivenTable, table_rows, table_entry, IsFitTable, SameStreams}
use Rattle.given_tables.proofs.Fit.{table_decided, streams_discrete, same-letters}
use Rattle.carry.specs.Carry.{IsReached, LacksState, IsCarried, to_state, unreached, AreCarried, OverSameStreams, TableLacksState, CarryOutcome, unfit, other_streams, lacking, short, carried, TablesRefusal, are_unfit, streams_differ, none}
use Rattle.carry.specs.Queue.{LeadsToBoth, RowsCarried, all, some_lacks, ListFilled, row_lacks, list_short, filled}
use Rattle.carry.proofs.Records.{leads_empty, leads-row, both-reached, both-letter, no_way_lacks, no_entry_lacks, apart-lacks, carried_unique, map-carries}

-- ---- what is given for all rows

module _ {k : ℕ} {old new : ℕ → ℕ → ℕ} {states : List ℕ} (A : AreCarried k old new states) where
  -- it is one
  pub states_unique : {others : List ℕ} → AreCarried k old new others → length states ≡ length others → states ≡ others
  states_unique {others} B e = ext_get_or 0 states others e λ i h. carried_unique (A.each i h) (B.each i (omega arith))

  -- and where it is given no row lacks a state
  pub carried-none-lacks : {n : ℕ} → RowEntries k n old → 0 < n → length states ≡ n → ¬ LacksState k old new
  carried-none-lacks rows some long x = by (A.each x.state (omega (arith, leads-row rows some x.reached.reaches)))
    where
      by : IsCarried k old new x.state (get_or states x.state 0) → ⊥
      by (to_state y c) = x.lacks (get_or states x.state 0) c
      by (unreached n e) = n x.reached

-- ---- one outcome

module _ {old new : GivenTable} where
  old-entries : OverSameStreams old new → RowEntries old.letters (table_rows old) (table_entry old)
  old-entries s = well_formed-entries s.old_fit.well_formed

  pub none-lacks : {states : List ℕ} → OverSameStreams old new → length states ≡ table_rows old → AreCarried old.letters (table_entry old) (table_entry new) states → ¬ TableLacksState old new
  none-lacks s long A = carried-none-lacks A (old-entries s) s.old_fit.well_formed.whole.some_row long

  pub carry_functional : {room a b : ℕ} {l m : List ℕ} → CarryOutcome old new room a l → CarryOutcome old new room b m → (a ≡ b) × (l ≡ m)
  carry_functional (unfit x) (unfit y) = (refl, refl)
  carry_functional (unfit x) (other_streams f g d) = absurd (x (f, g))
  carry_functional (unfit x) (lacking s y) = absurd (x (s.old_fit, s.new_fit))
  carry_functional (unfit x) (short s y h) = absurd (x (s.old_fit, s.new_fit))
  carry_functional (unfit x) (carried s e A h) = absurd (x (s.old_fit, s.new_fit))
  carry_functional (other_streams f g d) (unfit y) = absurd (y (f, g))
  carry_functional (other_streams f g d) (other_streams p q c) = (refl, refl)
  carry_functional (other_streams f g d) (lacking s y) = absurd (d s.same_streams)
  carry_functional (other_streams f g d) (short s y h) = absurd (d s.same_streams)
  carry_functional (other_streams f g d) (carried s e A h) = absurd (d s.same_streams)
  carry_functional (lacking s x) (unfit y) = absurd (y (s.old_fit, s.new_fit))
  carry_functional (lacking s x) (other_streams p q c) = absurd (c s.same_streams)
  carry_functional (lacking s x) (lacking u y) = (refl, refl)
  carry_functional (lacking s x) (short u y h) = absurd (y x)
  carry_functional (lacking s x) (carried u e A h) = absurd (none-lacks u e A x)
  carry_functional (short s x h) (unfit y) = absurd (y (s.old_fit, s.new_fit))
  carry_functional (short s x h) (other_streams p q c) = absurd (c s.same_streams)
  carry_functional (short s x h) (lacking u y) = absurd (x y)
  carry_functional (short s x h) (short u y g) = (refl, refl)
  carry_functional (short s x h) (carried u e A g) = absurd (omega arith)
  carry_functional (carried s e A h) (unfit y) = absurd (y (s.old_fit, s.new_fit))
  carry_functional (carried s e A h) (other_streams p q c) = absurd (c s.same_streams)
  carry_functional (carried s e A h) (lacking u y) = absurd (none-lacks s e A y)
  carry_functional (carried s e A h) (short u y g) = absurd (omega arith)
  carry_functional {room} (carried s e A h) (carried u d B g) = (refl, ap (λ p. p ++ replicate (room - table_rows old) 0) (states_unique A B (e ∙ sym d)))

-- ---- and always one

-- whether a record is a path is decided
path_decided : (entry : ℕ → ℕ → ℕ) (s : ℕ) (r : List ℕ) → Dec (PathFrom entry s r)
path_decided entry s [] = yes tt
path_decided entry s (a ∷ r) = by (ℕ_discrete (entry s a) no_state) (path_decided entry (entry s a) r)
  where
    by : Dec (entry s a ≡ no_state) → Dec (PathFrom entry (entry s a) r) → Dec (PathFrom entry s (a ∷ r))
    by (yes e) d = no (λ p. p.0 e)
    by (no ne) (yes p) = yes (ne, p)
    by (no ne) (no n) = no (λ p. n p.1)

-- whether a record reaches a row is decided: there is a course to it, where it alone is final
reached_decided : {k n : ℕ} {entry : ℕ → ℕ → ℕ} → RowEntries k n entry → 0 < n → (i : ℕ) → Dec (IsReached k entry i)
reached_decided {k} {n} {entry} rows some i = by (course_decided (λ a b. 0) k entry final n 0 rows some)
  where
    final : ℕ → ℕ
    final j = cond (eqb j i) 1 0

    is_row : (j : ℕ) → Dec (j ≡ i) → final j ≡ 1 → j ≡ i
    is_row j (yes e) f = e
    is_row j (no ne) f = absurd (omega (arith, ap {B = ℕ} (λ t. cond t 1 0) (ne_eqb j i ne)))

    by : Decided (λ a b. 0) k entry final 0 → Dec (IsReached k entry i)
    by (has_best r b) = let c = b.course in
        yes (record { by = r; reaches = record { letters = c.letters; path = c.path; leads = is_row (walk entry 0 r) (ℕ_discrete (walk entry 0 r) i) c.ends } })
    by (has_none f) = no λ x. f x.by (record {
      letters = x.reaches.letters;
      path = x.reaches.path;
      ends = ap {B = ℕ} (λ t. cond t 1 0) (eq-eqb (walk entry 0 x.by) i x.reaches.leads);
    })

module _ {k n : ℕ} {old : ℕ → ℕ → ℕ} (new : ℕ → ℕ → ℕ) (rows : RowEntries k n old) (some : 0 < n) where
  -- the state where the record that was found leads in the new table
  abbrev state_by : {i : ℕ} → Dec (IsReached k old i) → ℕ
  state_by (yes x) = walk new 0 x.by
  state_by (no x) = no_state

  abbrev state_of : ℕ → ℕ
  state_of i = state_by (reached_decided rows some i)

  -- that record is followed in the new table, or its row has no state
  found-leads : (i : ℕ) → LacksState k old new ⊎ (IsReached k old i → LeadsToBoth k old new i (state_of i))
  found-leads i = by (reached_decided rows some i)
    where
      followed : (x : IsReached k old i) → Dec (PathFrom new 0 x.by) → LacksState k old new ⊎ (IsReached k old i → LeadsToBoth k old new i (walk new 0 x.by))
      followed x (yes p) = inr (λ y. record { by = x.by; old_leads = x.reaches; new_leads = record { letters = x.reaches.letters; path = p; leads = refl } })
      followed x (no p) = inl (no_way_lacks x.reaches λ j y. p y.path)

      by : (d : Dec (IsReached k old i)) → LacksState k old new ⊎ (IsReached k old i → LeadsToBoth k old new i (state_by d))
      by (yes x) = followed x (path_decided new 0 x.by)
      by (no x) = inr (λ y. absurd (x y))

  -- what a letter leads to agrees, or its row has no state
  abbrev Closed : (i a : ℕ) → Type 0
  Closed i a = IsReached k old i → old i a ≢ no_state → IsReached k old (old i a) × (new (state_of i) a ≢ no_state) × (new (state_of i) a ≡ state_of (old i a))

  module _ (led : (i : ℕ) → i < n → IsReached k old i → LeadsToBoth k old new i (state_of i)) where
    reached-led : (i : ℕ) → IsReached k old i → LeadsToBoth k old new i (state_of i)
    reached-led i x = led i (leads-row rows some x.reaches) x

    letter-closed : (i a : ℕ) → a < k → LacksState k old new ⊎ Closed i a
    letter-closed i a is_letter = by (reached_decided rows some i) (ℕ_discrete (old i a) no_state) (ℕ_discrete (new (state_of i) a) no_state) (ℕ_discrete (new (state_of i) a) (state_of (old i a)))
      where
        by : Dec (IsReached k old i) → Dec (old i a ≡ no_state) → Dec (new (state_of i) a ≡ no_state) → Dec (new (state_of i) a ≡ state_of (old i a)) → LacksState k old new ⊎ Closed i a
        by (no x) d e f = inr (λ y. absurd (x y))
        by (yes x) (yes z) e f = inr (λ y ne. absurd (ne z))
        by (yes x) (no ne) (yes z) f = inl (no_entry_lacks (reached-led i x) is_letter ne z)
        by (yes x) (no ne) (no me) (yes same) = inr (λ y z. (both-reached (both-letter (reached-led i x) is_letter ne me), me, same))
        by (yes x) (no ne) (no me) (no other) =
            let next = both-letter (reached-led i x) is_letter ne me in
            inl (apart-lacks next (reached-led (old i a) (both-reached next)) other)

    row-closed : (i : ℕ) → LacksState k old new ⊎ ((a : ℕ) → a < k → Closed i a)
    row-closed i = by (search_below (λ a. LacksState k old new) (λ a. a < k → Closed i a) (λ a. letter a (dec_lt a k)) k)
      where
        letter : (a : ℕ) → Dec (a < k) → LacksState k old new ⊎ (a < k → Closed i a)
        letter a (yes h) = with_letter (letter-closed i a h)
          where
            with_letter : LacksState k old new ⊎ Closed i a → LacksState k old new ⊎ (a < k → Closed i a)
            with_letter (inl x) = inl x
            with_letter (inr c) = inr (λ l. c)
        letter a (no h) = inr (λ l. absurd (h l))

        by : ((a : ℕ) × (a < k) × LacksState k old new) ⊎ ((a : ℕ) → a < k → a < k → Closed i a) → LacksState k old new ⊎ ((a : ℕ) → a < k → Closed i a)
        by (inl x) = inl x.2
        by (inr c) = inr (λ a h. c a h h)

    start-state : LacksState k old new ⊎ (state_of 0 ≡ 0)
    start-state = by (ℕ_discrete (state_of 0) 0)
      where
        empty : LeadsToBoth k old new 0 0
        empty = record { by = []; old_leads = leads_empty; new_leads = leads_empty }

        by : Dec (state_of 0 ≡ 0) → LacksState k old new ⊎ (state_of 0 ≡ 0)
        by (yes e) = inr e
        by (no ne) = inl (apart-lacks (reached-led 0 (both-reached empty)) empty ne)

    all-carried : state_of 0 ≡ 0 → ((i a : ℕ) → i < n → a < k → Closed i a) → AreCarried k old new (tabulate n state_of)
    all-carried start closed = record {
      each = λ i h.
          let inside : i < n = omega (arith, length-tabulate n state_of) in
          subst (IsCarried k old new i) (sym (get_d_tabulate n state_of i 0 inside)) (by i (reached_decided rows some i) refl);
    }
      where
        respected : (i a : ℕ) → IsReached k old i → a < k → old i a ≢ no_state → IsReached k old (old i a) × (new (state_of i) a ≢ no_state) × (new (state_of i) a ≡ state_of (old i a))
        respected i a x h = closed i a (leads-row rows some x.reaches) h x

        by : (i : ℕ) (d : Dec (IsReached k old i)) → reached_decided rows some i ≡ d → IsCarried k old new i (state_of i)
        by i (yes x) e = to_state x (map-carries old new (IsReached k old) state_of (record { by = []; reaches = leads_empty }) start respected i)
        by i (no x) e = unreached x (ap state_by e)

  -- what is given for all rows, or that some row has no state
  pub carried_or_lacks : LacksState k old new ⊎ ((states : List ℕ) × (length states ≡ n) × AreCarried k old new states)
  carried_or_lacks = by (search_below (λ i. LacksState k old new) (λ i. IsReached k old i → LeadsToBoth k old new i (state_of i)) found-leads n)
    where
      closing : (led : (i : ℕ) → i < n → IsReached k old i → LeadsToBoth k old new i (state_of i)) → LacksState k old new ⊎ (state_of 0 ≡ 0)
          → ((i : ℕ) × (i < n) × LacksState k old new) ⊎ ((i : ℕ) → i < n → (a : ℕ) → a < k → Closed i a) → LacksState k old new ⊎ ((states : List ℕ) × (length states ≡ n) × AreCarried k old new states)
      closing led (inl x) c = inl x
      closing led (inr e) (inl x) = inl x.2
      closing led (inr e) (inr c) = inr (tabulate n state_of, length-tabulate n state_of, all-carried led e (λ i a h. c i h a))

      by : ((i : ℕ) × (i < n) × LacksState k old new) ⊎ ((i : ℕ) → i < n → IsReached k old i → LeadsToBoth k old new i (state_of i))
          → LacksState k old new ⊎ ((states : List ℕ) × (length states ≡ n) × AreCarried k old new states)
      by (inl x) = inl x.2
      by (inr led) = closing led (start-state led) (search_below (λ i. LacksState k old new) (λ i. (a : ℕ) → a < k → Closed i a) (row-closed led) n)

module _ (old new : GivenTable) (room : ℕ) where
  -- every call has an outcome
  pub carry_total : (refusal : ℕ) × (list : List ℕ) × CarryOutcome old new room refusal list
  carry_total = fits (table_decided old) (table_decided new)
    where
      given : OverSameStreams old new → (states : List ℕ) × (length states ≡ table_rows old) × AreCarried old.letters (table_entry old) (table_entry new) states → Dec (room < table_rows old)
          → (refusal : ℕ) × (list : List ℕ) × CarryOutcome old new room refusal list
      given s x (yes h) = (10, replicate room 0, short s (none-lacks s x.1 x.2) h)
      given s x (no h) = (0, x.0 ++ replicate (room - table_rows old) 0, carried s x.1 x.2 (omega arith))

      found : OverSameStreams old new
          → TableLacksState old new ⊎ ((states : List ℕ) × (length states ≡ table_rows old) × AreCarried old.letters (table_entry old) (table_entry new) states)
          → (refusal : ℕ) × (list : List ℕ) × CarryOutcome old new room refusal list
      found s (inl x) = (18, replicate room 0, lacking s x)
      found s (inr x) = given s x (dec_lt room (table_rows old))

      same : IsFitTable old → IsFitTable new → Dec (SameStreams old.streams new.streams) → (refusal : ℕ) × (list : List ℕ) × CarryOutcome old new room refusal list
      same f g (yes e) = let s : OverSameStreams old new = record { old_fit = f; new_fit = g; same_streams = e } in
          found s (carried_or_lacks (table_entry new) (old-entries s) f.well_formed.whole.some_row)
      same f g (no d) = (17, replicate room 0, other_streams f g d)

      fits : Dec (IsFitTable old) → Dec (IsFitTable new) → (refusal : ℕ) × (list : List ℕ) × CarryOutcome old new room refusal list
      fits (yes f) (yes g) = same f g (streams_discrete old.streams new.streams)
      fits (yes f) (no d) = (11, replicate room 0, unfit λ x. d x.1)
      fits (no d) e = (11, replicate room 0, unfit λ x. d x.0)

-- ---- the outcome from the parts of a call

some-lacking : {k : ℕ} {entries new-entries states : List ℕ} {r : Bool} → RowsCarried k entries new-entries states r → r ≡ false → LacksState k (entry_at k entries) (entry_at k new-entries)
some-lacking (all A) e = absurd (true≢false e)
some-lacking (some_lacks x) e = x

all-given : {k : ℕ} {entries new-entries states : List ℕ} {r : Bool} → RowsCarried k entries new-entries states r → r ≡ true
    → AreCarried k (entry_at k entries) (entry_at k new-entries) states
all-given (all A) e = A
all-given (some_lacks x) e = absurd (true≢false (sym e))

pub refused-outcome : {old new : GivenTable} {room refusal : ℕ} {list : List ℕ} → TablesRefusal old new refusal → refusal ≢ 0 → list ≡ replicate room 0
    → CarryOutcome old new room refusal list
refused-outcome {old} {new} {room} (are_unfit x) ne e = subst (CarryOutcome old new room 11) (sym e) (unfit x)
refused-outcome {old} {new} {room} (streams_differ f g d) ne e = subst (CarryOutcome old new room 17) (sym e) (other_streams f g d)
refused-outcome (none s) ne e = absurd (ne refl)

module _ {old new : GivenTable} where
  pub not-refused : {refusal : ℕ} → TablesRefusal old new refusal → refusal ≡ 0 → OverSameStreams old new
  not-refused (are_unfit x) e = absurd (omega arith)
  not-refused (streams_differ f g d) e = absurd (omega arith)
  not-refused (none s) e = s

  module _ (s : OverSameStreams old new) where
    letters-same : old.letters ≡ new.letters
    letters-same = same-letters s.old_fit s.new_fit s.same_streams

    -- the new table is whole for the old one's letters
    pub new-whole : WholeTable old.letters (table_rows new) new.entries
    new-whole = subst (λ k. WholeTable k (table_rows new) new.entries) (sym letters-same) s.new_fit.well_formed.whole

    new_here : (λ (i a : ℕ). entry_at old.letters new.entries i a) ≡ table_entry new
    new_here = ap (λ k. entry_at k new.entries) letters-same

    pub filled-outcome : {room refusal : ℕ} {list : List ℕ} → ListFilled old.letters old.entries new.entries (table_rows old) room refusal list → CarryOutcome old new room refusal list
    filled-outcome (row_lacks x) = lacking s (subst (LacksState old.letters (table_entry old)) new_here x)
    filled-outcome (list_short {states} long A h) = short s (none-lacks s long (subst (λ n. AreCarried old.letters (table_entry old) n states) new_here A)) h
    filled-outcome (filled {states} long A h) = carried s long (subst (λ n. AreCarried old.letters (table_entry old) n states) new_here A) h

-- ---- the list

module _ {k : ℕ} {entries new-entries : List ℕ} {n room : ℕ} {list states : List ℕ} {r : Bool} (rows : RowsCarried k entries new-entries states r) where
  pub list-lacking : r ≡ false → list ≡ replicate room 0 → ListFilled k entries new-entries n room 18 list
  list-lacking f e = subst (ListFilled k entries new-entries n room 18) (sym e) (row_lacks (some-lacking rows f))

  pub list-too_short : length states ≡ n → r ≡ true → room < n → list ≡ replicate room 0 → ListFilled k entries new-entries n room 10 list
  list-too_short long t h e = subst (ListFilled k entries new-entries n room 10) (sym e) (list_short long (all-given rows t) h)

  -- the states are copied to the front of a list that was zero
  pub list-filled : length states ≡ n → r ≡ true → n ≤ room → list ≡ paste (replicate room 0) 0 states (length states) → ListFilled k entries new-entries n room 0 list
  list-filled long t h e =
      let front = take_all (length states) states (omega arith) in
      let behind : drop (0 + length states) (replicate {A = ℕ} room 0) ≡ replicate (room - n) 0 =
      drop-replicate 0 (0 + length states) room ∙ ap (λ m. replicate (room - m) 0) (omega (arith, long)) in
      subst (ListFilled k entries new-entries n room 0) (sym (e ∙ ap₂ ◌++◌ front behind)) (filled long (all-given rows t) h)
