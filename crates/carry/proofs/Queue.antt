-- The turns of the queue: its start, an entry that leads to no row or to one that has its state, one that leads to a new row, one that leaves a row
-- without a state, the end of a row, and the end of the queue, where every row has what is given for it. From the laws of records, and of things in rows
-- (basics) for the size of the queue.
use mathlib.Core.Path.{◌≡◌, refl, sym, ap, subst, ◌∙◌}
use mathlib.Core.Logic.{◌⊎◌, inl, inr, ◌≢◌}
use mathlib.Core.List.{[]}
use Prim.Native.Nat.{ℕ, ◌+◌, ◌<◌, ◌≤◌}
use native.Mathlib.Numerals.{add-one}
use native.Mathlib.Omega.{arith}
use native.Mathlib.Decide.{ℕ_discrete}
use borrow.Author.Count.{below_more}
use Rattle.basics.specs.Count.{CountOf}
use Rattle.basics.proofs.Count.{InRows, rows_count, rows_at_most, rows_more, more_iff}
use Rattle.automaton.specs.Table.{no_state, Before}
use Rattle.automaton.specs.WellFormed.{RowEntries}
use Rattle.automaton.proofs.WellFormed.{some-row-entry}
use Rattle.automaton.proofs.Places.{before_extend, before-row-end}
use Rattle.carry.specs.Carry.{LacksState, IsCarried, to_state, unreached}
use Rattle.carry.specs.Queue.{HasState, LeadsToBoth, Agrees, CarryTurn}
use Rattle.carry.proofs.Records.{leads_empty, leads-row, both-reached, both-letter, no_entry_lacks, apart-lacks, map-carries, reached-seen}

-- n numbers are below n
below-count : (n : ℕ) → CountOf (λ (i : ℕ). i < n) n
below-count n = rows_count (record { distinct = λ i j h g e. omega arith; holds = λ i h. h }) (λ i h. (i, h, refl))

-- ---- the size of the queue

module _ {k n : ℕ} {old new : ℕ → ℕ → ℕ} {state queue : ℕ → ℕ} {count head a : ℕ} (t : CarryTurn k n old new state queue count head a) where
  in_rows : InRows (λ i. i < n) queue count
  in_rows = record { distinct = t.distinct; holds = λ p h. (t.held p h).is_row }

  -- there are no more rows in it than there are
  pub queue_most : count ≤ n
  queue_most = rows_at_most in_rows (below-count n)

  -- and fewer, where a row has no state
  pub queue_room : (v : ℕ) → v < n → state v ≡ no_state → count < n
  queue_room v h e = (more_iff (below-count n) count).0 (rows_more in_rows v h (λ p l q. (t.held p l).some_state (ap state q ∙ e)))

  -- the start has a state, so the queue is not empty
  pub start-held : 0 < n → HasState n state 0
  start-held some = record { is_row = some; some_state = omega (arith, t.start) }

  pub queue_some : 0 < n → 0 < count
  queue_some some = let p = t.known 0 (start-held some) in omega (arith, p.1)

  -- the states are rows of the new table
  pub state-row : {m : ℕ} → RowEntries k m new → 0 < m → (i : ℕ) → HasState n state i → state i < m
  state-row rows some i x = leads-row rows some (t.led i x).new_leads

-- ---- the start

module _ {k n : ℕ} {old new : ℕ → ℕ → ℕ} {state queue : ℕ → ℕ} where
  pub turn_start : 0 < n → queue 0 ≡ 0 → state 0 ≡ 0 → ((i : ℕ) → HasState n state i → i ≡ 0) → CarryTurn k n old new state queue 1 0 0
  turn_start some first start only = record {
    start = start;
    held = λ p h. rw (first-place p h) (record { is_row = some; some_state = omega (arith, start) });
    distinct = λ p q h g. absurd (omega arith);
    known = λ i x. (0, omega arith, first ∙ sym (only i x));
    led = λ i x. subst (λ j. LeadsToBoth k old new j (state j)) (sym (only i x)) (subst (LeadsToBoth k old new 0) (sym start) empty);
    done = λ p b g l q. absurd (none q);
  }
    where
      first-place : (p : ℕ) → p < 1 → queue p ≡ 0
      first-place p h = let e : p ≡ 0 = omega arith in ap queue e ∙ first

      empty : LeadsToBoth k old new 0 0
      empty = record { by = []; old_leads = leads_empty; new_leads = leads_empty }

      none : {p b : ℕ} → Before p b 0 0 → ⊥
      none (inl g) = omega arith
      none (inr q) = omega (arith, q.1)

-- ---- one more entry

-- the row v gets the state j
pub record IsMore (state state' queue queue' : ℕ → ℕ) (count v j : ℕ) : Type 0 where
  pub new_state : state' v ≡ j
  pub old_states : (i : ℕ) → i ≢ v → state' i ≡ state i
  pub new_row : queue' count ≡ v
  pub old_rows : (p : ℕ) → p < count → queue' p ≡ queue p

module _ {k n : ℕ} {old new : ℕ → ℕ → ℕ} {state queue : ℕ → ℕ} {count head a : ℕ} (t : CarryTurn k n old new state queue count head a) where
  -- a row is done
  pub turn_row : k ≤ a → CarryTurn k n old new state queue count (head + 1) 0
  turn_row e = record {
    start = t.start;
    held = t.held;
    distinct = t.distinct;
    known = t.known;
    led = t.led;
    done = λ p b g l q. t.done p b g l (back l (before-row-end l (rw add-one at q)));
  }
    where
      back : {p b : ℕ} → b < k → Before p b head k → Before p b head a
      back l (inl h) = inl h
      back l (inr q) = inr (q.0, omega arith)

  -- the places before the next one: those before this one, and this one
  split : {p b : ℕ} → Before p b head (a + 1) → Before p b head a ⊎ ((p ≡ head) × (b ≡ a))
  split q = before_extend (rw add-one at q)

  -- an entry leads to no row, or to one that has its state
  pub turn_kept : (old (queue head) a ≢ no_state → Agrees n old new state (queue head) a) → CarryTurn k n old new state queue count head (a + 1)
  turn_kept agrees = record {
    start = t.start;
    held = t.held;
    distinct = t.distinct;
    known = t.known;
    led = t.led;
    done = λ p b g l q. by p b g l (split q);
  }
    where
      by : (p b : ℕ) → p < count → b < k → Before p b head a ⊎ ((p ≡ head) × (b ≡ a)) → old (queue p) b ≢ no_state → Agrees n old new state (queue p) b
      by p b g l (inl q) ne = t.done p b g l q ne
      by p b g l (inr q) ne = rw (q.0, q.1) (agrees (rw (q.0, q.1) at ne))

  -- an entry leads to a new row
  module _ {state' queue' : ℕ → ℕ} {v j : ℕ} (in_queue : head < count) (is_letter : a < k) (leads : old (queue head) a ≡ v) (some_row : v ≢ no_state) (is_row : v < n)
      (unmet : state v ≡ no_state) (goes : new (state (queue head)) a ≡ j) (some_state : j ≢ no_state) (m : IsMore state state' queue queue' count v j) where
    -- what has a state is another row, and keeps it
    other : (i : ℕ) → HasState n state i → i ≢ v
    other i x e = x.some_state (ap state e ∙ unmet)

    same : (i : ℕ) → HasState n state i → state' i ≡ state i
    same i x = m.old_states i (other i x)

    stays : (i : ℕ) → HasState n state i → HasState n state' i
    stays i x = record { is_row = x.is_row; some_state = λ e. x.some_state (sym (same i x) ∙ e) }

    new_held : HasState n state' v
    new_held = record { is_row = is_row; some_state = λ e. some_state (sym m.new_state ∙ e) }

    -- a row with a state is the new one or an old one
    which : (i : ℕ) → HasState n state' i → (i ≡ v) ⊎ HasState n state i
    which i x = go (ℕ_discrete i v)
      where
        go : Dec (i ≡ v) → (i ≡ v) ⊎ HasState n state i
        go (yes e) = inl e
        go (no ne) = inr (record { is_row = x.is_row; some_state = λ e. x.some_state (m.old_states i ne ∙ e) })

    -- a record leads to it and its state: that of the row at the head, and the letter
    new_led : LeadsToBoth k old new v j
    new_led =
        let x = both-letter (t.led (queue head) (t.held head in_queue)) is_letter (λ e. some_row (sym leads ∙ e)) (λ e. some_state (sym goes ∙ e)) in
        subst (LeadsToBoth k old new v) goes (subst (λ u. LeadsToBoth k old new u (new (state (queue head)) a)) leads x)

    agrees_more : (i b : ℕ) → HasState n state i → Agrees n old new state i b → Agrees n old new state' i b
    agrees_more i b x g = record {
      has_state = stays (old i b) g.has_state;
      some_entry = λ e. g.some_entry (ap (λ u. new u b) (sym (same i x)) ∙ e);
      same_state = ap (λ u. new u b) (same i x) ∙ g.same_state ∙ sym (same (old i b) g.has_state);
    }

    agrees_new : Agrees n old new state' (queue head) a
    agrees_new =
        let here : new (state' (queue head)) a ≡ j = ap (λ u. new u a) (same (queue head) (t.held head in_queue)) ∙ goes in
        record {
          has_state = subst (HasState n state') (sym leads) new_held;
          some_entry = λ e. some_state (sym here ∙ e);
          same_state = here ∙ sym (ap state' leads ∙ m.new_state);
        }

    pub turn_added : CarryTurn k n old new state' queue' (count + 1) head (a + 1)
    turn_added = record {
      start = same 0 (record { is_row = omega arith; some_state = omega (arith, t.start) }) ∙ t.start;
      held = below_more (λ p. HasState n state' (queue' p)) count (λ p h. rw (m.old_rows p h) (stays (queue p) (t.held p h))) (rw m.new_row new_held);
      distinct = λ p q h g. below_more (λ q. p < q → queue' p ≢ queue' q) count
          (λ q l h e. t.distinct p q h l (sym (m.old_rows p (omega arith)) ∙ e ∙ m.old_rows q l))
          (λ h e. other (queue p) (t.held p h) (sym (m.old_rows p h) ∙ e ∙ m.new_row)) q g h;
      known = λ i x. known_more i (which i x);
      led = λ i x. led_more i (which i x);
      done = λ p b g l q. done_more p b l (split q);
    }
      where
        known_more : (i : ℕ) → (i ≡ v) ⊎ HasState n state i → (p : ℕ) × (p < count + 1) × (queue' p ≡ i)
        known_more i (inl e) = (count, omega arith, m.new_row ∙ sym e)
        known_more i (inr x) = let p = t.known i x in (p.0, omega (arith, p.1), m.old_rows p.0 p.1 ∙ p.2)

        led_more : (i : ℕ) → (i ≡ v) ⊎ HasState n state i → LeadsToBoth k old new i (state' i)
        led_more i (inl e) = subst (λ u. LeadsToBoth k old new u (state' u)) (sym e) (subst (LeadsToBoth k old new v) (sym m.new_state) new_led)
        led_more i (inr x) = subst (LeadsToBoth k old new i) (sym (same i x)) (t.led i x)

        -- a place that was looked at is an old one
        old_place : {p b : ℕ} → Before p b head a ⊎ ((p ≡ head) × (b ≡ a)) → p < count
        old_place (inl (inl h)) = omega arith
        old_place (inl (inr q)) = omega (arith, q.0)
        old_place (inr q) = omega (arith, q.0)

        done_more : (p b : ℕ) → b < k → Before p b head a ⊎ ((p ≡ head) × (b ≡ a)) → old (queue' p) b ≢ no_state → Agrees n old new state' (queue' p) b
        done_more p b l q = rw (m.old_rows p (old_place q)) (go q)
          where
            go : Before p b head a ⊎ ((p ≡ head) × (b ≡ a)) → old (queue p) b ≢ no_state → Agrees n old new state' (queue p) b
            go (inl x) ne = agrees_more (queue p) b (t.held p (old_place q)) (t.done p b (old_place q) l x ne)
            go (inr x) ne = rw (x.0, x.1) agrees_new

  -- an entry leads to a row that has no state, or has another
  pub turn_lacks : RowEntries k n old → head < count → a < k → old (queue head) a ≢ no_state
      → (new (state (queue head)) a ≡ no_state) ⊎ ((state (old (queue head) a) ≢ no_state) × (state (old (queue head) a) ≢ new (state (queue head)) a)) → LacksState k old new
  turn_lacks rows in_queue is_letter ne differs = go (ℕ_discrete (new (state (queue head)) a) no_state) differs
    where
      here : LeadsToBoth k old new (queue head) (state (queue head))
      here = t.led (queue head) (t.held head in_queue)

      next : HasState n state (queue head)
      next = t.held head in_queue

      go : Dec (new (state (queue head)) a ≡ no_state)
          → (new (state (queue head)) a ≡ no_state) ⊎ ((state (old (queue head) a) ≢ no_state) × (state (old (queue head) a) ≢ new (state (queue head)) a)) → LacksState k old new
      go (yes e) d = no_entry_lacks here is_letter ne e
      go (no me) (inl e) = absurd (me e)
      go (no me) (inr d) =
          let met : HasState n state (old (queue head) a) = record { is_row = some-row-entry rows (queue head) a next.is_row is_letter ne; some_state = d.0 } in
          apart-lacks (t.led (old (queue head) a) met) (both-letter here is_letter ne me) d.1

  -- all rows are done
  pub turn_end : 0 < n → count ≤ head → (i : ℕ) → i < n → IsCarried k old new i (state i)
  turn_end some over i h = by (ℕ_discrete (state i) no_state)
    where
      closed : (i a : ℕ) → HasState n state i → a < k → old i a ≢ no_state → HasState n state (old i a) × (new (state i) a ≢ no_state) × (new (state i) a ≡ state (old i a))
      closed i a x l =
          let p = t.known i x in
          subst (λ u. old u a ≢ no_state → HasState n state (old u a) × (new (state u) a ≢ no_state) × (new (state u) a ≡ state (old u a))) p.2
          (λ ne. let g = t.done p.0 a p.1 l (inl (omega (arith, p.1))) ne in (g.has_state, g.some_entry, g.same_state))

      by : Dec (state i ≡ no_state) → IsCarried k old new i (state i)
      by (yes e) = unreached (λ x. (reached-seen old new (HasState n state) state (start-held t some) t.start closed x).some_state e) e
      by (no ne) = to_state (both-reached (t.led i (record { is_row = h; some_state = ne }))) (map-carries old new (HasState n state) state (start-held t some) t.start closed i)
