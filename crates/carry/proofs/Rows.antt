-- The queue and the states in lists: what one entry, one row and the whole queue do to them. From the laws of the queue.
use mathlib.Core.Path.{◌≡◌, refl, sym, ap, subst, ◌∙◌}
use mathlib.Core.Logic.{◌⊎◌, inl, inr, ◌≢◌}
use mathlib.Core.List.{List, ◌∷◌}
use Prim.Native.Nat.{ℕ, zero, suc, ◌+◌, ◌<◌, ◌≤◌}
use native.Mathlib.Omega.{arith}
use native.Mathlib.Decide.{ℕ_discrete}
use lib.ListN.{length, set, take, replicate, length-set, get_or-replicate}
use lib.Seq.{get_or-set_same, get_or-set_other}
use Rattle.std.specs.Prelude.{true, false, Some, None}
use Rattle.std.proofs.lemmas.Option.{none-some, same_Some}
use Rattle.basics.specs.Lists.{at}
use Rattle.automaton.specs.Table.{no_state}
use Rattle.automaton.specs.Stored.{entry_at}
use Rattle.automaton.specs.WellFormed.{most_rows, WholeTable}
use Rattle.automaton.proofs.WellFormed.{whole-entries, some-row-entry}
use Rattle.carry.specs.Carry.{LacksState}
use Rattle.carry.specs.Queue.{HasState, StoredCarryTurn, HasPlace, EntryCarried, missing, kept, added, differs, RowCarried, goes_on, stops, RowsCarried, all, some_lacks}
use Rattle.carry.proofs.Queue.{IsMore, queue_room, turn_start, turn_row, turn_kept, turn_added, turn_lacks, turn_end}

-- the front of a list of one number
pub take-replicate : {X : Type 0} (n m : ℕ) (x : X) → n ≤ m → take n (replicate m x) ≡ replicate n x
take-replicate zero m x h = refl
take-replicate (suc n) zero x h = absurd (omega arith)
take-replicate (suc n) (suc m) x h = ap (x ∷◌) (take-replicate n m x (omega arith))

-- ---- in the row at the head, before a letter

pub record RowTurn (k : ℕ) (entries new-entries : List ℕ) (head : ℕ) (states₀ queue₀ : List ℕ) (row state : ℕ) (states queue : List ℕ) (met letter : ℕ) : Type 0 where
  pub letters : letter ≤ k
  pub same_states : length states ≡ length states₀
  pub same_queue : length queue ≡ length queue₀
  pub turn : StoredCarryTurn k (length states₀) entries new-entries states queue met head letter
  pub in_queue : head < met
  pub head_row : row ≡ at queue head
  pub row_state : state ≡ at states row

module _ {k : ℕ} {entries new-entries : List ℕ} {head : ℕ} {states₀ queue₀ : List ℕ} {row state : ℕ} {states queue : List ℕ} {met letter : ℕ}
    (whole : WholeTable k (length states₀) entries) (long : length queue₀ ≡ most_rows)
    (t : RowTurn k entries new-entries head states₀ queue₀ row state states queue met letter) where
  -- the row at the head has a state
  row_held : HasState (length states₀) (at states) row
  row_held = rw t.head_row (t.turn.held head t.in_queue)

  module _ (is_letter : letter < k) where
    abbrev entry : ℕ
    entry = entry_at k entries row letter

    abbrev new_entry : ℕ
    new_entry = entry_at k new-entries state letter

    entry_fits : entry ≢ no_state → entry < length states₀
    entry_fits = some-row-entry (whole-entries whole) row letter row_held.is_row is_letter

    -- the entries at the head of the queue are those of the row and its state
    old_here : entry_at k entries (at queue head) letter ≡ entry
    old_here = ap (λ i. entry_at k entries i letter) (sym t.head_row)

    new_here : entry_at k new-entries (at states (at queue head)) letter ≡ new_entry
    new_here = ap (λ j. entry_at k new-entries j letter) (ap (at states) (sym t.head_row) ∙ sym t.row_state)

    -- there is a place for the row that the letter leads to
    pub row_turn_place : HasPlace entry met states queue
    row_turn_place = record {
      is_row = λ some. omega (arith, entry_fits some, t.same_states);
      place = λ some unmet. omega (arith, queue_room t.turn entry (entry_fits some) unmet, t.same_queue, long, whole.few_rows);
    }

    -- after the letter
    pub row_turn_next : {states' queue' : List ℕ} {r : ℕ} → EntryCarried entry new_entry met states queue states' queue' (Some r)
        → RowTurn k entries new-entries head states₀ queue₀ row state states' queue' r (letter + 1)
    row_turn_next (missing none same_states same_queue same) = rw (same_states, same_queue, same_Some _ _ same) (record {
      letters = omega arith;
      same_states = t.same_states;
      same_queue = t.same_queue;
      turn = turn_kept t.turn (λ some. absurd (some (old_here ∙ none)));
      in_queue = t.in_queue;
      head_row = t.head_row;
      row_state = t.row_state;
    })
    row_turn_next (kept some some_state has same_states same_queue same) = rw (same_states, same_queue, same_Some _ _ same) (record {
      letters = omega arith;
      same_states = t.same_states;
      same_queue = t.same_queue;
      turn = turn_kept t.turn (λ some'. record {
        has_state = subst (HasState (length states₀) (at states)) (sym old_here) (record { is_row = entry_fits some; some_state = λ e. some_state (sym has ∙ e) });
        some_entry = λ e. some_state (sym new_here ∙ e);
        same_state = new_here ∙ sym has ∙ ap (at states) (sym old_here);
      });
      in_queue = t.in_queue;
      head_row = t.head_row;
      row_state = t.row_state;
    })
    row_turn_next (added some some_state unmet new-states new-queue one_more) = rw (new-states, new-queue, same_Some _ _ one_more) (record {
      letters = omega arith;
      same_states = length-set states entry new_entry ∙ t.same_states;
      same_queue = length-set queue met entry ∙ t.same_queue;
      turn = turn_added t.turn t.in_queue is_letter old_here some (entry_fits some) unmet new_here some_state more;
      in_queue = omega (arith, t.in_queue);
      head_row = t.head_row ∙ sym (get_or-set_other queue met head entry 0 (omega (arith, t.in_queue)));
      row_state = t.row_state ∙ sym (get_or-set_other states entry row new_entry 0 λ e. row_held.some_state (ap (at states) e ∙ unmet));
    })
      where
        more : IsMore (at states) (at (set states entry new_entry)) (at queue) (at (set queue met entry)) met entry new_entry
        more = record {
          new_state = get_or-set_same states entry new_entry 0 (row_turn_place.is_row some);
          old_states = λ i d. get_or-set_other states entry i new_entry 0 d;
          new_row = get_or-set_same queue met entry 0 (row_turn_place.place some unmet);
          old_rows = λ p h. get_or-set_other queue met p entry 0 (omega arith);
        }
    row_turn_next (differs some d none) = absurd (none-some _ (sym none))

    -- the letter leaves a row without a state
    pub row_turn_lacks : {states' queue' : List ℕ} → EntryCarried entry new_entry met states queue states' queue' None → LacksState k (entry_at k entries) (entry_at k new-entries)
    row_turn_lacks (missing none same_states same_queue same) = absurd (none-some _ same)
    row_turn_lacks (kept some some_state has same_states same_queue same) = absurd (none-some _ same)
    row_turn_lacks (added some some_state unmet new-states new-queue one_more) = absurd (none-some _ one_more)
    row_turn_lacks (differs some d none) = turn_lacks t.turn (whole-entries whole) t.in_queue is_letter (λ z. some (sym old_here ∙ z)) (elsewhere d)
      where
        elsewhere : (new_entry ≡ no_state) ⊎ ((at states entry ≢ no_state) × (at states entry ≢ new_entry))
            → (entry_at k new-entries (at states (at queue head)) letter ≡ no_state) ⊎ ((at states (entry_at k entries (at queue head) letter) ≢ no_state)
            × (at states (entry_at k entries (at queue head) letter) ≢ entry_at k new-entries (at states (at queue head)) letter))
        elsewhere (inl e) = inl (new_here ∙ e)
        elsewhere (inr x) = inr (λ e. x.0 (ap (at states) (sym old_here) ∙ e), λ e. x.1 (ap (at states) (sym old_here) ∙ e ∙ new_here))

pub row-turn-start : {k : ℕ} {entries new-entries : List ℕ} {head : ℕ} {states queue : List ℕ} {count : ℕ} → head < count
    → StoredCarryTurn k (length states) entries new-entries states queue count head 0
    → RowTurn k entries new-entries head states queue (at queue head) (at states (at queue head)) states queue count 0
row-turn-start h t = record { letters = omega arith; same_states = refl; same_queue = refl; turn = t; in_queue = h; head_row = refl; row_state = refl }

pub row-turn-end : {k : ℕ} {entries new-entries : List ℕ} {head : ℕ} {states₀ queue₀ : List ℕ} {row state : ℕ} {states queue : List ℕ} {met letter : ℕ} → k ≤ letter
    → RowTurn k entries new-entries head states₀ queue₀ row state states queue met letter → RowCarried k entries new-entries head states queue (Some met)
row-turn-end {k} {entries} {new-entries} {head} {states₀} {states = states} {queue} {met} {letter} h t =
    goes_on (subst (λ n. StoredCarryTurn k n entries new-entries states queue met head k) (sym t.same_states)
    (subst (StoredCarryTurn k (length states₀) entries new-entries states queue met head) (omega (arith, t.letters)) t.turn))

-- ---- the whole queue, before the row at the head

module _ (k n : ℕ) (entries new-entries : List ℕ) where
  pub rows_turn_start : (states queue : List ℕ) → length states ≡ n → 0 < n → states ≡ replicate (length states) no_state → at queue 0 ≡ 0
      → StoredCarryTurn k n entries new-entries (set states 0 0) queue 1 0 0
  rows_turn_start states queue long some unmet first = turn_start some first (get_or-set_same states 0 0 0 (omega arith)) λ i x. only i x (ℕ_discrete i 0)
    where
      only : (i : ℕ) → HasState n (at (set states 0 0)) i → Dec (i ≡ 0) → i ≡ 0
      only i x (yes e) = e
      only i x (no ne) =
          absurd (x.some_state (get_or-set_other states 0 i 0 0 ne ∙ ap (λ l. at l i) unmet ∙ get_or-replicate (length states) i no_state 0 (omega (arith, x.is_row))))

  pub rows_turn_next : {head : ℕ} {states' queue' : List ℕ} {r : ℕ} → length states' ≡ n → RowCarried k entries new-entries head states' queue' (Some r)
      → StoredCarryTurn k n entries new-entries states' queue' r (head + 1) 0
  rows_turn_next {head} {states'} {queue'} {r} long (goes_on t) = turn_row (subst (λ m. StoredCarryTurn k m entries new-entries states' queue' r head k) long t) (omega arith)

  -- at its end every row has what is given for it
  pub rows_turn_end : (states queue : List ℕ) {count head : ℕ} → length states ≡ n → 0 < n → count ≤ head → StoredCarryTurn k n entries new-entries states queue count head 0
      → RowsCarried k entries new-entries states true
  rows_turn_end states queue long some over t = all (record { each = λ i h. turn_end t some over i (omega arith) })

-- a row stopped the queue, since some row has no state to go on from
pub rows_turn_stopped : {k head : ℕ} {entries new-entries states' queue' states : List ℕ} → RowCarried k entries new-entries head states' queue' None → RowsCarried k entries new-entries states false
rows_turn_stopped (stops x) = some_lacks x
