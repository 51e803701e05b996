-- The queue and the layers in lists: what one entry, one row and the whole queue do to them. From the laws of the queue.
use mathlib.Core.Path.{◌≡◌, refl, sym, ap, ◌∙◌, subst}
use mathlib.Core.Logic.{◌≢◌}
use mathlib.Core.List.{List}
use Prim.Native.Nat.{ℕ, suc, ◌+◌, ◌<◌, ◌≤◌}
use native.Mathlib.Omega.{arith}
use native.Mathlib.Decide.{ℕ_discrete}
use lib.ListN.{length, set, replicate, length-set, get_or-replicate}
use lib.Seq.{get_or-set_same, get_or-set_other}
use Rattle.basics.specs.Lists.{at}
use Rattle.automaton.specs.Table.{no_state}
use Rattle.automaton.specs.Stored.{entry_at}
use Rattle.automaton.specs.WellFormed.{most_rows, WholeTable}
use Rattle.automaton.proofs.WellFormed.{whole-entries, some-row-entry}
use Rattle.course_tests.specs.Goal.{not_met}
use Rattle.course.specs.Queue.{IsMet, StoredTurn, EntryFits, HasRoom, EntryMet, EntryMet.kept, EntryMet.added, RowMet, QueueEnded}
use Rattle.course.proofs.Queue.{IsMore, queue_room, turn_start, turn_row, turn_old, turn_new, turn_end}

-- in the row at the head, before a letter
pub record RowTurn (k : ℕ) (entries : List ℕ) (head : ℕ) (layers₀ queue₀ : List ℕ) (row next : ℕ) (layers queue : List ℕ) (met letter : ℕ) : Type 0 where
  pub letters : letter ≤ k
  pub same_layers : length layers ≡ length layers₀
  pub same_queue : length queue ≡ length queue₀
  pub turn : StoredTurn k (length layers₀) entries layers queue met head letter
  pub in_queue : head < met
  pub head_row : row ≡ at queue head
  pub next_layer : next ≡ suc (at layers row)
  pub first : at queue 0 ≡ at queue₀ 0

module _ {k : ℕ} {entries : List ℕ} {head : ℕ} {layers₀ queue₀ : List ℕ} {row next : ℕ} {layers queue : List ℕ} {met letter : ℕ}
    (whole : WholeTable k (length layers₀) entries) (as_many : length queue₀ ≡ length layers₀)
    (t : RowTurn k entries head layers₀ queue₀ row next layers queue met letter) (is_letter : letter < k) where
  row_inside : row < length layers₀
  row_inside = rw t.head_row (t.turn.is_queue.rows head t.in_queue)

  v_fits : EntryFits (entry_at k entries row letter) (length layers₀)
  v_fits = some-row-entry (whole-entries whole) row letter row_inside is_letter

  -- there is room for the row that the letter leads to
  pub row_turn_room : HasRoom (entry_at k entries row letter) met layers queue
  row_turn_room = record {
    fits = λ some. omega (arith, v_fits some, t.same_layers);
    room = λ some unmet. omega (arith, queue_room t.turn.is_queue whole.few_rows (entry_at k entries row letter) (v_fits some) unmet, t.same_queue);
  }

  -- after the letter
  pub row_turn_next : {layers' queue' : List ℕ} {r : ℕ} → EntryMet (entry_at k entries row letter) next met layers queue layers' queue' r
      → RowTurn k entries head layers₀ queue₀ row next layers' queue' r (letter + 1)
  row_turn_next (kept met-already same_layers same_queue same) = rw (same_layers, same_queue, same) (record {
    letters = omega arith;
    same_layers = t.same_layers;
    same_queue = t.same_queue;
    turn = turn_old whole.few_rows t.turn t.in_queue (subst
        (λ i. entry_at k entries i letter ≢ no_state → IsMet (length layers₀) (at layers) (entry_at k entries i letter)) t.head_row
        λ some. record { is_row = v_fits some; has_layer = met-already some }
        );
    in_queue = t.in_queue;
    head_row = t.head_row;
    next_layer = t.next_layer;
    first = t.first;
  })
  row_turn_next (added some unmet new-layers new-queue one_more) = rw (new-layers, new-queue, one_more) (record {
    letters = omega arith;
    same_layers = length-set layers u next ∙ t.same_layers;
    same_queue = length-set queue met u ∙ t.same_queue;
    turn = turn_new whole.few_rows t.turn t.in_queue is_letter (ap (λ i. entry_at k entries i letter) (sym t.head_row)) some (v_fits some) unmet more;
    in_queue = omega (arith, t.in_queue);
    head_row = t.head_row ∙ sym (get_or-set_other queue met head u 0 (omega (arith, t.in_queue)));
    next_layer = t.next_layer ∙ ap suc (sym (get_or-set_other layers u row next 0 other));
    first = get_or-set_other queue met 0 u 0 (omega (arith, t.in_queue)) ∙ t.first;
  })
    where
      u : ℕ
      u = entry_at k entries row letter

      -- the row at the head is met, so it is another one
      other : row ≢ u
      other e = let m = t.turn.is_queue.small head t.in_queue in
          omega (arith, m, unmet, ap (at layers) e, ap (at layers) t.head_row, room, t.same_queue, whole.few_rows)
        where
          room : met < length queue
          room = row_turn_room.room some unmet

      more : IsMore (at layers) (at (set layers u next)) (at queue) (at (set queue met u)) met head u
      more = record {
        new_layer = get_or-set_same layers u next 0 (row_turn_room.fits some) ∙ t.next_layer ∙ ap (λ i. suc (at layers i)) t.head_row;
        old_layers = λ i ne. get_or-set_other layers u i next 0 ne;
        new_row = get_or-set_same queue met u 0 (row_turn_room.room some unmet);
        old_rows = λ p h. get_or-set_other queue met p u 0 (omega arith);
      }

-- the whole row

pub row-turn-start : {k : ℕ} {entries : List ℕ} {head : ℕ} {layers queue : List ℕ} {count : ℕ} → head < count
    → StoredTurn k (length layers) entries layers queue count head 0
    → RowTurn k entries head layers queue (at queue head) (at layers (at queue head) + 1) layers queue count 0
row-turn-start h t = record {
  letters = omega arith;
  same_layers = refl;
  same_queue = refl;
  turn = t;
  in_queue = h;
  head_row = refl;
  next_layer = omega arith;
  first = refl;
}

pub row-turn-end : {k : ℕ} {entries : List ℕ} {head : ℕ} {layers₀ queue₀ : List ℕ} {row next : ℕ} {layers queue : List ℕ} {met letter : ℕ} → k ≤ letter
    → RowTurn k entries head layers₀ queue₀ row next layers queue met letter → RowMet k entries head queue₀ layers queue met
row-turn-end {k} {entries} {head} {layers₀} {layers} {queue} {met} {letter} h t = record {
  turn = subst (λ n. StoredTurn k n entries layers queue met head k) (sym t.same_layers) (subst (StoredTurn k (length layers₀) entries layers queue met head) (omega (arith, t.letters)) t.turn);
  first = t.first;
}

-- the whole queue

-- before the row at the head
pub record RowsTurn (k n : ℕ) (entries : List ℕ) (s : ℕ) (layers queue : List ℕ) (count head : ℕ) : Type 0 where
  pub long_layers : length layers ≡ n
  pub long_queue : length queue ≡ n
  pub turn : StoredTurn k n entries layers queue count head 0
  pub first : at queue 0 ≡ s

pub rows_turn_start : {k n : ℕ} {entries : List ℕ} {s : ℕ} (layers queue : List ℕ) → length layers ≡ n → length queue ≡ n → s < n
    → layers ≡ replicate (length layers) not_met → RowsTurn k n entries s (set layers s 0) (set queue 0 s) 1 0
rows_turn_start {k} {n} {entries} {s} layers queue long_layers long_queue h unmet = record {
  long_layers = length-set layers s 0 ∙ long_layers;
  long_queue = length-set queue 0 s ∙ long_queue;
  turn = turn_start (rw first h) (ap (at (set layers s 0)) first ∙ get_or-set_same layers s 0 0 (omega arith)) λ i x. only i x (ℕ_discrete i s);
  first = first;
}
  where
    first : at (set queue 0 s) 0 ≡ s
    first = get_or-set_same queue 0 s 0 (omega arith)

    only : (i : ℕ) → IsMet n (at (set layers s 0)) i → Dec (i ≡ s) → i ≡ at (set queue 0 s) 0
    only i x (yes e) = e ∙ sym first
    only i x (no ne) = absurd (x.has_layer (get_or-set_other layers s i 0 0 ne ∙ ap (λ l. at l i) unmet ∙ get_or-replicate (length layers) i not_met 0 (omega (arith, x.is_row))))

module _ {k n : ℕ} {entries : List ℕ} {s : ℕ} {layers queue : List ℕ} {count head : ℕ} (few : n ≤ most_rows) (t : RowsTurn k n entries s layers queue count head) where
  -- the row at the head can be looked at
  pub rows-turn-stored : StoredTurn k (length layers) entries layers queue count head 0
  rows-turn-stored = rw t.long_layers t.turn

  pub rows_turn_next : {layers' queue' : List ℕ} {r : ℕ} → length layers' ≡ length layers → length queue' ≡ length queue
      → RowMet k entries head queue layers' queue' r → RowsTurn k n entries s layers' queue' r (head + 1)
  rows_turn_next {layers'} {queue'} {r} same_layers same_queue m = record {
    long_layers = same_layers ∙ t.long_layers;
    long_queue = same_queue ∙ t.long_queue;
    turn = turn_row few (subst (λ n. StoredTurn k n entries layers' queue' r head k) (same_layers ∙ t.long_layers) m.turn) (omega arith);
    first = m.first ∙ t.first;
  }

  pub rows_turn_end : count ≤ head → QueueEnded k entries s layers queue count
  rows_turn_end over = record {
    is_queue = rw t.long_layers t.turn.is_queue;
    is_layers = rw (t.long_layers, ← t.first) (turn_end few t.turn over);
  }
