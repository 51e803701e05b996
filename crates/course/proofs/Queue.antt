-- The turns of the queue: its start, an entry that leads to no row or to one that is met, one that leads to a new row, the end of a
-- row, and the end of the queue, where the layers are right (`IsLayers`). From the definitions, and the pigeonhole for its size.
use mathlib.Core.Path.{◌≡◌, sym, ap, ◌∙◌, subst}
use mathlib.Core.Logic.{◌⊎◌, inl, inr, ◌≢◌}
use Prim.Native.Nat.{ℕ, suc, ◌+◌, ◌<◌, ◌≤◌}
use native.Mathlib.Numerals.{add-one}
use native.Mathlib.Omega.{arith}
use native.Mathlib.Decide.{ℕ_discrete, dec_lt}
use borrow.Author.Count.{below_more}
use Rattle.automaton.specs.Table.{no_state, Before}
use Rattle.automaton.specs.WellFormed.{most_rows}
use Rattle.automaton.specs.Layers.{MetFrom, IsLayers}
use Rattle.automaton.proofs.Pigeonhole.{pigeonhole}
use Rattle.automaton.proofs.Places.{before_extend, before-row-end}
use Rattle.course_tests.specs.Goal.{not_met}
use Rattle.course.specs.Queue.{IsMet, IsQueue, QueueTurn}

-- one more row v is met, a layer after the row at the head
pub record IsMore (layer layer' queue queue' : ℕ → ℕ) (count head v : ℕ) : Type 0 where
  pub new_layer : layer' v ≡ suc (layer (queue head))
  pub old_layers : (i : ℕ) → i ≢ v → layer' i ≡ layer i
  pub new_row : queue' count ≡ v
  pub old_rows : (p : ℕ) → p < count → queue' p ≡ queue p

module _ {n : ℕ} {layer queue : ℕ → ℕ} {count : ℕ} (Q : IsQueue n layer queue count) where
  -- no place holds the row of another
  pub queue_injective : (p q : ℕ) → p < count → q < count → queue p ≡ queue q → p ≡ q
  queue_injective p q hp hq e = go (dec_lt p q) (dec_lt q p)
    where
      go : Dec (p < q) → Dec (q < p) → p ≡ q
      go (yes h) d = absurd (Q.distinct p q h hq e)
      go (no h) (yes g) = absurd (Q.distinct q p g hp (sym e))
      go (no h) (no g) = omega arith

  -- so there are no more of them than rows
  pub queue_most : count ≤ n
  queue_most = pigeonhole count n queue Q.rows queue_injective

  pub queue_met : n ≤ most_rows → (p : ℕ) → p < count → IsMet n layer (queue p)
  queue_met few p h = record { is_row = Q.rows p h; has_layer = omega (arith, Q.small p h, queue_most) }

  -- and fewer, where a row is not met
  pub queue_room : n ≤ most_rows → (v : ℕ) → v < n → layer v ≡ not_met → count < n
  queue_room few v h e = pigeonhole (suc count) n (λ p. placed p (dec_lt p count)) (λ p l. inside p (dec_lt p count)) λ p q l g. differ p q l g (dec_lt p count) (dec_lt q count)
    where
      -- the queue, and then the row v
      placed : (p : ℕ) → Dec (p < count) → ℕ
      placed p (yes l) = queue p
      placed p (no l) = v

      inside : (p : ℕ) (d : Dec (p < count)) → placed p d < n
      inside p (yes l) = Q.rows p l
      inside p (no l) = h

      differ : (p q : ℕ) → p < suc count → q < suc count → (d : Dec (p < count)) (f : Dec (q < count)) → placed p d ≡ placed q f → p ≡ q
      differ p q hp hq (yes l) (yes g) same = queue_injective p q l g same
      differ p q hp hq (yes l) (no g) same = absurd ((queue_met few p l).has_layer (ap layer same ∙ e))
      differ p q hp hq (no l) (yes g) same = absurd ((queue_met few q g).has_layer (ap layer (sym same) ∙ e))
      differ p q hp hq (no l) (no g) same = omega arith

  pub first_layer : layer (queue 0) ≡ 0
  first_layer = omega (arith, Q.small 0 Q.some)

  -- layers are smaller than the number of rows
  pub met_small : (i : ℕ) → IsMet n layer i → layer i < n
  met_small i x = let p = Q.known i x in omega (arith, Q.small p.0 p.1, ap layer p.2, queue_most)

-- the start

module _ {k n : ℕ} {entry : ℕ → ℕ → ℕ} {layer queue : ℕ → ℕ} where
  pub turn_start : queue 0 < n → layer (queue 0) ≡ 0 → ((i : ℕ) → IsMet n layer i → i ≡ queue 0) → QueueTurn k n entry layer queue 1 0 0
  turn_start h e only = record {
    is_queue = record {
      some = omega arith;
      rows = λ p g. rw (first p g) h;
      small = λ p g. omega (arith, ap (λ x. layer (queue x)) (first p g));
      distinct = λ p q g l. absurd (omega arith);
      known = λ i x. (0, omega arith, sym (only i x));
      rising = λ p q g l. omega (arith, ap (λ x. layer (queue x)) (first q l), ap (λ x. layer (queue x)) (first p (omega arith)));
    };
    within = λ g p l. omega (arith, ap (λ x. layer (queue x)) (first p l));
    from = λ p g l. absurd (omega arith);
    done_met = λ p b g l q. absurd (none q);
    done_layer = λ p b g l q. absurd (none q);
  }
    where
      first : (p : ℕ) → p < 1 → p ≡ 0
      first p g = omega arith

      none : {p b : ℕ} → Before p b 0 0 → ⊥
      none (inl g) = omega arith
      none (inr q) = omega (arith, q.1)

module _ {k n : ℕ} {entry : ℕ → ℕ → ℕ} {layer queue : ℕ → ℕ} {count head a : ℕ} (few : n ≤ most_rows)
    (t : QueueTurn k n entry layer queue count head a) where
  -- a row is done

  pub turn_row : k ≤ a → QueueTurn k n entry layer queue count (head + 1) 0
  turn_row e = record {
    is_queue = t.is_queue;
    within = λ h p g. omega (arith, t.within (omega arith) p g, t.is_queue.rising head (head + 1) (omega arith) h);
    from = t.from;
    done_met = λ p b g l q. t.done_met p b g l (back l (before-row-end l (rw add-one at q)));
    done_layer = λ p b g l q. t.done_layer p b g l (back l (before-row-end l (rw add-one at q)));
  }
    where
      back : {p b : ℕ} → b < k → Before p b head k → Before p b head a
      back l (inl h) = inl h
      back l (inr q) = inr (q.0, omega arith)

  -- the places before the next one: those before this one, and this one
  split : {p b : ℕ} → Before p b head (a + 1) → Before p b head a ⊎ ((p ≡ head) × (b ≡ a))
  split q = before_extend (rw add-one at q)

  -- an entry leads to no row, or to one that is met
  pub turn_old : head < count → (entry (queue head) a ≢ no_state → IsMet n layer (entry (queue head) a)) → QueueTurn k n entry layer queue count head (a + 1)
  turn_old in_queue met = record {
    is_queue = t.is_queue;
    within = t.within;
    from = t.from;
    done_met = λ p b g l q. is_met p b g l (split q);
    done_layer = λ p b g l q. has_layer p b g l (split q);
  }
    where
      is_met : (p b : ℕ) → p < count → b < k → Before p b head a ⊎ ((p ≡ head) × (b ≡ a)) → entry (queue p) b ≢ no_state → IsMet n layer (entry (queue p) b)
      is_met p b g l (inl q) ne = t.done_met p b g l q ne
      is_met p b g l (inr q) ne = rw (q.0, q.1) (met (rw (q.0, q.1) at ne))

      next_most : (i : ℕ) → IsMet n layer i → layer i ≤ suc (layer (queue head))
      next_most i x = let p = t.is_queue.known i x in omega (arith, t.within in_queue p.0 p.1, ap layer p.2)

      has_layer : (p b : ℕ) → p < count → b < k → Before p b head a ⊎ ((p ≡ head) × (b ≡ a)) → entry (queue p) b ≢ no_state
          → layer (entry (queue p) b) ≤ suc (layer (queue p))
      has_layer p b g l (inl q) ne = t.done_layer p b g l q ne
      has_layer p b g l (inr q) ne = rw (q.0, q.1) (next_most (entry (queue head) a) (met (rw (q.0, q.1) at ne)))

  -- an entry leads to a new row
  module _ {layer' queue' : ℕ → ℕ} {v : ℕ} (in_queue : head < count) (is_letter : a < k) (leads : entry (queue head) a ≡ v) (some_state : v ≢ no_state)
      (is_row : v < n) (unmet : layer v ≡ not_met) (m : IsMore layer layer' queue queue' count head v) where
    Q : IsQueue n layer queue count
    Q = t.is_queue

    -- what was met is another row, and stays as it was
    other : (i : ℕ) → IsMet n layer i → i ≢ v
    other i x e = x.has_layer (ap layer e ∙ unmet)

    same : (i : ℕ) → IsMet n layer i → layer' i ≡ layer i
    same i x = m.old_layers i (other i x)

    stays : (i : ℕ) → IsMet n layer i → IsMet n layer' i
    stays i x = record { is_row = x.is_row; has_layer = λ e. x.has_layer (sym (same i x) ∙ e) }

    same_place : (p : ℕ) → p < count → layer' (queue' p) ≡ layer (queue p)
    same_place p h = ap layer' (m.old_rows p h) ∙ same (queue p) (queue_met Q few p h)

    head_layer : layer (queue head) < count
    head_layer = omega (arith, Q.small head in_queue)

    new_place : layer' (queue' count) ≡ suc (layer (queue head))
    new_place = ap layer' m.new_row ∙ m.new_layer

    new_met : IsMet n layer' v
    new_met = record { is_row = is_row; has_layer = omega (arith, m.new_layer, head_layer, queue_most Q) }

    from_more : (p : ℕ) → p < count → 0 < p → MetFrom k entry (IsMet n layer') layer' (queue' p)
    from_more p h pos = rw (m.old_rows p h) (let f = t.from p pos h in record {
      row = f.row;
      letter = f.letter;
      met = stays f.row f.met;
      has_entry = f.has_entry;
      leads = f.leads;
      next_layer = same (queue p) (queue_met Q few p h) ∙ f.next_layer ∙ ap suc (sym (same f.row f.met));
    })

    from_new : 0 < count → MetFrom k entry (IsMet n layer') layer' (queue' count)
    from_new pos = rw m.new_row (record {
      row = queue head;
      letter = a;
      met = stays (queue head) (queue_met Q few head in_queue);
      has_entry = record { is_letter = is_letter; some_entry = rw leads some_state };
      leads = leads;
      next_layer = m.new_layer ∙ ap suc (sym (same (queue head) (queue_met Q few head in_queue)));
    })

    queue_more : IsQueue n layer' queue' (count + 1)
    queue_more = record {
      some = omega arith;
      rows = below_more (λ p. queue' p < n) count (λ p h. rw (m.old_rows p h) (Q.rows p h)) (rw m.new_row is_row);
      small = below_more (λ p. layer' (queue' p) ≤ p) count (λ p h. rw (same_place p h) (Q.small p h)) (omega (arith, new_place, head_layer));
      distinct = λ p q h g. below_more (λ q. p < q → queue' p ≢ queue' q) count (λ q l h e. Q.distinct p q h l (sym (m.old_rows p (omega arith)) ∙ e ∙ m.old_rows q l))
          (λ h e. other (queue p) (queue_met Q few p h) (sym (m.old_rows p h) ∙ e ∙ m.new_row)) q g h;
      known = known;
      rising = λ p q h g. below_more (λ q. p ≤ q → layer' (queue' p) ≤ layer' (queue' q)) count
          (λ q l h. omega (arith, same_place p (omega arith), same_place q l, Q.rising p q h l)) (last p) q g h;
    }
      where
        known : (i : ℕ) → IsMet n layer' i → (p : ℕ) × (p < count + 1) × (queue' p ≡ i)
        known i x = go (ℕ_discrete i v)
          where
            go : Dec (i ≡ v) → (p : ℕ) × (p < count + 1) × (queue' p ≡ i)
            go (yes e) = (count, omega arith, m.new_row ∙ sym e)
            go (no ne) =
                let p = Q.known i (record { is_row = x.is_row; has_layer = λ e. x.has_layer (m.old_layers i ne ∙ e) }) in
                (p.0, omega (arith, p.1), m.old_rows p.0 p.1 ∙ p.2)

        last : (p : ℕ) → p ≤ count → layer' (queue' p) ≤ layer' (queue' count)
        last p h = below_more (λ p. layer' (queue' p) ≤ layer' (queue' count)) count (λ p l. omega (arith, same_place p l, new_place, t.within in_queue p l)) (omega arith) p (omega arith)

    pub turn_new : QueueTurn k n entry layer' queue' (count + 1) head (a + 1)
    turn_new = record {
      is_queue = queue_more;
      within = λ h. below_more (λ p. layer' (queue' p) ≤ suc (layer' (queue' head))) count (λ p l. omega (arith, same_place p l, same_place head in_queue, t.within in_queue p l))
          (omega (arith, new_place, same_place head in_queue));
      from = λ p pos h. below_more (λ p. 0 < p → MetFrom k entry (IsMet n layer') layer' (queue' p)) count from_more from_new p h pos;
      done_met = λ p b g l q. is_met p b g l (split q);
      done_layer = λ p b g l q. has_layer p b g l (split q);
    }
      where
        -- a place that was looked at is an old one
        old_place : {p b : ℕ} → Before p b head a ⊎ ((p ≡ head) × (b ≡ a)) → p < count
        old_place (inl (inl h)) = omega arith
        old_place (inl (inr q)) = omega (arith, q.0)
        old_place (inr q) = omega (arith, q.0)

        is_met : (p b : ℕ) → p < count + 1 → b < k → Before p b head a ⊎ ((p ≡ head) × (b ≡ a)) → entry (queue' p) b ≢ no_state → IsMet n layer' (entry (queue' p) b)
        is_met p b g l q = rw (m.old_rows p (old_place q)) (go q)
          where
            go : Before p b head a ⊎ ((p ≡ head) × (b ≡ a)) → entry (queue p) b ≢ no_state → IsMet n layer' (entry (queue p) b)
            go (inl x) ne = stays (entry (queue p) b) (t.done_met p b (old_place q) l x ne)
            go (inr x) ne = rw (x.0, x.1, leads) new_met

        has_layer : (p b : ℕ) → p < count + 1 → b < k → Before p b head a ⊎ ((p ≡ head) × (b ≡ a)) → entry (queue' p) b ≢ no_state
            → layer' (entry (queue' p) b) ≤ suc (layer' (queue' p))
        has_layer p b g l q = rw (same_place p (old_place q), m.old_rows p (old_place q)) (go q)
          where
            go : Before p b head a ⊎ ((p ≡ head) × (b ≡ a)) → entry (queue p) b ≢ no_state → layer' (entry (queue p) b) ≤ suc (layer (queue p))
            go (inl x) ne = rw (same (entry (queue p) b) (t.done_met p b (old_place q) l x ne)) (t.done_layer p b (old_place q) l x ne)
            go (inr x) ne = rw (x.0, x.1, leads) (omega (arith, m.new_layer))

  -- all rows are done

  pub turn_end : count ≤ head → IsLayers k entry (queue 0) (IsMet n layer) layer
  turn_end over = record {
    start_met = queue_met t.is_queue few 0 t.is_queue.some;
    start_layer = first_layer t.is_queue;
    along_met = λ i a x e. let p = t.is_queue.known i x in
        subst (λ j. entry j a ≢ no_state → IsMet n layer (entry j a)) p.2 (t.done_met p.0 a p.1 e.is_letter (inl (omega (arith, p.1)))) e.some_entry;
    along_layer = λ i a x e. let p = t.is_queue.known i x in
        subst (λ j. entry j a ≢ no_state → layer (entry j a) ≤ suc (layer j)) p.2 (t.done_layer p.0 a p.1 e.is_letter (inl (omega (arith, p.1)))) e.some_entry;
    met_from = λ i x ne. let p = t.is_queue.known i x in
        subst (MetFrom k entry (IsMet n layer) layer) p.2 (t.from p.0 (later p.0 λ e. ne (sym p.2 ∙ ap queue e)) p.1);
  }
    where
      later : (p : ℕ) → p ≢ 0 → 0 < p
      later p ne = omega arith
