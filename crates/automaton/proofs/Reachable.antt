-- The steps of the search for what is reached: its start, an entry that names a row or none, one that names a new row, the end of a row; its
-- end, and where rows run out. At the end the rows hold exactly the reached keys, each once; else more keys than the limit are reached.
use Prim.Native.Nat.{ℕ, ◌+◌, ◌≤◌, ◌<◌}
use native.Mathlib.Omega.{arith}
use native.Mathlib.Decide.{ℕ_discrete}
use mathlib.Core.Path.{◌≡◌, refl, sym, ◌∙◌, ap, subst}
use mathlib.Core.Bool.{Bool, true, false}
use mathlib.Core.Logic.{◌⊎◌, inl, inr, ◌≢◌}
use Rattle.basics.proofs.Count.{InRows, rows_count, rows_more}
use Rattle.basics.specs.Count.{CountOf, MoreThan}
use Rattle.automaton.specs.Table.{no_state, Before, FirstMet}
use Rattle.automaton.specs.Numbering.{IsPut}
use Rattle.automaton.specs.Reachable.{System, Reach, Reach.start, Reach.step, byte_of, IsRow, IsRow.no_row, IsRow.row, KnownKeys, Absent, IsAdded, SearchTurn, SearchedKeys}
use Rattle.automaton.proofs.Places.{before_trans}

-- ---- places

before-next : {i b s a : ℕ} → Before i b s a → Before i b s (a + 1)
before-next (inl h) = inl h
before-next (inr p) = inr (p.0, omega (arith, p.1))

-- the places before the next one: those before this one, and this one
before_split : {i b s a : ℕ} → Before i b s (a + 1) → Before i b s a ⊎ ((i ≡ s) × (b ≡ a))
before_split (inl h) = inl (inl h)
before_split {i} {b} {s} {a} (inr p) = elim (ℕ_discrete b a) [ yes e ↦ inr (p.0, e) | no e ↦ inl (inr (p.0, omega (arith, p.1))) ]

before_le : {i b s a : ℕ} → Before i b s a → i ≤ s
before_le (inl h) = omega arith
before_le (inr p) = omega (arith, p.0)

-- a first place stays one when a later place is filled
met-put : {k : ℕ} {entry entry' : ℕ → ℕ → ℕ} {s a v j : ℕ} → IsPut k entry entry' s a v → (m : FirstMet k entry j) → Before m.state m.letter s a
    → (m' : FirstMet k entry' j) × Before m'.state m'.letter s (a + 1)
met-put p m h = (
  record {
    state = m.state;
    letter = m.letter;
    earlier_state = m.earlier_state;
    is_letter = m.is_letter;
    holds = p.earlier m.state m.letter m.is_letter h ∙ m.holds;
    before = λ c b hb e. rw (p.earlier c b hb (before_trans e h)) (m.before c b hb e);
  },
  before-next h,
)

module _ (S : System) where
  -- ---- the start

  pub known_start : {key : ℕ → S.Key} {byte : ℕ → ℕ} → key 0 ≡ S.start → byte 0 ≡ byte_of S S.start → KnownKeys S key byte 1
  known_start {key} {byte} e f =
      record {
        some_row = omega arith;
        first = e;
        distinct = λ i j h k. absurd (omega arith);
        reached = λ i h. let z : i ≡ 0 = omega arith in subst (λ x. Reach S (key x)) (sym z) (subst (Reach S) (sym e) start);
        flagged = λ i h. let z : i ≡ 0 = omega arith in subst (λ x. byte x ≡ byte_of S (key x)) (sym z) (f ∙ ap (byte_of S) (sym e));
      }

  pub turn_start : {limit : ℕ} {key : ℕ → S.Key} {entry : ℕ → ℕ → ℕ} {byte : ℕ → ℕ} → 0 < limit → KnownKeys S key byte 1 → SearchTurn S limit key entry byte 1 0 0
  turn_start space k = record { known = k; within = omega arith; done = λ i b h q. absurd (none q); order = λ j h k. absurd (omega arith) }
    where
      none : {i b : ℕ} → Before i b 0 0 → ⊥
      none (inl h) = omega arith
      none (inr p) = omega (arith, p.1)

  module _ {limit : ℕ} {key : ℕ → S.Key} {entry : ℕ → ℕ → ℕ} {byte : ℕ → ℕ} {n s a : ℕ} (t : SearchTurn S limit key entry byte n s a) where
    -- ---- a row is done

    pub turn_row : S.letters ≤ a → SearchTurn S limit key entry byte n (s + 1) 0
    turn_row e = record { known = t.known; within = t.within; done = λ i b h q. t.done i b h (back h q); order = λ j h k. let m = t.order j h k in (m.0, on m.1) }
      where
        back : {i b : ℕ} → b < S.letters → Before i b (s + 1) 0 → Before i b s a
        back {i} h (inl l) = elim (ℕ_discrete i s) [ yes q ↦ inr (q, omega arith) | no q ↦ inl (omega arith) ]
        back h (inr p) = absurd (omega (arith, p.1))

        on : {i b : ℕ} → Before i b s a → Before i b (s + 1) 0
        on (inl l) = inl (omega arith)
        on (inr p) = inl (omega (arith, p.0))

    -- ---- all rows are done

    pub turn_end : n ≤ s → SearchedKeys S limit key entry byte false n
    turn_end h = record { known = t.known; within = t.within; first_met = λ j l k. (t.order j l k).0; outcome = λ i b l k. t.done i b k (inl (omega arith)) }

    module _ (in_rows : s < n) (letter : a < S.letters) where
      -- ---- an entry names a row, or none

      pub turn_old : {entry' : ℕ → ℕ → ℕ} {v : ℕ} → IsPut S.letters entry entry' s a v → IsRow S key n (key s) a v → SearchTurn S limit key entry' byte n s (a + 1)
      turn_old {entry'} {v} p r =
          record { known = t.known; within = t.within; done = λ i b h q. by i b h (before_split q); order = λ j h k. let m = t.order j h k in met-put p m.0 m.1 }
        where
          by : (i b : ℕ) → b < S.letters → Before i b s a ⊎ ((i ≡ s) × (b ≡ a)) → IsRow S key n (key i) b (entry' i b)
          by i b h (inl q) = subst (IsRow S key n (key i) b) (sym (p.earlier i b h q)) (t.done i b h q)
          by i b h (inr q) = rw (q.0, q.1, p.here) r

      -- ---- there is a successor that no row holds

      module _ (goes : S.ok (key s) a ≡ true) (absent : Absent S key n (S.after (key s) a)) where
        -- Rows have run out.
        pub turn-full : n ≡ limit → SearchedKeys S limit key entry byte true n
        turn-full e =
            record {
              known = t.known;
              within = t.within;
              first_met = λ j l k. (t.order j l k).0;
              outcome = record { full = e; other = S.after (key s) a; reached = step a letter (t.known.reached s in_rows) goes; new = absent };
            }

        -- A new row is added, and the entry names it.
        module _ (space : n < limit) {key' : ℕ → S.Key} {entry' : ℕ → ℕ → ℕ} {byte' : ℕ → ℕ} (add : IsAdded S key key' byte byte' n (S.after (key s) a))
            (p : IsPut S.letters entry entry' s a n) where
          known_more : KnownKeys S key' byte' (n + 1)
          known_more =
              record {
                some_row = omega arith;
                first = add.old 0 t.known.some_row ∙ t.known.first;
                distinct = λ i j h h'. elim (ℕ_discrete j n) [
                  | yes q ↦ λ e. absent i (omega arith) (sym (add.old i (omega arith)) ∙ e ∙ ap key' q ∙ add.new)
                  | no q ↦ λ e. t.known.distinct i j h (omega arith) (sym (add.old i (omega arith)) ∙ e ∙ add.old j (omega arith))
                ];
                reached = λ i h. elim (ℕ_discrete i n) [
                  | yes q ↦ subst (Reach S) (sym (ap key' q ∙ add.new)) (step a letter (t.known.reached s in_rows) goes)
                  | no q ↦ subst (Reach S) (sym (add.old i (omega arith))) (t.known.reached i (omega arith))
                ];
                flagged = λ i h. elim (ℕ_discrete i n) [
                  | yes q ↦ ap byte' q ∙ add.new_byte ∙ ap (byte_of S) (sym (ap key' q ∙ add.new))
                  | no q ↦ add.old_byte i (omega arith) ∙ t.known.flagged i (omega arith) ∙ ap (byte_of S) (sym (add.old i (omega arith)))
                ];
              }

          row_more : {x : S.Key} {b v : ℕ} → IsRow S key n x b v → IsRow S key' (n + 1) x b v
          row_more (no_row e f) = no_row e f
          row_more {v = v} (row h g e) = row (omega arith) g (add.old v h ∙ e)

          done_more : (i b : ℕ) → b < S.letters → Before i b s a ⊎ ((i ≡ s) × (b ≡ a)) → IsRow S key' (n + 1) (key' i) b (entry' i b)
          done_more i b h (inl q) =
              subst (λ x. IsRow S key' (n + 1) x b (entry' i b)) (sym (add.old i (omega (arith, before_le q))))
              (subst (IsRow S key' (n + 1) (key i) b) (sym (p.earlier i b h q)) (row_more (t.done i b h q)))
          done_more i b h (inr q) = rw (q.0, q.1, p.here, add.old s in_rows) (row (omega arith) goes add.new)

          -- every place before this one holds an old row, or none
          below_new : (i b : ℕ) → b < S.letters → Before i b s a → entry' i b ≢ no_state → entry' i b < n
          below_new i b h q = subst (λ v. v ≢ no_state → v < n) (sym (p.earlier i b h q)) (by (t.done i b h q))
            where
              by : {x : S.Key} {v : ℕ} → IsRow S key n x b v → v ≢ no_state → v < n
              by (no_row e f) g = absurd (g e)
              by (row l f e) g = l

          met-more : (j : ℕ) → 0 < j → j < n + 1 → (m : FirstMet S.letters entry' j) × Before m.state m.letter s (a + 1)
          met-more j h k =
              elim (ℕ_discrete j n) [
                | yes q ↦ (
                  record {
                    state = s;
                    letter = a;
                    earlier_state = omega (arith, q, in_rows);
                    is_letter = letter;
                    holds = p.here ∙ sym q;
                    before = λ i b z d e. omega (arith, q, below_new i b z d e);
                  },
                  inr (refl, omega arith),
                )
                | no q ↦ let m = t.order j h (omega arith) in met-put p m.0 m.1
              ]

          pub turn_new : SearchTurn S limit key' entry' byte' (n + 1) s (a + 1)
          turn_new = record { known = known_more; within = omega arith; done = λ i b h q. done_more i b h (before_split q); order = met-more }

  -- ---- what the search has found

  known-rows : {key : ℕ → S.Key} {byte : ℕ → ℕ} {n : ℕ} → KnownKeys S key byte n → InRows (Reach S) key n
  known-rows k = record { distinct = k.distinct; holds = k.reached }

  module _ {limit : ℕ} {key : ℕ → S.Key} {entry : ℕ → ℕ → ℕ} {byte : ℕ → ℕ} {n : ℕ} where
    -- Every reached key has a row.
    pub reached-row : SearchedKeys S limit key entry byte false n → {x : S.Key} → Reach S x → (i : ℕ) × (i < n) × (key i ≡ x)
    reached-row z start = (0, z.known.some_row, z.known.first)
    reached-row z (step {x} a l h g) = let o = reached-row z h in by o.2 (z.outcome o.0 a o.1 l)
      where
        by : {i v : ℕ} → key i ≡ x → IsRow S key n (key i) a v → (j : ℕ) × (j < n) × (key j ≡ S.after x a)
        by e (no_row q f) = let y : ◌≡◌ {A = Bool} true false = sym g ∙ ap (λ k. S.ok k a) (sym e) ∙ f in let u : ◌≡◌ {A = ℕ} 0 1 = cc in absurd (omega arith)
        by {v = v} e (row h f q) = (v, h, q ∙ ap (λ k. S.after k a) e)

    -- The rows hold exactly the reached keys, each once: n is their number.
    pub searched-count : SearchedKeys S limit key entry byte false n → CountOf (Reach S) n
    searched-count z = rows_count (known-rows z.known) (λ x h. reached-row z h)

    -- Where rows run out, more keys than the limit are reached.
    pub searched-more : SearchedKeys S limit key entry byte true n → MoreThan (Reach S) limit
    searched-more z = subst (MoreThan (Reach S)) z.outcome.full (rows_more (known-rows z.known) z.outcome.other z.outcome.reached z.outcome.new)
