-- The steps of the loop that numbers classes: its start, an entry that meets no new class, one that meets a new class, the end of a
-- row; and the end of the loop, where the numbering is complete.
use mathlib.Core.Path.{◌≡◌, refl, ap, sym, ◌∙◌}
use mathlib.Core.Logic.{◌⊎◌, inl, inr, ◌≢◌}
use mathlib.Core.Bool.{Bool}
use Prim.Native.Nat.{ℕ, suc, ◌<◌, ◌≤◌}
use native.Mathlib.Omega.{arith}
use native.Mathlib.Decide.{ℕ_discrete}
use lib.Dec.{T}
use Rattle.automaton.specs.Table.{no_state, Before, FirstMet, IsFlag}
use Rattle.automaton.specs.Graph.{Graph, Member, IsNodeEntry, IsNumbering}
use Rattle.automaton.specs.Numbering.{IsPut, IsFilling}
use Rattle.automaton.proofs.Pigeonhole.{pigeonhole}
use Rattle.automaton.proofs.Places.{before_extend, before-later, before_trans, before-row-end, before-row-start}

-- a first place stays one when a later place is filled
first-met-put : {k : ℕ} {entry entry' : ℕ → ℕ → ℕ} {i a v j : ℕ} → IsPut k entry entry' i a v
    → (m : FirstMet k entry j) → Before m.state m.letter i a → (m' : FirstMet k entry' j) × Before m'.state m'.letter i (suc a)
first-met-put p m h = (
  record {
    state = m.state;
    letter = m.letter;
    earlier_state = m.earlier_state;
    is_letter = m.is_letter;
    holds = p.earlier m.state m.letter m.is_letter h ∙ m.holds;
    before = λ c b hb e. rw (p.earlier c b hb (before_trans e h)) (m.before c b hb e);
  },
  before-later h,
)

pub filling_start : {G : Graph} {live : ℕ → Bool} {class : ℕ → ℕ} {s₀ : ℕ} {node : ℕ → ℕ} {entry : ℕ → ℕ → ℕ}
    → node 0 ≡ s₀ → Member G live s₀ → IsFilling G live class s₀ 1 0 0 node entry
filling_start e m = record {
  some_state = omega arith;
  within = omega arith;
  start = e;
  lives = λ j h. let q : j ≡ 0 = omega arith in rw (q, e) m;
  distinct = λ j l hj hl c. omega arith;
  entries = λ j b h. absurd (none j b h);
  first_met = λ j h g. absurd (omega arith);
}
  where
    none : (j b : ℕ) → Before j b 0 0 → ⊥
    none j b (inl h) = omega arith
    none j b (inr p) = omega (arith, p.1)

module _ {G : Graph} {live : ℕ → Bool} {class : ℕ → ℕ} {s₀ m i a : ℕ} {node : ℕ → ℕ} {entry : ℕ → ℕ → ℕ}
    (I : IsFilling G live class s₀ m i a node entry) where
  -- there are no more states than nodes
  pub filling-size : m ≤ G.nodes
  filling-size = pigeonhole m G.nodes node (λ j h. (I.lives j h).inside) λ j l hj hl e. I.distinct j l hj hl (ap class e)

  pub filling-row : a ≡ G.letters → i < m → IsFilling G live class s₀ m (suc i) 0 node entry
  filling-row e h = record {
    some_state = I.some_state;
    within = h;
    start = I.start;
    lives = I.lives;
    distinct = I.distinct;
    entries = λ j b p hj hb. I.entries j b (rw e (before-row-end hb p)) hj hb;
    first_met = λ j hj g. ((I.first_met j hj g).0, before-row-start (I.first_met j hj g).1);
  }

  pub filling-entry : (entry' : ℕ → ℕ → ℕ) (v : ℕ) → IsPut G.letters entry entry' i a v
      → IsNodeEntry G live class m node (G.successor (node i) a) v → IsFilling G live class s₀ m i (suc a) node entry'
  filling-entry entry' v p x = record {
    some_state = I.some_state;
    within = I.within;
    start = I.start;
    lives = I.lives;
    distinct = I.distinct;
    entries = λ j b h hj hb. go j b hj hb (before_extend h);
    first_met = λ j hj g. first-met-put p (I.first_met j hj g).0 (I.first_met j hj g).1;
  }
    where
      go : (j b : ℕ) → j < m → b < G.letters → Before j b i a ⊎ ((j ≡ i) × (b ≡ a))
          → IsNodeEntry G live class m node (G.successor (node j) b) (entry' j b)
      go j b hj hb (inl h) = rw (p.earlier j b hb h) (I.entries j b h hj hb)
      go j b hj hb (inr q) = rw (q.0, q.1, p.here) x

  pub filling-new : (entry' : ℕ → ℕ → ℕ) (node' : ℕ → ℕ) → a < G.letters → i < m → IsPut G.letters entry entry' i a m
      → Member G live (G.successor (node i) a) → ((j : ℕ) → j < m → class (G.successor (node i) a) ≢ class (node j))
      → node' m ≡ G.successor (node i) a → ((j : ℕ) → j < m → node' j ≡ node j) → IsFilling G live class s₀ (suc m) i (suc a) node' entry'
  filling-new entry' node' ha hi p al ne e same = record {
    some_state = omega arith;
    within = omega arith;
    start = same 0 I.some_state ∙ I.start;
    lives = λ j hj. lives j hj (ℕ_discrete j m);
    distinct = λ j l hj hl. distinct j l hj hl (ℕ_discrete j m) (ℕ_discrete l m);
    entries = λ j b h hj hb. entries j b hb (before_extend h);
    first_met = λ j hj g. first_met j hj g (ℕ_discrete j m);
  }
    where
      new-class : {j : ℕ} → j ≡ m → class (node' j) ≡ class (G.successor (node i) a)
      new-class q = ap class (ap node' q ∙ e)

      old-class : {j : ℕ} → j < m → class (node' j) ≡ class (node j)
      old-class {j} h = ap class (same j h)

      lives : (j : ℕ) → j < suc m → Dec (j ≡ m) → Member G live (node' j)
      lives j hj (yes q) = rw (q, e) al
      lives j hj (no q) = rw (same j (omega arith)) (I.lives j (omega arith))

      distinct : (j l : ℕ) → j < suc m → l < suc m → Dec (j ≡ m) → Dec (l ≡ m) → class (node' j) ≡ class (node' l) → j ≡ l
      distinct j l hj hl (yes q) (yes q') c = omega arith
      distinct j l hj hl (yes q) (no q') c = absurd (ne l (omega arith) (sym (new-class q) ∙ (c ∙ old-class (omega arith))))
      distinct j l hj hl (no q) (yes q') c = absurd (ne j (omega arith) (sym (new-class q') ∙ (sym c ∙ old-class (omega arith))))
      distinct j l hj hl (no q) (no q') c =
          I.distinct j l (omega arith) (omega arith) (sym (old-class (omega arith)) ∙ (c ∙ old-class (omega arith)))

      old-state : {j b : ℕ} → Before j b i a → j < m
      old-state (inl h) = omega arith
      old-state (inr q) = omega (arith, q.0)

      old-entry : {u v : ℕ} → IsNodeEntry G live class m node u v → IsNodeEntry G live class (suc m) node' u v
      old-entry (inl x) = inl x
      old-entry (inr x) = inr (omega (arith, x.0), x.1, x.2 ∙ sym (old-class x.0))

      entries : (j b : ℕ) → b < G.letters → Before j b i a ⊎ ((j ≡ i) × (b ≡ a))
          → IsNodeEntry G live class (suc m) node' (G.successor (node' j) b) (entry' j b)
      entries j b hb (inl h) = rw (p.earlier j b hb h, same j (old-state h)) (old-entry (I.entries j b h (old-state h) hb))
      entries j b hb (inr q) = rw (q.0, q.1, p.here, same i hi) (inr (omega arith, al, sym (ap class e)))

      before-new : (c b : ℕ) → b < G.letters → Before c b i a → entry' c b ≢ no_state → entry' c b < m
      before-new c b hb h = rw (p.earlier c b hb h) (small (I.entries c b h (old-state h) hb))
        where
          small : {u v : ℕ} → IsNodeEntry G live class m node u v → v ≢ no_state → v < m
          small (inl x) g = absurd (g x.0)
          small (inr x) g = x.0

      first_met : (j : ℕ) → 0 < j → j < suc m → Dec (j ≡ m) → (f : FirstMet G.letters entry' j) × Before f.state f.letter i (suc a)
      first_met j hj g (no q) = let f = I.first_met j hj (omega arith) in first-met-put p f.0 f.1
      first_met j hj g (yes q) = (
        record {
          state = i;
          letter = a;
          earlier_state = omega arith;
          is_letter = ha;
          holds = p.here ∙ sym q;
          before = λ c b hb h ng. omega (arith, before-new c b hb h ng);
        },
        inr (refl, omega arith),
      )

-- all rows are filled
module _ {G : Graph} {live final : ℕ → Bool} {class : ℕ → ℕ} {s₀ n : ℕ} {node : ℕ → ℕ} {entry : ℕ → ℕ → ℕ} {byte : ℕ → ℕ} where
  pub filling_numbering : n ≤ no_state → IsFilling G live class s₀ n n 0 node entry → ((i : ℕ) → i < n → IsFlag (T (final (node i))) (byte i))
      → IsNumbering G live final class s₀ n node entry byte
  filling_numbering h I f = record {
    room = h;
    some_state = I.some_state;
    start = I.start;
    lives = I.lives;
    distinct = I.distinct;
    first_met = λ j hj g. (I.first_met j hj g).0;
    entries = λ i a hi ha. I.entries i a (inl hi) hi ha;
    finals = f;
  }
