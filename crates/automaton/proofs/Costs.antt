-- Costs that are right at each row and its entries are what the best courses cost, and the way forward by them is the best
-- course.
use mathlib.Core.Path.{◌≡◌, refl}
use mathlib.Core.Logic.{◌⊎◌, inl, inr, ◌≢◌}
use mathlib.Core.List.{List}
use Prim.Native.Nat.{ℕ, zero, suc, ◌+◌, ◌<◌, ◌≤◌}
use native.Mathlib.Omega.{arith}
use native.Mathlib.Decide.{ℕ_discrete}
use lib.ListN.{length}
use Rattle.automaton.specs.Course.{IsCourse, IsBest, IsLeast, IsLeastCost, has_cost, lacks, HasEntry, IsChoice}
use Rattle.automaton.specs.Layers.{IsLayers, IsGoal, Onward, IsCost, goal_final, goal_other, before_some, before_none, IsCosts, IsFirstCheapest, Chosen, chosen_end, chosen_letter}
use Rattle.automaton.proofs.CourseSearch.{final-least, other_none, cost_zero, choice-least, cost_minimum, cost_none}
use Rattle.automaton.proofs.Layers.{goal-course, left-none, least-best}

module _ (changes : ℕ → ℕ → ℕ) (k : ℕ) (entry : ℕ → ℕ → ℕ) (final : ℕ → ℕ) (s : ℕ) (Met : ℕ → Type 0) (layer : ℕ → ℕ) (goal without : ℕ)
    (cost : ℕ → ℕ → ℕ) (L : IsLayers k entry s Met layer) (G : IsGoal final Met layer goal)
    (C : IsCosts changes k entry final Met layer goal without cost) where
  -- what the best course costs after the letter b at the row i: only entries to the next layer go on
  abbrev onward_cost : (i b : ℕ) → Dec (layer (entry i b) ≡ suc (layer i)) → ℕ
  onward_cost i b (yes e) = cost (entry i b) b
  onward_cost i b (no ne) = without

  abbrev cost_after : (i b : ℕ) → ℕ
  cost_after i b = onward_cost i b (ℕ_discrete (layer (entry i b)) (suc (layer i)))

  after-onward : (i b : ℕ) → Onward k entry layer i b → cost_after i b ≡ cost (entry i b) b
  after-onward i b o = go (ℕ_discrete (layer (entry i b)) (suc (layer i)))
    where
      go : (d : Dec (layer (entry i b) ≡ suc (layer i))) → onward_cost i b d ≡ cost (entry i b) b
      go (yes e) = refl
      go (no ne) = absurd (ne o.next_layer)

  -- a cost that is not `without` is that of a letter that leads on
  after-some : (i b : ℕ) → HasEntry k entry i b → cost_after i b ≢ without
      → Onward k entry layer i b × (cost_after i b ≡ cost (entry i b) b) × (cost (entry i b) b ≢ without)
  after-some i b h = go (ℕ_discrete (layer (entry i b)) (suc (layer i)))
    where
      go : (d : Dec (layer (entry i b) ≡ suc (layer i))) → onward_cost i b d ≢ without
          → Onward k entry layer i b × (onward_cost i b d ≡ cost (entry i b) b) × (cost (entry i b) b ≢ without)
      go (yes e) ne = (record { has_entry = h; next_layer = e }, refl, ne)
      go (no n) ne = absurd (ne refl)

  abbrev LeastCost : (first : ℕ → ℕ) (m i v : ℕ) → Type 0
  LeastCost = IsLeastCost changes k entry final without

  costs-after : (m i : ℕ) → Met i → layer i + suc m ≡ goal
      → ((j p : ℕ) → Met j → layer j + m ≡ goal → p < k → LeastCost (changes p) m j (cost j p))
      → (b : ℕ) → HasEntry k entry i b → LeastCost (changes b) m (entry i b) (cost_after i b)
  costs-after m i x e ih b h = go (ℕ_discrete (layer (entry i b)) (suc (layer i)))
    where
      go : (d : Dec (layer (entry i b) ≡ suc (layer i))) → LeastCost (changes b) m (entry i b) (onward_cost i b d)
      go (yes q) = ih (entry i b) b (L.along_met i b x h) (omega arith) h.is_letter
      go (no ne) = lacks (left-none k entry s Met layer L final goal G i b m x h e ne) refl

  -- the cost of a row is what the best course of the letters still needed costs
  pub cost_right : (m i p : ℕ) → Met i → layer i + m ≡ goal → p < k → LeastCost (changes p) m i (cost i p)
  cost_right zero i p x e hp = go (C.costs i p x (omega arith) hp)
    where
      go : IsCost changes k entry final layer goal without cost i p → LeastCost (changes p) 0 i (cost i p)
      go (goal_final l f q) = rw q (cost_zero changes k entry final without (changes p) i C.some_cost f)
      go (goal_other l f q) = lacks (other_none changes k entry final i f) q
      go (before_some l a o n q f h) = absurd (omega arith)
      go (before_none l f q) = absurd (omega arith)
  cost_right (suc m) i p x e hp = go (C.costs i p x (omega arith) hp) (costs-after m i x e λ j b. cost_right m j b)
    where
      go : IsCost changes k entry final layer goal without cost i p
          → ((b : ℕ) → HasEntry k entry i b → LeastCost (changes b) m (entry i b) (cost_after i b)) → LeastCost (changes p) (suc m) i (cost i p)
      go (goal_final l f q) after = absurd (omega arith)
      go (goal_other l f q) after = absurd (omega arith)
      go (before_some l a o n q f h) after =
          let va = after-onward i a o in
          cost_minimum changes k entry final without (changes p) (cost_after i) m i after (cost i p) a o.has_entry (omega (arith, va)) (omega (arith, va))
          (λ b y ne. let z = after-some i b y ne in omega (arith, f b z.0 z.2, z.1)) h
      go (before_none l f q) after = rw q (cost_none changes k entry final without (changes p) (cost_after i) m i after λ b y. all b y (ℕ_discrete (cost_after i b) without))
        where
          all : (b : ℕ) → HasEntry k entry i b → Dec (cost_after i b ≡ without) → cost_after i b ≡ without
          all b y (yes e) = e
          all b y (no ne) = let z = after-some i b y ne in absurd (z.2 (f b z.0))

  -- a course of as many letters as the goal layer goes on from the start
  pub start_cost : (p : ℕ) → p < k → cost s p ≢ without
  start_cost p hp = go (cost_right goal s p L.start_met (omega (arith, L.start_layer)) hp) (goal-course k entry s Met layer L final goal G)
    where
      go : LeastCost (changes p) goal s (cost s p) → (r : List ℕ) × IsCourse k entry final s r × (length r ≡ goal) → cost s p ≢ without
      go (has_cost l e h) x q = absurd (omega arith)
      go (lacks f e) x q = f x.0 x.1 x.2

  cheapest-choice : (first : ℕ → ℕ) (i a : ℕ) → IsFirstCheapest k entry layer without cost first i a → IsChoice k entry without first (cost_after i) i a
  cheapest-choice first i a x = record {
    letter = x.onward.has_entry;
    goes_on = omega (arith, after-onward i a x.onward, x.goes_on);
    least = λ b y ne. let z = after-some i b y ne in go b z.1 (x.least b z.0 z.2);
  }
    where
      go : (b : ℕ) → cost_after i b ≡ cost (entry i b) b
          → (first a + cost (entry i a) a < first b + cost (entry i b) b) ⊎ ((first a + cost (entry i a) a ≡ first b + cost (entry i b) b) × (a ≤ b))
          → (first a + cost_after i a < first b + cost_after i b) ⊎ ((first a + cost_after i a ≡ first b + cost_after i b) × (a ≤ b))
      go b e (inl h) = inl (omega (arith, after-onward i a x.onward))
      go b e (inr h) = inr (omega (arith, after-onward i a x.onward, h.0), h.1)

  -- the way forward is the best of the letters still needed
  pub chosen-least : (first : ℕ → ℕ) (i : ℕ) (r : List ℕ) → Chosen changes k entry final layer goal without cost first i r → Met i
      → (layer i + length r ≡ goal) × IsLeast changes k entry final first (length r) i r
  chosen-least first i r (chosen_end e f) x = (omega arith, final-least changes k entry final first i f)
  chosen-least first i r (chosen_letter {a} {r = q} y c) x =
      let h = y.onward.has_entry in
      let z = chosen-least (changes a) (entry i a) q c (L.along_met i a x h) in
      let n = y.onward.next_layer in
      let e : layer i + suc (length q) ≡ goal = omega (arith, z.0, n) in (
        e,
        choice-least changes k entry final without first (cost_after i) (length q) i
            (costs-after (length q) i x e λ j b. cost_right (length q) j b) a (cheapest-choice first i a y) q z.1,
      )

  -- from the start it is the best course
  pub chosen-best : (r : List ℕ) → Chosen changes k entry final layer goal without cost (λ a. 0) s r → IsBest changes k entry final s r
  chosen-best r c =
      let z = chosen-least (λ a. 0) s r c L.start_met in
      let e : length r ≡ goal = omega (arith, z.0, L.start_layer) in
      least-best k entry s Met layer L final goal G changes r (rw e at z.1)
