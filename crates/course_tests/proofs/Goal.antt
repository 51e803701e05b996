-- The least layer of a final row, found row by row. From the definition.
use mathlib.Core.Path.{◌≡◌, refl, subst}
use mathlib.Core.Logic.{◌⊎◌, inl, inr}
use mathlib.Core.List.{List}
use Prim.Native.Nat.{ℕ, ◌+◌, ◌<◌, ◌≤◌, min}
use native.Mathlib.Omega.{arith}
use native.Mathlib.Decide.{dec_lt}
use lib.ListN.{length, get_or-eq_default}
use borrow.Author.Count.{below_more}
use Rattle.basics.specs.Lists.{at}
use Rattle.course_tests.specs.Goal.{not_met, IsGoalBelow}

module _ {final layer : ℕ → ℕ} {m v : ℕ} (g : IsGoalBelow final layer m v) where
  -- one more row leaves the least layer as it is
  pub goal-kept : (final m ≡ 1 → v ≤ layer m) → IsGoalBelow final layer (m + 1) v
  goal-kept f = record { least = below_more (λ i. final i ≡ 1 → v ≤ layer i) m g.least f; attained = attained g.attained }
    where
      attained : (v ≡ not_met) ⊎ ((i : ℕ) × (i < m) × (final i ≡ 1) × (layer i ≡ v)) → (v ≡ not_met) ⊎ ((i : ℕ) × (i < m + 1) × (final i ≡ 1) × (layer i ≡ v))
      attained (inl e) = inl e
      attained (inr x) = inr (x.0, omega (arith, x.1), x.2, x.3)

  -- or lowers it
  pub goal-lower : final m ≡ 1 → layer m < v → IsGoalBelow final layer (m + 1) (layer m)
  goal-lower f l = record {
    least = below_more (λ i. final i ≡ 1 → layer m ≤ layer i) m (λ i h e. omega (arith, g.least i h e)) (λ e. omega arith);
    attained = inr (m, omega arith, f, refl);
  }

  -- the smaller of both is the least layer then
  pub goal-least : {w : ℕ} → final m ≡ 1 → w ≡ min v (layer m) → IsGoalBelow final layer (m + 1) w
  goal-least {w} f e = by (dec_lt (layer m) v)
    where
      by : Dec (layer m < v) → IsGoalBelow final layer (m + 1) w
      by (yes l) = let same : layer m ≡ w = omega (arith, e) in subst (IsGoalBelow final layer (m + 1)) same (goal-lower f l)
      by (no l) = let same : v ≡ w = omega (arith, e) in subst (IsGoalBelow final layer (m + 1)) same (goal-kept (λ _. omega arith))

-- rows behind the final bytes are not final
pub goal-beyond : (finals : List ℕ) {layer : ℕ → ℕ} {m v : ℕ} → IsGoalBelow (at finals) layer (min m (length finals)) v → IsGoalBelow (at finals) layer m v
goal-beyond finals {layer} {m} {v} g = record { least = λ i h e. least i h e (dec_lt i (length finals)); attained = attained g.attained }
  where
    least : (i : ℕ) → i < m → at finals i ≡ 1 → Dec (i < length finals) → v ≤ layer i
    least i h e (yes l) = g.least i (omega arith) e
    least i h e (no l) = absurd (omega (arith, get_or-eq_default finals 0 {n = i} (omega arith)))

    attained : (v ≡ not_met) ⊎ ((i : ℕ) × (i < min m (length finals)) × (at finals i ≡ 1) × (layer i ≡ v)) → (v ≡ not_met) ⊎ ((i : ℕ) × (i < m) × (at finals i ≡ 1) × (layer i ≡ v))
    attained (inl e) = inl e
    attained (inr x) = inr (x.0, omega (arith, x.1), x.2, x.3)
