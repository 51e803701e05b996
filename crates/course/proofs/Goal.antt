-- The least layer of a final row is the goal; where there is none, no final row is met. From the laws of the queue.
use mathlib.Core.Path.{◌≡◌, sym, ◌∙◌}
use mathlib.Core.Logic.{◌⊎◌, inl, inr, ◌≢◌}
use Prim.Native.Nat.{ℕ, ◌<◌, ◌≤◌}
use native.Mathlib.Omega.{arith}
use Rattle.automaton.specs.WellFormed.{most_rows}
use Rattle.automaton.specs.Layers.{IsGoal}
use Rattle.course_tests.specs.Goal.{not_met}
use Rattle.course.specs.Queue.{IsMet, IsQueue}
use Rattle.course_tests.specs.Goal.{IsGoalBelow}
use Rattle.course.proofs.Queue.{met_small}

module _ {n : ℕ} {final layer queue : ℕ → ℕ} {count : ℕ} (Q : IsQueue n layer queue count) (few : n ≤ most_rows) where
  -- no final row is met
  pub goal-none : IsGoalBelow final layer n not_met → (i : ℕ) → IsMet n layer i → final i ≢ 1
  goal-none g i x e = omega (arith, g.least i x.is_row e, met_small Q i x)

  module _ {v : ℕ} (ne : v ≢ not_met) (g : IsGoalBelow final layer n v) where
    pub goal-some : IsGoal final (IsMet n layer) layer v
    goal-some = go g.attained
      where
        go : (v ≡ not_met) ⊎ ((i : ℕ) × (i < n) × (final i ≡ 1) × (layer i ≡ v)) → IsGoal final (IsMet n layer) layer v
        go (inl e) = absurd (ne e)
        go (inr x) = record {
          row = x.0;
          met = record { is_row = x.1; has_layer = λ e. ne (sym x.3 ∙ e) };
          is_final = x.2;
          in_goal = x.3;
          least = λ i m. g.least i m.is_row;
        }

    -- there are more rows than the goal has letters
    pub goal-few : v < most_rows
    goal-few = let x = goal-some in omega (arith, met_small Q x.row x.met, x.in_goal)
