-- Going into a `next`, or into the right side of a `fby`, leads to a part that ends earlier, at another place, with the same value.
use Prim.Native.Nat.{ℕ, ◌+◌, ◌-◌, ◌<◌}
use native.Mathlib.Omega.{arith}
use mathlib.Core.Path.{◌≡◌, refl, ◌∙◌, ap}
use mathlib.Core.List.{List}
use lib.ListN.{get_or}
use Rattle.evaluate.specs.Shift.{SameElsewhere}
use Rattle.evaluate.proofs.Recursion.{next_arm, fby-right_arm}

pub moved_none : {kinds : List ℕ} {count e p : ℕ} → p < count → SameElsewhere kinds count e p e p
moved_none l = record { same_value = λ N W s c. refl; ends_within = omega arith; place_within = l }

module _ {kinds : List ℕ} {count e p d q : ℕ} (m : SameElsewhere kinds count e p d q) (h : d ≡ 0 → ⊥) where
  pub moved-next : get_or kinds (d - 1) 0 ≡ 3 → q + 1 < count → SameElsewhere kinds count e p (d - 1) (q + 1)
  moved-next k l =
      record {
        same_value = λ N W s c. next_arm N W q d h (ap (λ (x : List ℕ). get_or x (d - 1) 0) s ∙ k) c l ∙ m.same_value N W s c;
        ends_within = omega (arith, m.ends_within);
        place_within = l;
      }

  pub moved-fby : get_or kinds (d - 1) 0 ≡ 6 → (q ≡ 0 → ⊥) → SameElsewhere kinds count e p (d - 1) (q - 1)
  moved-fby k z =
      record {
        same_value = λ N W s c. fby-right_arm N W q d h (ap (λ (x : List ℕ). get_or x (d - 1) 0) s ∙ k) z ∙ m.same_value N W s c;
        ends_within = omega (arith, m.ends_within);
        place_within = omega (arith, m.place_within);
      }
