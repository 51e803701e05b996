-- The operators by their kinds: from a result for operands that were held to the definition.
use Prim.Native.Nat.{ℕ, suc, ◌-◌, ◌≤◌, ◌<◌}
use native.Mathlib.Omega.{arith}
use native.Mathlib.Decide.{ℕ_discrete}
use mathlib.Core.Path.{◌≡◌, sym, ◌∙◌, ap}
use mathlib.Core.Bool.{Bool, true, false}
use lib.IntN.{ℤ, nat_abs}
use lib.ListN.{get_or, get_or-eq_default}
use borrow.Author.Tests.{leb-true, le-leb, lt-leb, lt-ltb, le-ltb}
use mir.Syntax.{w64}
use mir.Val.{SFits}
use mir.ValLaws.{to_z-of_z}
use Rattle.meaning.specs.Arithmetic.{Operator, floored_remainder, apply_numbers}
use Rattle.nodes.specs.Bounded.{in_bound, Small, no_value, bounded, evaluated, operators_by_kind, operator_at, applied_by_kind}
use Rattle.arithmetic.specs.Coded.{coded}
use Rattle.arithmetic.proofs.Machine.{held, held_both}

-- What an operator gives of two numbers, as one number.
abbrev pub coded_apply : Operator → ℤ → ℤ → ℤ
coded_apply o a b = coded (evaluated (apply_numbers o a b))

pub applied_kind : {k : ℕ} {a b r : ℤ} → SFits w64 a → SFits w64 b → SFits w64 r → (n : ℕ) → k ≡ n → r ≡ coded_apply (operator_at n) (held a) (held b)
    → held r ≡ coded_apply (operator_at k) a b
applied_kind {k} {a} {b} {r} fa fb fr n e h =
    to_z-of_z w64 r fr ∙ h ∙ held_both (coded_apply (operator_at n)) a b fa fb ∙ ap (λ i. coded_apply (operator_at i) a b) (sym e)

-- A kind that is none of the first ones is a later one.
pub later : {n k : ℕ} → n ≤ k → (k ≡ n → ⊥) → suc n ≤ k
later h e = omega arith

pub operator_at-last : (k : ℕ) → 21 ≤ k → operator_at k ≡ floored_remainder
operator_at-last k h = by (ℕ_discrete (k - 7) 14)
  where
    by : Dec (k - 7 ≡ 14) → operator_at k ≡ floored_remainder
    by (yes e) = ap (λ i. get_or operators_by_kind i floored_remainder) e
    by (no e) = get_or-eq_default operators_by_kind floored_remainder {n = k - 7} (omega arith)

pub applied_last : {k : ℕ} {a b r : ℤ} → SFits w64 a → SFits w64 b → SFits w64 r → 21 ≤ k → r ≡ coded_apply floored_remainder (held a) (held b) → held r ≡ coded_apply (operator_at k) a b
applied_last {k} {a} {b} {r} fa fb fr l h =
    to_z-of_z w64 r fr ∙ h ∙ held_both (coded_apply floored_remainder) a b fa fb ∙ ap (λ o. coded_apply o a b) (sym (operator_at-last k l))

-- ---- operands within the bound

pub in_bound-Small : (z : ℤ) → in_bound z ≡ true → Small z
in_bound-Small z e = leb-true (nat_abs z) 1000000000 e

module _ (z : ℤ) (f : SFits w64 z) where
  pub bounded_yes : in_bound (held z) ≡ true → record { ok = true; value = held z } ≡ bounded z
  bounded_yes h = let e : in_bound z ≡ true = rw (to_z-of_z w64 z f) at h in rw (to_z-of_z w64 z f) (simp e)

  pub bounded_no : in_bound (held z) ≡ false → no_value ≡ bounded z
  bounded_no h = let e : in_bound z ≡ false = rw (to_z-of_z w64 z f) at h in simp e

-- A test of a number that was held, as a branch leaves it.
pub held_test : (z : ℤ) → SFits w64 z → {r t : Bool} → r ≡ in_bound (held z) → r ≡ t → in_bound z ≡ t
held_test z f e h = ap in_bound (sym (to_z-of_z w64 z f)) ∙ sym e ∙ h

pub held-Small : (z : ℤ) → SFits w64 z → in_bound z ≡ true → Small (held z)
held-Small z f e = rw (to_z-of_z w64 z f) (in_bound-Small z e)

-- What `apply` answers, by its tests.
module _ (k : ℕ) (a b : ℤ) where
  pub by_kind-low : k < 7 → no_value ≡ applied_by_kind k a b
  by_kind-low h = simp (lt-leb 7 k h)

  pub by_kind-high : 7 ≤ k → 21 < k → no_value ≡ applied_by_kind k a b
  by_kind-high l h = simp (le-leb 7 k l, le-ltb k 22 h)

  module _ (l : 7 ≤ k) (h : k ≤ 21) where
    pub by_kind-bounded : SFits w64 a → SFits w64 b → in_bound a ≡ true → in_bound b ≡ true
        → evaluated (apply_numbers (operator_at k) (held a) (held b)) ≡ applied_by_kind k a b
    by_kind-bounded fa fb p q =
        held_both (λ x y. evaluated (apply_numbers (operator_at k) x y)) a b fa fb ∙ sym (simp (le-leb 7 k l, lt-ltb k 22 (omega arith), p, q))

    pub by_kind-left : in_bound a ≡ false → no_value ≡ applied_by_kind k a b
    by_kind-left p = simp (le-leb 7 k l, lt-ltb k 22 (omega arith), p)

    pub by_kind-right : in_bound a ≡ true → in_bound b ≡ false → no_value ≡ applied_by_kind k a b
    by_kind-right p q = simp (le-leb 7 k l, lt-ltb k 22 (omega arith), p, q)
