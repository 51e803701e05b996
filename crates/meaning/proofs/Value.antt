-- What the tests of values say: a number is true exactly if it is not 0; the six comparisons are those of the integers; `->` is an implication;
-- no sign holds where a side has none, and an operator gives none where a part has none; values are the same in an added entry exactly if they are
-- equal.
use Prim.Native.Nat.{zero, suc}
use mathlib.Core.Path.{◌≡◌, refl, sym, ap, subst}
use mathlib.Core.Bool.{Bool, true, false, not, ◌||◌}
use mathlib.Core.HLevel.{Discrete}
use mathlib.Core.Logic.{◌↔◌, ◌≢◌}
use lib.Dec.{T, T_not, not_T}
use lib.IntN.{ℤ, pos, negsuc, ℤ_discrete}
use lib.Signed.{le_z, ◌≤ℤ◌, ◌<ℤ◌, le_z_yes, lt_z_yes, ≤ℤ_refl}
use Rattle.basics.proofs.Tests.{T_and}
use Rattle.meaning.specs.Value.{Value, absent, number, nonzero, Comparison, less, at_most, equal, at_least, greater, different, compares, same_value}
use Rattle.meaning.specs.Arithmetic.{Operator, apply}
use Rattle.meaning.specs.Expression.{Sign, comparison, implies, holds}
use Rattle.meaning.proofs.Order.{≤ℤ_antisym}

-- "any value but 0 is true"
pub nonzero_means : (a : ℤ) → T (nonzero a) ↔ (a ≢ pos 0)
nonzero_means a = (λ t e. subst (λ z. T (nonzero z)) e t, by a)
  where
    by : (a : ℤ) → a ≢ pos 0 → T (nonzero a)
    by (pos zero) h = h refl
    by (pos (suc n)) h = tt
    by (negsuc n) h = tt

-- ---- the six comparisons

-- What each comparison asks.
abbrev pub Compared : Comparison → ℤ → ℤ → Type 0
Compared less a b = a <ℤ b
Compared at_most a b = a ≤ℤ b
Compared equal a b = a ≡ b
Compared at_least a b = b ≤ℤ a
Compared greater a b = b <ℤ a
Compared different a b = a ≢ b

pub compares-equal : (a b : ℤ) → T (compares equal a b) ↔ (a ≡ b)
compares-equal a b = (
  λ t. let h = (T_and (le_z a b) (le_z b a)).0 t in ≤ℤ_antisym (le_z_yes h.0) (le_z_yes h.1),
  λ e. subst (λ z. T (compares equal a z)) e ((T_and (le_z a a) (le_z a a)).1 ((≤ℤ_refl a).le, (≤ℤ_refl a).le)),
)

pub compares_means : (c : Comparison) (a b : ℤ) → T (compares c a b) ↔ Compared c a b
compares_means less a b = (lt_z_yes, λ h. h.lt)
compares_means at_most a b = (le_z_yes, λ h. h.le)
compares_means equal a b = compares-equal a b
compares_means at_least a b = (le_z_yes, λ h. h.le)
compares_means greater a b = (lt_z_yes, λ h. h.lt)
compares_means different a b =
    let same = compares-equal a b in
    (λ t e. T_not (compares equal a b) t (same.1 e), λ h. not_T (compares equal a b) (λ t. h (same.0 t)))

-- ---- the signs

-- What a sign asks at one time. "`a -> b`: at every time, a not 0 implies b not 0." "A comparison or implication with none on either side fails at
-- that time" (document 02, S-5).
abbrev pub Holds : Sign → Value → Value → Type 0
Holds s absent b = ⊥
Holds s (number a) absent = ⊥
Holds (comparison c) (number a) (number b) = Compared c a b
Holds implies (number a) (number b) = a ≢ pos 0 → b ≢ pos 0

T-implies : (a b : Bool) → T (not a || b) ↔ (T a → T b)
T-implies true b = (λ t s. t, λ f. f tt)
T-implies false b = (λ t s. absurd s, λ f. tt)

pub holds_means : (s : Sign) (a b : Value) → T (holds s a b) ↔ Holds s a b
holds_means s absent b = (λ t. t, λ h. h)
holds_means s (number a) absent = (λ t. t, λ h. h)
holds_means (comparison c) (number a) (number b) = compares_means c a b
holds_means implies (number a) (number b) =
    let i = T-implies (nonzero a) (nonzero b) in
    let p = nonzero_means a in
    let q = nonzero_means b in
    (λ t h. q.0 (i.0 t (p.1 h)), λ f. i.1 (λ t. q.1 (f (p.0 t))))

-- ---- none

-- "Any operator with a part that has none at the time it is read gives none" (document 02, S-5).
pub apply-absent : (o : Operator) (a : Value) → (apply o absent a ≡ absent) × (apply o a absent ≡ absent)
apply-absent o absent = (refl, refl)
apply-absent o (number a) = (refl, refl)

-- ---- equal values

IsAbsent : Value → Type 0
IsAbsent absent = Unit
IsAbsent (number z) = ⊥

pub absent≢number : {X : Type 0} {z : ℤ} → absent ≡ number z → X
unfolding IsAbsent
absent≢number e = absurd (subst IsAbsent e tt)

pub number_injective : {a b : ℤ} → number a ≡ number b → a ≡ b
number_injective e = cc

pub Value-discrete : Discrete Value
Value-discrete absent absent = yes refl
Value-discrete absent (number b) = no (λ e. absent≢number e)
Value-discrete (number a) absent = no (λ e. absent≢number (sym e))
Value-discrete (number a) (number b) = by (ℤ_discrete a b)
  where
    by : Dec (a ≡ b) → Dec (number a ≡ number b)
    by (yes e) = yes (ap number e)
    by (no n) = no (λ e. n (number_injective e))

-- "none equals none and no number" (document 02, S-5)
pub same_means : (a b : Value) → T (same_value a b) ↔ (a ≡ b)
same_means absent absent = (λ t. refl, λ e. tt)
same_means absent (number b) = (λ t. absurd t, λ e. absent≢number e)
same_means (number a) absent = (λ t. absurd t, λ e. absent≢number (sym e))
same_means (number a) (number b) =
    let c = compares-equal a b in
    (λ t. ap number (c.0 t), λ e. c.1 (number_injective e))
