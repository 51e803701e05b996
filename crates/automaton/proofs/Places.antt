-- Laws of the order of places, and of the stored list that has the place (i, a) at i * k + a.
use mathlib.Core.Path.{◌≡◌, ap}
use mathlib.Core.Logic.{◌⊎◌, inl, inr}
use mathlib.Core.List.{List, [], ◌∷◌, ◌++◌}
use Prim.Native.Nat.{ℕ, suc, ◌+◌, ◌*◌, ◌<◌}
use native.Mathlib.Nat.{mul-le-mul_right}
use native.Mathlib.Omega.{arith}
use native.Mathlib.Decide.{ℕ_discrete, dec_lt}
use lib.ListN.{length, set, get_or-append}
use lib.Seq.{get_or-set_same, get_or-set_other, get_or_at}
use Rattle.automaton.specs.Table.{Before}
use Rattle.automaton.specs.Stored.{entry_at}
use Rattle.automaton.specs.Numbering.{IsPut}

-- the order

pub before_extend : {j b i a : ℕ} → Before j b i (suc a) → Before j b i a ⊎ ((j ≡ i) × (b ≡ a))
before_extend (inl h) = inl (inl h)
before_extend {j} {b} {i} {a} (inr p) = go (ℕ_discrete b a)
  where
    go : Dec (b ≡ a) → Before j b i a ⊎ ((j ≡ i) × (b ≡ a))
    go (yes e) = inr (p.0, e)
    go (no ne) = inl (inr (p.0, omega (arith, p.1)))

pub before-later : {j b i a : ℕ} → Before j b i a → Before j b i (suc a)
before-later (inl h) = inl h
before-later (inr p) = inr (p.0, omega (arith, p.1))

pub before_trans : {j b i a l c : ℕ} → Before j b i a → Before i a l c → Before j b l c
before_trans (inl h) (inl g) = inl (omega arith)
before_trans (inl h) (inr q) = inl (omega (arith, q.0))
before_trans (inr p) (inl g) = inl (omega (arith, p.0))
before_trans (inr p) (inr q) = inr (omega (arith, p.0, q.0), omega (arith, p.1, q.1))

-- the end of a row of k places is the start of the next row
pub before-row-end : {j b i k : ℕ} → b < k → Before j b (suc i) 0 → Before j b i k
before-row-end {j} {b} {i} {k} hb (inl h) = go (ℕ_discrete j i)
  where
    go : Dec (j ≡ i) → Before j b i k
    go (yes e) = inr (e, hb)
    go (no ne) = inl (omega arith)
before-row-end hb (inr p) = absurd (omega (arith, p.1))

pub before-row-start : {j b i a : ℕ} → Before j b i a → Before j b (suc i) 0
before-row-start (inl h) = inl (omega arith)
before-row-start (inr p) = inl (omega (arith, p.0))

-- indices

pub place-before : (k j b i a : ℕ) → b < k → Before j b i a → j * k + b < i * k + a
place-before k j b i a hb (inl h) = omega (arith, mul-le-mul_right k h)
place-before k j b i a hb (inr p) = omega (arith, ap (λ x. x * k) p.0, p.1)

pub place_injective : (k i j a b : ℕ) → a < k → b < k → i * k + a ≡ j * k + b → (i ≡ j) × (a ≡ b)
place_injective k i j a b ha hb e = go (dec_lt i j) (dec_lt j i)
  where
    go : Dec (i < j) → Dec (j < i) → (i ≡ j) × (a ≡ b)
    go (yes h) q = absurd (omega (arith, mul-le-mul_right k h))
    go (no g) (yes h) = absurd (omega (arith, mul-le-mul_right k h))
    go (no g) (no h) = let q : i ≡ j = omega arith in (q, omega (arith, ap (λ x. x * k) q))

-- stores

pub put-set : (k : ℕ) (l : List ℕ) (i a v : ℕ) → i * k + a < length l → IsPut k (entry_at k l) (entry_at k (set l (i * k + a) v)) i a v
put-set k l i a v h = record {
  here = get_or-set_same l (i * k + a) v 0 h;
  earlier = λ j b hb q. get_or-set_other l (i * k + a) (j * k + b) v 0 (omega (arith, place-before k j b i a hb q));
}

pub put-append : (k : ℕ) (l : List ℕ) (i a v : ℕ) → length l ≡ i * k + a → IsPut k (entry_at k l) (entry_at k (l ++ (v ∷ []))) i a v
put-append k l i a v e = record {
  here = get_or_at l v [] 0 (i * k + a) e;
  earlier = λ j b hb q. get_or-append l (v ∷ []) 0 (j * k + b) (omega (arith, place-before k j b i a hb q));
}
