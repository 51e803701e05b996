-- Finite search: where one of two properties is told of each member of a list, or of each number below n, the first is found somewhere or the
-- second holds throughout. And membership in a list over a type with decidable equality is decidable. By induction.
use Prim.Native.Nat.{ℕ, zero, suc, ◌<◌}
use native.Mathlib.Omega.{arith}
use native.Mathlib.Decide.{dec_lt}
use native.Mathlib.Nat.{not-suc-le-zero, le_refl}
use mathlib.Core.Path.{◌≡◌, refl, sym, subst}
use mathlib.Core.Logic.{◌⊎◌, inl, inr}
use mathlib.Core.List.Memᴰ
use mathlib.Core.List.{List, [], ◌∷◌, Memᴰ}

pub search_list : {X : Type 0} (P Q : X → Type 0) → ((x : X) → P x ⊎ Q x) → (xs : List X) → ((x : X) × Memᴰ x xs × P x) ⊎ ((x : X) → Memᴰ x xs → Q x)
search_list P Q tell [] = inr (λ x m. absurd (Memᴰ.not-nil m))
search_list P Q tell (y ∷ xs) = go (tell y) (search_list P Q tell xs)
  where
    go : P y ⊎ Q y → ((x : _) × Memᴰ x xs × P x) ⊎ ((x : _) → Memᴰ x xs → Q x) → ((x : _) × Memᴰ x (y ∷ xs) × P x) ⊎ ((x : _) → Memᴰ x (y ∷ xs) → Q x)
    go (inl p) rest = inl (y, Memᴰ.head refl, p)
    go (inr q) (inl f) = inl (f.0, Memᴰ.tail f.1, f.2)
    go (inr q) (inr h) = inr (λ x m. elim (Memᴰ.cases_cons m) [ inl e ↦ subst Q (sym e) q | inr k ↦ h x k ])

pub search_below : (P Q : ℕ → Type 0) → ((i : ℕ) → P i ⊎ Q i) → (n : ℕ) → ((i : ℕ) × (i < n) × P i) ⊎ ((i : ℕ) → i < n → Q i)
search_below P Q tell zero = inr (λ i h. absurd (not-suc-le-zero h))
search_below P Q tell (suc n) = go (search_below P Q tell n) (tell n)
  where
    go : ((i : ℕ) × (i < n) × P i) ⊎ ((i : ℕ) → i < n → Q i) → P n ⊎ Q n → ((i : ℕ) × (i < suc n) × P i) ⊎ ((i : ℕ) → i < suc n → Q i)
    go (inl f) last = inl (f.0, omega arith, f.2)
    go (inr h) (inl p) = inl (n, le_refl (suc n), p)
    go (inr h) (inr q) = inr (λ i l. at i l (dec_lt i n))
      where
        at : (i : ℕ) → i < suc n → Dec (i < n) → Q i
        at i l (yes m) = h i m
        at i l (no m) = let e : n ≡ i = omega arith in subst Q e q

pub member_decided : {X : Type 0} → Discrete X → (x : X) (xs : List X) → Dec (Memᴰ x xs)
member_decided same x [] = no Memᴰ.not-nil
member_decided same x (y ∷ xs) = go (same x y) (member_decided same x xs)
  where
    go : Dec (x ≡ y) → Dec (Memᴰ x xs) → Dec (Memᴰ x (y ∷ xs))
    go (yes e) rest = yes (Memᴰ.head e)
    go (no n) (yes m) = yes (Memᴰ.tail m)
    go (no n) (no k) = no (λ m. elim (Memᴰ.cases_cons m) [ inl e ↦ n e | inr q ↦ k q ])
