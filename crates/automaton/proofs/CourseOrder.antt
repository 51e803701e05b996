-- The order of courses: number order, and then fewest letters, least total and number order, are total orders.
use mathlib.Core.Path.{◌≡◌, refl, sym, ap, ◌∙◌}
use mathlib.Core.Logic.{◌⊎◌, inl, inr}
use mathlib.Core.List.{List, [], ◌∷◌}
use Prim.Native.Nat.{ℕ, ◌+◌, ◌<◌, ◌≤◌}
use native.Mathlib.Omega.{arith}
use native.Mathlib.Decide.{dec_lt}
use lib.ListN.{length}
use Rattle.automaton.specs.Course.{total_after, total, NotAfter, NoLater, fewer_letters, fewer_changes, by_number, NoWorse, cheaper, as_cheap}

pub not-after_refl : (r : List ℕ) → NotAfter r r
not-after_refl [] = tt
not-after_refl (a ∷ r) = inr (refl, not-after_refl r)

pub not-after_trans : (r q p : List ℕ) → NotAfter r q → NotAfter q p → NotAfter r p
not-after_trans [] q p x y = tt
not-after_trans (a ∷ r) [] p x y = absurd x
not-after_trans (a ∷ r) (b ∷ q) [] x y = absurd y
not-after_trans (a ∷ r) (b ∷ q) (c ∷ p) (inl x) (inl y) = inl (omega arith)
not-after_trans (a ∷ r) (b ∷ q) (c ∷ p) (inl x) (inr y) = inl (omega arith)
not-after_trans (a ∷ r) (b ∷ q) (c ∷ p) (inr x) (inl y) = inl (omega arith)
not-after_trans (a ∷ r) (b ∷ q) (c ∷ p) (inr x) (inr y) = inr (x.0 ∙ y.0, not-after_trans r q p x.1 y.1)

pub not-after_antisym : (r q : List ℕ) → NotAfter r q → NotAfter q r → r ≡ q
not-after_antisym [] [] x y = refl
not-after_antisym [] (b ∷ q) x y = absurd y
not-after_antisym (a ∷ r) [] x y = absurd x
not-after_antisym (a ∷ r) (b ∷ q) (inl x) (inl y) = absurd (omega arith)
not-after_antisym (a ∷ r) (b ∷ q) (inl x) (inr y) = absurd (omega arith)
not-after_antisym (a ∷ r) (b ∷ q) (inr x) (inl y) = absurd (omega arith)
not-after_antisym (a ∷ r) (b ∷ q) (inr x) (inr y) = let e = not-after_antisym r q x.1 y.1 in let f = x.0 in cc

pub data Trichotomy (m n : ℕ) : Type 0 where
  below : m < n → Trichotomy m n
  equal : m ≡ n → Trichotomy m n
  above : n < m → Trichotomy m n

pub trichotomy : (m n : ℕ) → Trichotomy m n
trichotomy m n = go (dec_lt m n) (dec_lt n m)
  where
    go : Dec (m < n) → Dec (n < m) → Trichotomy m n
    go (yes h) d = below h
    go (no h) (yes g) = above g
    go (no h) (no g) = equal (omega arith)

pub not-after-total : (r q : List ℕ) → NotAfter r q ⊎ NotAfter q r
not-after-total [] q = inl tt
not-after-total (a ∷ r) [] = inr tt
not-after-total (a ∷ r) (b ∷ q) = go (trichotomy a b) (not-after-total r q)
  where
    go : Trichotomy a b → NotAfter r q ⊎ NotAfter q r → NotAfter (a ∷ r) (b ∷ q) ⊎ NotAfter (b ∷ q) (a ∷ r)
    go (below h) x = inl (inl h)
    go (above h) x = inr (inl h)
    go (equal e) (inl x) = inl (inr (e, x))
    go (equal e) (inr x) = inr (inr (sym e, x))

module _ (changes : ℕ → ℕ → ℕ) where
  pub no_later_refl : (r : List ℕ) → NoLater changes r r
  no_later_refl r = by_number refl refl (not-after_refl r)

  pub no_later_trans : (r q p : List ℕ) → NoLater changes r q → NoLater changes q p → NoLater changes r p
  no_later_trans r q p (fewer_letters x) (fewer_letters y) = fewer_letters (omega arith)
  no_later_trans r q p (fewer_letters x) (fewer_changes y z) = fewer_letters (omega arith)
  no_later_trans r q p (fewer_letters x) (by_number y z w) = fewer_letters (omega arith)
  no_later_trans r q p (fewer_changes x u) (fewer_letters y) = fewer_letters (omega arith)
  no_later_trans r q p (fewer_changes x u) (fewer_changes y z) = fewer_changes (x ∙ y) (omega arith)
  no_later_trans r q p (fewer_changes x u) (by_number y z w) = fewer_changes (x ∙ y) (omega arith)
  no_later_trans r q p (by_number x u v) (fewer_letters y) = fewer_letters (omega arith)
  no_later_trans r q p (by_number x u v) (fewer_changes y z) = fewer_changes (x ∙ y) (omega arith)
  no_later_trans r q p (by_number x u v) (by_number y z w) = by_number (x ∙ y) (u ∙ z) (not-after_trans r q p v w)

  pub no_later_antisym : (r q : List ℕ) → NoLater changes r q → NoLater changes q r → r ≡ q
  no_later_antisym r q (fewer_letters x) (fewer_letters y) = absurd (omega arith)
  no_later_antisym r q (fewer_letters x) (fewer_changes y z) = absurd (omega arith)
  no_later_antisym r q (fewer_letters x) (by_number y z w) = absurd (omega arith)
  no_later_antisym r q (fewer_changes x u) (fewer_letters y) = absurd (omega arith)
  no_later_antisym r q (fewer_changes x u) (fewer_changes y z) = absurd (omega arith)
  no_later_antisym r q (fewer_changes x u) (by_number y z w) = absurd (omega arith)
  no_later_antisym r q (by_number x u v) (fewer_letters y) = absurd (omega arith)
  no_later_antisym r q (by_number x u v) (fewer_changes y z) = absurd (omega arith)
  no_later_antisym r q (by_number x u v) (by_number y z w) = not-after_antisym r q v w

  pub no_later_total : (r q : List ℕ) → NoLater changes r q ⊎ NoLater changes q r
  no_later_total r q = go (trichotomy (length r) (length q)) (trichotomy (total changes r) (total changes q)) (not-after-total r q)
    where
      go : Trichotomy (length r) (length q) → Trichotomy (total changes r) (total changes q) → NotAfter r q ⊎ NotAfter q r
          → NoLater changes r q ⊎ NoLater changes q r
      go (below h) d x = inl (fewer_letters h)
      go (above h) d x = inr (fewer_letters h)
      go (equal e) (below h) x = inl (fewer_changes e h)
      go (equal e) (above h) x = inr (fewer_changes (sym e) h)
      go (equal e) (equal f) (inl x) = inl (by_number e f x)
      go (equal e) (equal f) (inr x) = inr (by_number (sym e) (sym f) x)

  -- no later has no more letters
  pub no_later_letters : (r q : List ℕ) → NoLater changes r q → length r ≤ length q
  no_later_letters r q (fewer_letters x) = omega arith
  no_later_letters r q (fewer_changes x u) = omega arith
  no_later_letters r q (by_number x u v) = omega arith

  pub no_worse_total : (first : ℕ → ℕ) (r q : List ℕ) → NoWorse changes first r q → total_after changes first r ≤ total_after changes first q
  no_worse_total first r q (cheaper h) = omega arith
  no_worse_total first r q (as_cheap e h) = omega arith

  pub no_worse_cons : (first : ℕ → ℕ) (a : ℕ) (r q : List ℕ) → NoWorse changes (changes a) r q → NoWorse changes first (a ∷ r) (a ∷ q)
  no_worse_cons first a r q (cheaper h) = cheaper (omega arith)
  no_worse_cons first a r q (as_cheap e h) = as_cheap (ap (first a +◌) e) (inr (refl, h))

  pub no_worse_no_later : (r q : List ℕ) → length r ≡ length q → NoWorse changes (λ a. 0) r q → NoLater changes r q
  no_worse_no_later r q e (cheaper h) = fewer_changes e h
  no_worse_no_later r q e (as_cheap f h) = by_number e f h
