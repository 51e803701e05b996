-- Distinct numbers below n are at most n.
use mathlib.Core.Path.{◌≡◌}
use mathlib.Core.Logic.{◌≢◌}
use Prim.Native.Nat.{ℕ, zero, suc, ◌<◌, ◌≤◌}
use native.Mathlib.Nat.{not-suc-le-zero}
use native.Mathlib.Omega.{arith}
use native.Mathlib.Decide.{ℕ_discrete}

pub pigeonhole : (m n : ℕ) (f : ℕ → ℕ) → ((i : ℕ) → i < m → f i < n) → ((i j : ℕ) → i < m → j < m → f i ≡ f j → i ≡ j) → m ≤ n
pigeonhole zero n f below inj = omega arith
pigeonhole (suc m) zero f below inj = absurd (not-suc-le-zero (below 0 (omega arith)))
pigeonhole (suc m) (suc n) f below inj = omega (arith, pigeonhole m n g g_below g_inj)
  where
    -- where f is n, take the value that f has at m instead: it is below n, since f is n at most once
    pick : (i : ℕ) → Dec (f i ≡ n) → ℕ
    pick i (yes e) = f m
    pick i (no ne) = f i

    g : ℕ → ℕ
    g i = pick i (ℕ_discrete (f i) n)

    not_twice : (i : ℕ) → i < m → f i ≡ n → f m ≢ n
    not_twice i h e q = let z : i ≡ m = inj i m (omega arith) (omega arith) (omega arith) in omega arith

    g_below : (i : ℕ) → i < m → g i < n
    g_below i h = go (ℕ_discrete (f i) n)
      where
        go : (d : Dec (f i ≡ n)) → pick i d < n
        go (yes e) = omega (arith, below m (omega arith), not_twice i h e)
        go (no ne) = omega (arith, below i (omega arith))

    g_inj : (i j : ℕ) → i < m → j < m → g i ≡ g j → i ≡ j
    g_inj i j hi hj = go (ℕ_discrete (f i) n) (ℕ_discrete (f j) n)
      where
        go : (d : Dec (f i ≡ n)) (d' : Dec (f j ≡ n)) → pick i d ≡ pick j d' → i ≡ j
        go (yes e) (yes e') q = inj i j (omega arith) (omega arith) (omega arith)
        go (yes e) (no ne') q = absurd (let z : m ≡ j = inj m j (omega arith) (omega arith) q in omega arith)
        go (no ne) (yes e') q = absurd (let z : i ≡ m = inj i m (omega arith) (omega arith) q in omega arith)
        go (no ne) (no ne') q = inj i j (omega arith) (omega arith) q
