-- Laws of tests over the numbers below a bound, and of the closure of a rule: what it holds is derived by the rule, and the
-- rule adds nothing to it. The rounds end because each but the last raises the count of the numbers in the set.
use mathlib.Core.Path.{◌≡◌, refl, ap}
use mathlib.Core.Logic.{◌↔◌, ◌⊎◌, inl, inr, ◌≢◌}
use mathlib.Core.Bool.{Bool, true, false, cond, ◌||◌}
use mathlib.Core.List.{List, []}
use Prim.Native.Nat.{ℕ, zero, suc, ◌+◌, ◌<◌, ◌≤◌}
use native.Mathlib.Nat.{not-suc-le-zero, le_of_suc-le-suc}
use native.Mathlib.Omega.{arith}
use native.Mathlib.Decide.{ℕ_discrete}
use lib.Dec.{T, eqb, eqb→eq}
use lib.ListN.{length, get_or}
use Rattle.basics.proofs.Tests.{T-or, bit-most}
use Rattle.automaton.specs.Closure.{tabulate, any_below, find_below, count_below, contains, round, rounds, closure}
use borrow.Author.Tests.{eqb-false}

-- lists of tests

pub get_d_tabulate {ℓ} : {A : Type ℓ} (m : ℕ) (f : ℕ → A) (i : ℕ) (d : A) → i < m → get_or (tabulate m f) i d ≡ f i
get_d_tabulate zero f i d h = absurd (not-suc-le-zero h)
get_d_tabulate (suc m) f zero d h = refl
get_d_tabulate (suc m) f (suc i) d h = get_d_tabulate m (λ j. f (suc j)) i d (le_of_suc-le-suc h)

pub length-tabulate {ℓ} : {A : Type ℓ} (m : ℕ) (f : ℕ → A) → length (tabulate m f) ≡ m
length-tabulate zero f = refl
length-tabulate (suc m) f = ap suc (length-tabulate m (λ j. f (suc j)))

pub contains-below : (m : ℕ) (f : ℕ → Bool) (i : ℕ) → T (contains (tabulate m f) i) → (i < m) × T (f i)
contains-below zero f i h = absurd h
contains-below (suc m) f zero h = (omega arith, h)
contains-below (suc m) f (suc i) h = let p = contains-below m (λ j. f (suc j)) i h in (omega (arith, p.0), p.1)

-- bounded search

pub any_below↔ : (m : ℕ) (f : ℕ → Bool) → T (any_below m f) ↔ ((a : ℕ) × (a < m) × T (f a))
any_below↔ zero f = ((λ h. absurd h), λ p. absurd (not-suc-le-zero p.1))
any_below↔ (suc m) f = (
  (λ h. to ((T-or (f m) (any_below m f)).0 h) (any_below↔ m f).0),
  λ p. (T-or (f m) (any_below m f)).1 (from p (ℕ_discrete p.0 m) (any_below↔ m f).1),
)
  where
    to : T (f m) ⊎ T (any_below m f) → (T (any_below m f) → (a : ℕ) × (a < m) × T (f a)) → (a : ℕ) × (a < suc m) × T (f a)
    to (inl x) g = (m, omega arith, x)
    to (inr x) g = let p = g x in (p.0, omega (arith, p.1), p.2)

    from : (p : (a : ℕ) × (a < suc m) × T (f a)) → Dec (p.0 ≡ m) → ((a : ℕ) × (a < m) × T (f a) → T (any_below m f)) → T (f m) ⊎ T (any_below m f)
    from p (yes e) g = inl (rw e at p.2)
    from p (no ne) g = inr (g (p.0, omega (arith, p.1), p.2))

pub find_below-most : (m : ℕ) (f : ℕ → Bool) → find_below m f ≤ m
find_below-most zero f = omega arith
find_below-most (suc m) f = go (f 0) (find_below-most m (λ i. f (suc i)))
  where
    go : (b : Bool) → find_below m (λ i. f (suc i)) ≤ m → cond b 0 (suc (find_below m (λ i. f (suc i)))) ≤ suc m
    go true h = omega arith
    go false h = omega arith

pub find_below-found : (m : ℕ) (f : ℕ → Bool) → find_below m f < m → T (f (find_below m f))
find_below-found zero f h = absurd (not-suc-le-zero h)
find_below-found (suc m) f h = go (f 0) refl h (find_below-found m (λ i. f (suc i)))
  where
    rest : ℕ
    rest = find_below m (λ i. f (suc i))

    go : (b : Bool) → f 0 ≡ b → cond b 0 (suc rest) < suc m → (rest < m → T (f (suc rest))) → T (f (cond b 0 (suc rest)))
    go true e h ih = rw e tt
    go false e h ih = ih (le_of_suc-le-suc h)

pub find_below-least : (m : ℕ) (f : ℕ → Bool) (i : ℕ) → i < m → T (f i) → find_below m f ≤ i
find_below-least zero f i h x = absurd (not-suc-le-zero h)
find_below-least (suc m) f i h x = go (f 0) refl i h x λ i. find_below-least m (λ j. f (suc j)) i
  where
    rest : ℕ
    rest = find_below m (λ j. f (suc j))

    go : (b : Bool) → f 0 ≡ b → (i : ℕ) → i < suc m → T (f i) → ((i : ℕ) → i < m → T (f (suc i)) → rest ≤ i) → cond b 0 (suc rest) ≤ i
    go true e i h x ih = omega arith
    go false e zero h x ih = absurd (rw e at x)
    go false e (suc i) h x ih = omega (arith, ih i (le_of_suc-le-suc h) x)

-- counts

bit_mono : (a b : Bool) → (T a → T b) → cond a 1 0 ≤ cond b 1 0
bit_mono true true f = omega arith
bit_mono true false f = absurd (f tt)
bit_mono false true f = omega arith
bit_mono false false f = omega arith

bit-same : (a b : Bool) → cond b 1 0 ≤ cond a 1 0 → T b → T a
bit-same true b h x = tt
bit-same false true h x = absurd (not-suc-le-zero h)
bit-same false false h x = x

pub count-below-most : (m : ℕ) (f : ℕ → Bool) → count_below m f ≤ m
count-below-most zero f = omega arith
count-below-most (suc m) f = omega (arith, bit-most (f m), count-below-most m f)

pub count-below_mono : (m : ℕ) (f g : ℕ → Bool) → ((i : ℕ) → i < m → T (f i) → T (g i)) → count_below m f ≤ count_below m g
count-below_mono zero f g h = omega arith
count-below_mono (suc m) f g h = omega (arith, bit_mono (f m) (g m) (h m (omega arith)), count-below_mono m f g (λ i hi. h i (omega arith)))

-- a test that passes wherever another does, and no more often, passes only there
pub count-below-same : (m : ℕ) (f g : ℕ → Bool) → ((i : ℕ) → i < m → T (f i) → T (g i)) → count_below m g ≤ count_below m f
    → (i : ℕ) → i < m → T (g i) → T (f i)
count-below-same zero f g h c i hi x = absurd (not-suc-le-zero hi)
count-below-same (suc m) f g h c i hi x = go (ℕ_discrete i m) (count-below-same m f g (λ j hj. h j (omega arith)) (omega (arith, bit)) i)
  where
    bit : cond (f m) 1 0 ≤ cond (g m) 1 0
    bit = bit_mono (f m) (g m) (h m (omega arith))

    go : Dec (i ≡ m) → (i < m → T (g i) → T (f i)) → T (f i)
    go (yes e) ih = rw e (bit-same (f m) (g m) (omega (arith, count-below_mono m f g (λ j hj. h j (omega arith)))) (rw e at x))
    go (no ne) ih = ih (omega arith) x

-- the closure of a rule

module _ (m : ℕ) (rule : (ℕ → Bool) → ℕ → Bool) where
  round-below : (l : List Bool) (i : ℕ) → T (contains (round m rule l) i) → (i < m) × (T (contains l i) ⊎ T (rule (contains l) i))
  round-below l i h =
      let p = contains-below m (λ j. contains l j || rule (contains l) j) i h in
      (p.0, (T-or (contains l i) (rule (contains l) i)).0 p.1)

  round-adds : (l : List Bool) (i : ℕ) → i < m → T (contains l i) ⊎ T (rule (contains l) i) → T (contains (round m rule l) i)
  round-adds l i h x = rw (get_d_tabulate m (λ j. contains l j || rule (contains l) j) i false h) ((T-or (contains l i) (rule (contains l) i)).1 x)

  grows : (l : List Bool) (i : ℕ) → i < m → T (contains l i) → T (contains (round m rule l) i)
  grows l i hi x = round-adds l i hi (inl x)

  stable : (l : List Bool) → count_below m (contains (round m rule l)) ≤ count_below m (contains l)
      → (i : ℕ) → i < m → T (rule (contains l) i) → T (contains l i)
  stable l h i hi x = count-below-same m (contains l) (contains (round m rule l)) (grows l) h i hi (round-adds l i hi (inr x))

  -- a round that adds no number leaves a closed set, and with m numbers no round can add one
  rounds-closed : (fuel : ℕ) (l : List Bool) → m ≤ fuel + count_below m (contains l)
      → (i : ℕ) → i < m → T (rule (contains (rounds m rule fuel l)) i) → T (contains (rounds m rule fuel l) i)
  rounds-closed zero l h i hi x = stable l (omega (arith, count-below-most m (contains (round m rule l)))) i hi x
  rounds-closed (suc fuel) l h i hi x = go (eqb before after) refl (rounds-closed fuel (round m rule l)) x
    where
      before : ℕ
      before = count_below m (contains l)

      after : ℕ
      after = count_below m (contains (round m rule l))

      rest : List Bool
      rest = rounds m rule fuel (round m rule l)

      go : (b : Bool) → eqb before after ≡ b → (m ≤ fuel + after → (i : ℕ) → i < m → T (rule (contains rest) i) → T (contains rest i))
          → T (rule (contains (cond b l rest)) i) → T (contains (cond b l rest) i)
      go true e ih x = let q : before ≡ after = eqb→eq before after (rw e tt) in stable l (omega arith) i hi x
      go false e ih x =
          let q : before ≢ after = eqb-false before after e in
          ih (omega (arith, count-below_mono m (contains l) (contains (round m rule l)) (grows l))) i hi x

  rounds-sound : (P : ℕ → Type 0) → ((set : ℕ → Bool) → ((j : ℕ) → T (set j) → P j) → (i : ℕ) → i < m → T (rule set i) → P i)
      → (fuel : ℕ) (l : List Bool) → ((j : ℕ) → T (contains l j) → P j) → (j : ℕ) → T (contains (rounds m rule fuel l) j) → P j
  rounds-sound P derive zero l all = all
  rounds-sound P derive (suc fuel) l all =
      go (eqb (count_below m (contains l)) (count_below m (contains (round m rule l)))) (rounds-sound P derive fuel (round m rule l) next)
    where
      one : (j : ℕ) → j < m → T (contains l j) ⊎ T (rule (contains l) j) → P j
      one j hj (inl x) = all j x
      one j hj (inr x) = derive (contains l) all j hj x

      next : (j : ℕ) → T (contains (round m rule l) j) → P j
      next j h = let p = round-below l j h in one j p.0 p.1

      rest : List Bool
      rest = rounds m rule fuel (round m rule l)

      go : (b : Bool) → ((j : ℕ) → T (contains rest j) → P j) → (j : ℕ) → T (contains (cond b l rest) j) → P j
      go true ih = all
      go false ih = ih

  pub closure-closed : (i : ℕ) → i < m → T (rule (contains (closure m rule)) i) → T (contains (closure m rule) i)
  closure-closed i h = rounds-closed m [] (omega arith) i h

  -- what holds of a number that the rule adds to numbers of which it holds, holds of the whole closure
  pub closure-sound : (P : ℕ → Type 0) → ((set : ℕ → Bool) → ((j : ℕ) → T (set j) → P j) → (i : ℕ) → i < m → T (rule set i) → P i)
      → (j : ℕ) → T (contains (closure m rule) j) → P j
  closure-sound P derive j = rounds-sound P derive m [] (λ j h. absurd h) j
