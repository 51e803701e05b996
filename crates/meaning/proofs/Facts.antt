-- Laws of tests and numbers taken over the members of a list and over the times before one.
use Prim.Native.Nat.{ℕ, zero, suc, ◌≤◌, ◌<◌}
use native.Mathlib.Omega.{arith}
use native.Mathlib.Decide.{dec_le, dec_lt}
use native.Mathlib.Nat.{not-suc-le-zero, le_of_suc-le-suc, le_refl}
use mathlib.Core.Path.{◌≡◌, refl, sym, ◌∙◌, ap, ap₂, subst}
use mathlib.Core.Bool.{Bool, true, false, ◌&&◌, ◌||◌}
use mathlib.Core.List.Memᴰ
use mathlib.Core.List.{List, [], ◌∷◌, ◌++◌, map, Memᴰ}
use mathlib.Core.Logic.{◌⊎◌, inl, inr}
use lib.Dec.{T}
use lib.ListN.{length, get_or, length-append}
use Rattle.basics.proofs.Tests.{and_left, and_right, and_both, or_left, or_right}
use Rattle.meaning.specs.Window.{largest_over, join_over}
use Rattle.meaning.specs.Situation.{some_before, every_before, all}

-- Every member of a list

pub all-at : {X : Type 0} (p : X → Bool) (xs : List X) → T (all p xs) → (x : X) → Memᴰ x xs → T (p x)
all-at p (y ∷ xs) t x (Memᴰ.head e) = subst (λ z. T (p z)) (sym e) (and_left (p y) (all p xs) t)
all-at p (y ∷ xs) t x (Memᴰ.tail m) = all-at p xs (and_right (p y) (all p xs) t) x m
all-at {X = X} p [] t x x4 = elim x4 [ ]

pub all_of : {X : Type 0} (p : X → Bool) (xs : List X) → ((x : X) → Memᴰ x xs → T (p x)) → T (all p xs)
all_of p [] h = tt
all_of p (x ∷ xs) h = and_both (p x) (all p xs) (h x (Memᴰ.head refl)) (all_of p xs (λ y m. h y (Memᴰ.tail m)))

pub all_cong : {X : Type 0} (p q : X → Bool) (xs : List X) → ((x : X) → Memᴰ x xs → p x ≡ q x) → all p xs ≡ all q xs
all_cong p q [] h = refl
all_cong p q (x ∷ xs) h = ap₂ ◌&&◌ (h x (Memᴰ.head refl)) (all_cong p q xs (λ y m. h y (Memᴰ.tail m)))

interchange : (a b c d : Bool) → (a && b && (c && d)) ≡ (a && c && (b && d))
interchange true true c d = refl
interchange true false true d = refl
interchange true false false d = refl
interchange false b c d = refl

pub all-&& : {X : Type 0} (p q : X → Bool) (xs : List X) → all (λ x. p x && q x) xs ≡ (all p xs && all q xs)
all-&& p q [] = refl
all-&& p q (x ∷ xs) = ap (λ b. p x && q x && b) (all-&& p q xs) ∙ interchange (p x) (q x) (all p xs) (all q xs)

pub all_map : {X Y : Type 0} (p : Y → Bool) (f : X → Y) (xs : List X) → all p (map f xs) ≡ all (λ x. p (f x)) xs
all_map p f [] = refl
all_map p f (x ∷ xs) = ap (λ b. p (f x) && b) (all_map p f xs)

pub length-snoc : {X : Type 0} (xs : List X) (x : X) → length (xs ++ (x ∷ [])) ≡ suc (length xs)
length-snoc xs x = length-append xs (x ∷ []) ∙ omega arith

pub get_or-member : {X : Type 0} (xs : List X) (i : ℕ) (d : X) → i < length xs → Memᴰ (get_or xs i d) xs
get_or-member [] i d h = absurd (not-suc-le-zero h)
get_or-member (x ∷ xs) zero d h = Memᴰ.head refl
get_or-member (x ∷ xs) (suc i) d h = Memᴰ.tail (get_or-member xs i d (le_of_suc-le-suc h))

pub map_cong : {X Y : Type 0} (f g : X → Y) (xs : List X) → ((x : X) → Memᴰ x xs → f x ≡ g x) → map f xs ≡ map g xs
map_cong f g [] h = refl
map_cong f g (x ∷ xs) h = ap₂ ◌∷◌ (h x (Memᴰ.head refl)) (map_cong f g xs (λ y m. h y (Memᴰ.tail m)))

pub largest_over-bound : {X : Type 0} (f : X → ℕ) (xs : List X) (x : X) → Memᴰ x xs → f x ≤ largest_over f xs
largest_over-bound f (y ∷ xs) x (Memᴰ.head p) = rw p (omega arith)
largest_over-bound f (y ∷ xs) x (Memᴰ.tail m) = let h = largest_over-bound f xs x m in omega arith
largest_over-bound {X = X} f [] x x3 = elim x3 [ ]

pub largest_over-least : {X : Type 0} (f : X → ℕ) (xs : List X) (n : ℕ) → ((x : X) → Memᴰ x xs → f x ≤ n) → largest_over f xs ≤ n
largest_over-least f [] n h = omega arith
largest_over-least f (x ∷ xs) n h =
    let first = h x (Memᴰ.head refl) in
    let rest = largest_over-least f xs n (λ y m. h y (Memᴰ.tail m)) in
    omega arith

pub join_over-member : {X Y : Type 0} (f : X → List Y) (xs : List X) (x : X) (y : Y) → Memᴰ x xs → Memᴰ y (f x) → Memᴰ y (join_over f xs)
join_over-member f (z ∷ xs) x y (Memᴰ.head p) m = Memᴰ.append_left (join_over f xs) (subst (λ u. Memᴰ y (f u)) p m)
join_over-member f (z ∷ xs) x y (Memᴰ.tail k) m = Memᴰ.append_right (f z) (join_over-member f xs x y k m)
join_over-member {X = X} {Y = Y} f [] x y x4 m = elim x4 [ ]

pub join_over_origin : {X Y : Type 0} (f : X → List Y) (xs : List X) (y : Y) → Memᴰ y (join_over f xs) → (x : X) × Memᴰ x xs × Memᴰ y (f x)
join_over_origin f [] y m = absurd (Memᴰ.not-nil m)
join_over_origin f (z ∷ xs) y m = go (join_over_origin f xs y) (Memᴰ.append_cases (f z) m)
  where
    go : (Memᴰ y (join_over f xs) → (x : _) × Memᴰ x xs × Memᴰ y (f x)) → Memᴰ y (f z) ⊎ Memᴰ y (join_over f xs)
        → (x : _) × Memᴰ x (z ∷ xs) × Memᴰ y (f x)
    go again (inl k) = (z, Memᴰ.head refl, k)
    go again (inr k) = let o = again k in (o.0, Memᴰ.tail o.1, o.2)

-- The times before one

pub every_before-at : (p : ℕ → Bool) (n : ℕ) → T (every_before p n) → (i : ℕ) → i < n → T (p i)
every_before-at p zero t i h = absurd (not-suc-le-zero h)
every_before-at p (suc n) t i h = go (every_before-at p n (and_left (every_before p n) (p n) t) i) (dec_lt i n)
  where
    go : (i < n → T (p i)) → Dec (i < n) → T (p i)
    go again (yes l) = again l
    go again (no l) = let e : i ≡ n = omega arith in rw e (and_right (every_before p n) (p n) t)

pub every_before-of : (p : ℕ → Bool) (n : ℕ) → ((i : ℕ) → i < n → T (p i)) → T (every_before p n)
every_before-of p zero h = tt
every_before-of p (suc n) h = and_both (every_before p n) (p n) (every_before-of p n (λ i l. h i (omega arith))) (h n (le_refl (suc n)))

pub every_before-fewer : (p : ℕ → Bool) (n m : ℕ) → n ≤ m → T (every_before p m) → T (every_before p n)
every_before-fewer p n m h t = every_before-of p n (λ i l. every_before-at p m t i (omega arith))

pub every_before_cong : (p q : ℕ → Bool) (n : ℕ) → ((i : ℕ) → i < n → p i ≡ q i) → every_before p n ≡ every_before q n
every_before_cong p q zero h = refl
every_before_cong p q (suc n) h = ap₂ ◌&&◌ (every_before_cong p q n (λ i l. h i (omega arith))) (h n (le_refl (suc n)))

pub some_before-of : (p : ℕ → Bool) (n i : ℕ) → i < n → T (p i) → T (some_before p n)
some_before-of p zero i h t = absurd (not-suc-le-zero h)
some_before-of p (suc n) i h t = go (λ l. some_before-of p n i l t) (dec_lt i n)
  where
    go : (i < n → T (some_before p n)) → Dec (i < n) → T (some_before p (suc n))
    go again (yes l) = or_left (some_before p n) (p n) (again l)
    go again (no l) = let e : i ≡ n = omega arith in or_right (some_before p n) (p n) (rw e at t)

pub some_before_cong : (p q : ℕ → Bool) (n : ℕ) → ((i : ℕ) → i < n → p i ≡ q i) → some_before p n ≡ some_before q n
some_before_cong p q zero h = refl
some_before_cong p q (suc n) h = ap₂ ◌||◌ (some_before_cong p q n (λ i l. h i (omega arith))) (h n (le_refl (suc n)))

pub some_before-more : (p : ℕ → Bool) (n m : ℕ) → n ≤ m → T (some_before p n) → T (some_before p m)
some_before-more p n zero h t = let e : n ≡ zero = omega arith in rw e at t
some_before-more p n (suc m) h t = go (λ l. some_before-more p n m l t) (dec_le n m)
  where
    go : (n ≤ m → T (some_before p m)) → Dec (n ≤ m) → T (some_before p (suc m))
    go again (yes l) = or_left (some_before p m) (p m) (again l)
    go again (no l) = let e : n ≡ suc m = omega arith in rw e at t
