-- Laws of lists: properties of every member and of some member, what stands at a place, pieces that are written one behind the other, and parts that reach
-- beyond the end.
use Prim.Native.Nat.{ℕ, zero, suc, ◌+◌, ◌-◌, ◌<◌, ◌*◌, ◌≤◌, min}
use native.Mathlib.Omega.{arith}
use native.Mathlib.Decide.{dec_lt, ℕ_discrete}
use native.Mathlib.Nat.{le_of_suc-le-suc, not-suc-le-zero, mul-le-mul_right, suc-mul}
use native.Mathlib.Numerals.{add-one}
use mathlib.Core.Path.{◌≡◌, refl, sym, ◌∙◌, ap, subst}
use mathlib.Core.Logic.{◌↔◌, inl, inr, ◌≢◌}
use mathlib.Core.Bool.{Bool, true, false}
use mathlib.Core.List.{List, [], ◌∷◌, ◌++◌, map, Memᴰ}
use lib.Dec.{leb}
use lib.ListN.{length, get_or, set, take, drop, replicate, length-drop, drop_of_length-le}
use lib.Seq.{sets, take_all, take-nil, get_or-set_same, get_or-set_other}
use borrow.Author.Count.{below_more}
use borrow.Author.Tests.{leb-true, leb-false}
use Rattle.basics.specs.Lists.{All, Some}

-- ---- a property of every member

module _ {X : Type 0} (P : X → Type 0) where
  pub All-append : (xs ys : List X) → All P (xs ++ ys) ↔ (All P xs × All P ys)
  All-append [] ys = (λ h. (tt, h), λ h. h.1)
  All-append (x ∷ xs) ys = let r = All-append xs ys in (λ h. let t = r.0 h.1 in ((h.0, t.0), t.1), λ h. (h.0.0, r.1 (h.0.1, h.1)))

  pub All-member : {x : X} {xs : List X} → All P xs → Memᴰ x xs → P x
  All-member h (Memᴰ.head e) = subst P (sym e) h.0
  All-member h (Memᴰ.tail m) = All-member h.1 m

  pub member-All : (xs : List X) → ((x : X) → Memᴰ x xs → P x) → All P xs
  member-All [] f = tt
  member-All (x ∷ xs) f = (f x (Memᴰ.head refl), member-All xs (λ y m. f y (Memᴰ.tail m)))

  pub All-get_or : (xs : List X) → All P xs → (j : ℕ) (d : X) → j < length xs → P (get_or xs j d)
  All-get_or [] h j d l = absurd (not-suc-le-zero l)
  All-get_or (x ∷ xs) h zero d l = h.0
  All-get_or (x ∷ xs) h (suc j) d l = All-get_or xs h.1 j d (le_of_suc-le-suc l)

-- A property that follows from another.
pub All-map : {X : Type 0} {P Q : X → Type 0} (xs : List X) → ((x : X) → P x → Q x) → All P xs → All Q xs
All-map [] f h = tt
All-map (x ∷ xs) f h = (f x h.0, All-map xs f h.1)

-- A property of what a function gives.
pub All-mapped : {X Y : Type 0} {P : X → Type 0} (Q : Y → Type 0) (f : X → Y) → ((x : X) → P x → Q (f x)) → (xs : List X) → All P xs → All Q (map f xs)
All-mapped Q f g [] h = tt
All-mapped Q f g (x ∷ xs) h = (g x h.0, All-mapped Q f g xs h.1)

pub All-unmapped : {X Y : Type 0} (Q : Y → Type 0) (f : X → Y) (xs : List X) → All Q (map f xs) → All (λ x. Q (f x)) xs
All-unmapped Q f [] h = tt
All-unmapped Q f (x ∷ xs) h = (h.0, All-unmapped Q f xs h.1)

-- ---- a property of some member

module _ {X : Type 0} (P : X → Type 0) where
  pub Some-left : (xs ys : List X) → Some P xs → Some P (xs ++ ys)
  Some-left [] ys h = absurd h
  Some-left (x ∷ xs) ys (inl p) = inl p
  Some-left (x ∷ xs) ys (inr h) = inr (Some-left xs ys h)

  pub Some-right : (xs ys : List X) → Some P ys → Some P (xs ++ ys)
  Some-right [] ys h = h
  Some-right (x ∷ xs) ys h = inr (Some-right xs ys h)

  pub Some-member : {x : X} {xs : List X} → Memᴰ x xs → P x → Some P xs
  Some-member (Memᴰ.head e) p = inl (subst P e p)
  Some-member (Memᴰ.tail m) p = inr (Some-member m p)

  pub member-Some : (xs : List X) → Some P xs → (x : X) × Memᴰ x xs × P x
  member-Some [] h = absurd h
  member-Some (x ∷ xs) (inl p) = (x, Memᴰ.head refl, p)
  member-Some (x ∷ xs) (inr h) = let o = member-Some xs h in (o.0, Memᴰ.tail o.1, o.2)

pub Some-mapped : {X Y : Type 0} {P : X → Type 0} (Q : Y → Type 0) (f : X → Y) → ((x : X) → P x → Q (f x)) → (xs : List X) → Some P xs → Some Q (map f xs)
Some-mapped Q f g [] h = absurd h
Some-mapped Q f g (x ∷ xs) (inl p) = inl (g x p)
Some-mapped Q f g (x ∷ xs) (inr h) = inr (Some-mapped Q f g xs h)

-- ---- reading a list at a place

-- Whether a property holds of every number below n is decided where it is decided of each.
pub below_decided : {P : ℕ → Type 0} → ((i : ℕ) → Dec (P i)) → (n : ℕ) → Dec ((i : ℕ) → i < n → P i)
below_decided d zero = yes (λ i h. absurd (omega arith))
below_decided {P} d (suc n) = by (below_decided d n) (d n)
  where
    by : Dec ((i : ℕ) → i < n → P i) → Dec (P n) → Dec ((i : ℕ) → i < suc n → P i)
    by (yes f) (yes x) = yes (λ i h. below_more P n f x i (subst (i <◌) (sym (add-one n)) h))
    by (yes f) (no x) = no (λ g. x (g n (omega arith)))
    by (no f) x = no (λ g. f (λ i h. g i (omega arith)))

-- What holds of every number below m and of every m + j with j below n holds below m + n.
pub below-sum : (P : ℕ → Type 0) (m n : ℕ) → ((k : ℕ) → k < m → P k) → ((j : ℕ) → j < n → P (m + j)) → (k : ℕ) → k < m + n → P k
below-sum P m n f g k h = decide (dec_lt k m)
  where
    decide : Dec (k < m) → P k
    decide (yes l) = f k l
    decide (no l) = let e : m + (k - m) ≡ k = omega arith in subst P e (g (k - m) (omega arith))

pub get_d_map : {X Y : Type 0} (f : X → Y) (xs : List X) (j : ℕ) (d : X) (e : Y) → j < length xs → get_or (map f xs) j e ≡ f (get_or xs j d)
get_d_map f [] j d e l = absurd (not-suc-le-zero l)
get_d_map f (x ∷ xs) zero d e l = refl
get_d_map f (x ∷ xs) (suc j) d e l = get_d_map f xs j d e (le_of_suc-le-suc l)

-- What is left of a list of one member behind a place.
pub drop-replicate : {X : Type 0} (x : X) (k n : ℕ) → drop k (replicate n x) ≡ replicate (n - k) x
drop-replicate x zero n = ap (λ m. replicate m x) (let e : n ≡ n - 0 = omega arith in e)
drop-replicate x (suc k) zero = ap (λ m. replicate m x) (let e : 0 ≡ 0 - suc k = omega arith in e)
drop-replicate x (suc k) (suc n) = drop-replicate x k n ∙ ap (λ m. replicate m x) (let e : n - k ≡ suc n - suc k = omega arith in e)

-- What is written in two pieces, one behind the other, is written in one.
pub sets_append : {X : Type 0} (l : List X) (n : ℕ) (xs ys : List X) → sets (sets l n xs) (n + length xs) ys ≡ sets l n (xs ++ ys)
sets_append l n [] ys = let same : n + 0 ≡ n = omega arith in ap (λ k. sets l k ys) same
sets_append l n (x ∷ xs) ys =
    let next : n + suc (length xs) ≡ suc n + length xs = omega arith in
    ap (λ k. sets (sets (set l n x) (suc n) xs) k ys) next ∙ sets_append (set l n x) (suc n) xs ys

-- ---- lists that hold one number a row

-- a property of one row and its number holds of every row below n + 1, if it held below n and holds of the number stored at n
pub below_set : (P : ℕ → ℕ → Type 0) (list : List ℕ) (n v : ℕ) → n < length list → ((s : ℕ) → s < n → P s (get_or list s 0)) → P n v
    → (s : ℕ) → s < n + 1 → P s (get_or (set list n v) s 0)
below_set P list n v h old new s hs = go (ℕ_discrete s n)
  where
    go : Dec (s ≡ n) → P s (get_or (set list n v) s 0)
    go (yes q) = rw (q, get_or-set_same list n v 0 h) new
    go (no q) = rw (get_or-set_other list n s v 0 q) (old s (omega arith))

pub set_other : (list : List ℕ) (n v s : ℕ) → s ≢ n → get_or (set list n v) s 0 ≡ get_or list s 0
set_other list n v s q = get_or-set_other list n s v 0 q

-- row s lies within n rows
pub row_fits : (s n letters room : ℕ) → s < n → n * letters ≤ room → s * letters + letters ≤ room
row_fits s n letters room h g =
    let step : suc s * letters ≤ n * letters = mul-le-mul_right letters h in
    let e : suc s * letters ≡ s * letters + letters = suc-mul s letters in
    omega arith

-- ---- a part of a list that may reach beyond it

pub clipped : {X : Type 0} (l : List X) (s k : ℕ) {a e : ℕ} → a ≡ min s (length l) → e ≡ min (s + k) (length l) → take (e - a) (drop a l) ≡ take k (drop s l)
clipped l s k {a} {e} p q = by (leb s (length l)) refl
  where
    inside : s ≤ length l → (t : Bool) → leb (s + k) (length l) ≡ t → take (e - a) (drop a l) ≡ take k (drop s l)
    inside h true x =
        let y = leb-true (s + k) (length l) x in
        let u : e - a ≡ k = omega arith in
        let v : a ≡ s = omega arith in
        ap (λ n. take n (drop a l)) u ∙ ap (λ n. take k (drop n l)) v
    inside h false x =
        let y = leb-false (s + k) (length l) x in
        let v : a ≡ s = omega arith in
        let d = length-drop a l in
        let d' = length-drop s l in
        take_all (e - a) (drop a l) (omega arith) ∙ ap (λ n. drop n l) v ∙ sym (take_all k (drop s l) (omega arith))

    by : (t : Bool) → leb s (length l) ≡ t → take (e - a) (drop a l) ≡ take k (drop s l)
    by true x = inside (leb-true s (length l) x) (leb (s + k) (length l)) refl
    by false x =
        let y = leb-false s (length l) x in
        ap (take (e - a)) (drop_of_length-le l {i = a} (omega arith)) ∙ take-nil (e - a) ∙ sym (ap (take k) (drop_of_length-le l {i = s} (omega arith)) ∙ take-nil k)
