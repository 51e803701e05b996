-- The number of things with a property is one number, and there are more than r exactly if it is above r. From the pigeonhole principle: a list
-- without repeats whose members all lie in another list is no longer than that list. Things in rows are counted by their rows.
use Prim.Native.Nat.{ℕ, zero, suc, ◌≤◌, ◌<◌, zero-le}
use native.Mathlib.Omega.{arith}
use native.Mathlib.Nat.{not-suc-le-zero}
use native.Mathlib.Decide.{ℕ_discrete}
use mathlib.Core.Path.{◌≡◌, refl, sym, ◌∙◌, ap, subst}
use mathlib.Core.Logic.{◌↔◌, ◌⊎◌, inl, inr}
use mathlib.Core.List.Memᴰ
use mathlib.Core.List.{List, [], ◌∷◌, Memᴰ}
use lib.ListN.{length}
use Rattle.basics.specs.Count.{NoRepeats, CountOf, MoreThan}

module _ {X : Type 0} where
  -- The list without one of its members.
  without : {x : X} {xs : List X} → Memᴰ x xs → List X
  without (Memᴰ.head {xs = ys} e) = ys
  without (Memᴰ.tail {x = y} m) = y ∷ without m

  length_without : {x : X} {xs : List X} (m : Memᴰ x xs) → length xs ≡ suc (length (without m))
  unfolding without
  length_without (Memᴰ.head e) = refl
  length_without (Memᴰ.tail m) = ap suc (length_without m)

  member-without : {x y : X} {xs : List X} (m : Memᴰ x xs) → Memᴰ y xs → (y ≡ x) ⊎ Memᴰ y (without m)
  unfolding without
  member-without (Memᴰ.head e) k = elim (Memᴰ.cases_cons k) [ inl p ↦ inl (p ∙ sym e) | inr q ↦ inr q ]
  member-without {x} {y} (Memᴰ.tail {x = z} {xs = zs} m) k = go (member-without m) (Memᴰ.cases_cons k)
    where
      go : (Memᴰ y zs → (y ≡ x) ⊎ Memᴰ y (without m)) → (y ≡ z) ⊎ Memᴰ y zs → (y ≡ x) ⊎ Memᴰ y (z ∷ without m)
      go again (inl p) = inr (Memᴰ.head p)
      go again (inr q) = elim (again q) [ inl p ↦ inl p | inr q ↦ inr (Memᴰ.tail q) ]

  pub list_pigeonhole : (xs ys : List X) → NoRepeats xs → ((x : X) → Memᴰ x xs → Memᴰ x ys) → length xs ≤ length ys
  list_pigeonhole [] ys d h = zero-le
  list_pigeonhole (x ∷ xs) ys d h =
      let m = h x (Memᴰ.head refl) in
      let r = list_pigeonhole xs (without m) d.1 (λ z k. elim (member-without m (h z (Memᴰ.tail k))) [ inl e ↦ absurd (d.0 (Memᴰ.cast (sym e) k)) | inr q ↦ q ]) in
      omega (arith, length_without m)

  module _ {P : X → Type 0} where
    count_le : {m n : ℕ} → CountOf P m → CountOf P n → m ≤ n
    count_le a b = omega (arith, list_pigeonhole a.list b.list a.distinct (λ t k. b.every t (a.found t k)), a.count, b.count)

    -- There is at most one number of things.
    pub count_unique : {m n : ℕ} → CountOf P m → CountOf P n → m ≡ n
    count_unique a b = omega (arith, count_le a b, count_le b a)

    -- There are more than r exactly if their number is above r.
    pub more_iff : {m : ℕ} → CountOf P m → (r : ℕ) → MoreThan P r ↔ (r < m)
    more_iff a r = (
      λ x. omega (arith, list_pigeonhole x.list a.list x.distinct (λ t k. a.every t (x.found t k)), a.count, x.longer),
      λ l. record { list = a.list; distinct = a.distinct; found = a.found; longer = omega (arith, a.count) },
    )

    -- Not both: at most r, and more than r.
    pub count_excludes_more : {m : ℕ} → CountOf P m → (r : ℕ) → m ≤ r → MoreThan P r → ⊥
    count_excludes_more a r h x = omega (arith, (more_iff a r).0 x)

-- ---- things in rows: the values of a function below a number, the last first

module _ {X : Type 0} (f : ℕ → X) where
  up_to : ℕ → List X
  up_to zero = []
  up_to (suc n) = f n ∷ up_to n

  up_to-length : (n : ℕ) → length (up_to n) ≡ n
  unfolding up_to
  up_to-length zero = refl
  up_to-length (suc n) = ap suc (up_to-length n)

  up_to-member : (n i : ℕ) → i < n → Memᴰ (f i) (up_to n)
  unfolding up_to
  up_to-member zero i h = absurd (not-suc-le-zero h)
  up_to-member (suc n) i h = by (ℕ_discrete i n) (up_to-member n i)
    where
      by : Dec (i ≡ n) → (i < n → Memᴰ (f i) (up_to n)) → Memᴰ (f i) (f n ∷ up_to n)
      by (yes e) again = Memᴰ.head (ap f e)
      by (no e) again = Memᴰ.tail (again (omega arith))

  up_to_origin : (n : ℕ) (x : X) → Memᴰ x (up_to n) → (i : ℕ) × (i < n) × (x ≡ f i)
  unfolding up_to
  up_to_origin zero x m = absurd (Memᴰ.not-nil m)
  up_to_origin (suc n) x (Memᴰ.head e) = (n, omega arith, e)
  up_to_origin (suc n) x (Memᴰ.tail m) = let o = up_to_origin n x m in (o.0, omega (arith, o.1), o.2)

  up_to-distinct : (n : ℕ) → ((i j : ℕ) → i < j → j < n → f i ≡ f j → ⊥) → NoRepeats (up_to n)
  unfolding up_to
  up_to-distinct zero d = tt
  up_to-distinct (suc n) d = (
    λ m. let o = up_to_origin n (f n) m in d o.0 n o.1 (omega arith) (sym o.2),
    up_to-distinct n (λ i j h k e. d i j h (omega arith) e),
  )

-- n rows hold different things with the property.
pub record InRows {X : Type 0} (P : X → Type 0) (f : ℕ → X) (n : ℕ) : Type 0 where
  pub distinct : (i j : ℕ) → i < j → j < n → f i ≡ f j → ⊥
  pub holds : (i : ℕ) → i < n → P (f i)

module _ {X : Type 0} {P : X → Type 0} {f : ℕ → X} {n : ℕ} (r : InRows P f n) where
  member_holds : (x : X) → Memᴰ x (up_to f n) → P x
  member_holds x m = let o = up_to_origin f n x m in subst P (sym o.2) (r.holds o.0 o.1)

  -- Rows that hold all of them count them.
  pub rows_count : ((x : X) → P x → (i : ℕ) × (i < n) × (f i ≡ x)) → CountOf P n
  rows_count all =
      record {
        list = up_to f n;
        distinct = up_to-distinct f n r.distinct;
        found = member_holds;
        every = λ x p. let o = all x p in Memᴰ.cast (sym o.2) (up_to-member f n o.0 o.1);
        count = up_to-length f n;
      }

  -- There are at least as many as rows.
  pub rows_at_most : {m : ℕ} → CountOf P m → n ≤ m
  rows_at_most c =
      omega (arith, list_pigeonhole (up_to f n) c.list (up_to-distinct f n r.distinct) (λ x k. c.every x (member_holds x k)), up_to-length f n, c.count)

  -- One more than the rows hold.
  pub rows_more : (x : X) → P x → ((i : ℕ) → i < n → f i ≡ x → ⊥) → MoreThan P n
  rows_more x p new =
      record {
        list = x ∷ up_to f n;
        distinct = (λ m. let o = up_to_origin f n x m in new o.0 o.1 (sym o.2), up_to-distinct f n r.distinct);
        found = found;
        longer = omega (arith, up_to-length f n);
      }
    where
      found : (y : X) → Memᴰ y (x ∷ up_to f n) → P y
      found y (Memᴰ.head e) = subst P (sym e) p
      found y (Memᴰ.tail m) = member_holds y m

-- ---- one property for another

module _ {X : Type 0} {P Q : X → Type 0} (to : (x : X) → P x → Q x) where
  pub count_same : ((x : X) → Q x → P x) → {m : ℕ} → CountOf P m → CountOf Q m
  count_same from c = record { list = c.list; distinct = c.distinct; found = λ x m. to x (c.found x m); every = λ x q. c.every x (from x q); count = c.count }

  pub more_same : {r : ℕ} → MoreThan P r → MoreThan Q r
  more_same c = record { list = c.list; distinct = c.distinct; found = λ x m. to x (c.found x m); longer = c.longer }
