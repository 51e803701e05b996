-- Values kept in a list in the order of another list: the list ys holds, from its place n on, the values of f at the members of xs. From the
-- definition, by induction on xs.
use Prim.Native.Nat.{ℕ, suc, ◌+◌}
use native.Mathlib.Omega.{arith}
use native.Mathlib.Nat.{add-zero}
use mathlib.Core.Path.{◌≡◌, refl, ◌∙◌}
use mathlib.Core.List.{List, [], ◌∷◌, ◌++◌, map, Memᴰ}
use lib.ListN.{length, get_or}

-- Beyond its end the list ys is read as d.
abbrev pub Stored : {X Y : Type 0} → (X → Y) → Y → List Y → ℕ → List X → Type 0
Stored f d ys n [] = Unit
Stored f d ys n (x ∷ xs) = (get_or ys n d ≡ f x) × Stored f d ys (suc n) xs

module _ {X Y : Type 0} (f : X → Y) (d : Y) where
  pub Stored-left : (ys : List Y) (n : ℕ) (xs zs : List X) → Stored f d ys n (xs ++ zs) → Stored f d ys n xs
  Stored-left ys n [] zs h = tt
  Stored-left ys n (x ∷ xs) zs h = (h.0, Stored-left ys (suc n) xs zs h.1)

  pub Stored-right : (ys : List Y) (n : ℕ) (xs zs : List X) → Stored f d ys n (xs ++ zs) → Stored f d ys (n + length xs) zs
  Stored-right ys n [] zs h = rw add-zero h
  Stored-right ys n (x ∷ xs) zs h = let e : n + suc (length xs) ≡ suc n + length xs = omega arith in rw e (Stored-right ys (suc n) xs zs h.1)

  Stored-skip : (y : Y) (ys : List Y) (n : ℕ) (xs : List X) → Stored f d ys n xs → Stored f d (y ∷ ys) (suc n) xs
  Stored-skip y ys n [] h = tt
  Stored-skip y ys n (x ∷ xs) h = (h.0, Stored-skip y ys (suc n) xs h.1)

  pub Stored-map : (xs : List X) → Stored f d (map f xs) 0 xs
  Stored-map [] = tt
  Stored-map (x ∷ xs) = (refl, Stored-skip (f x) (map f xs) 0 xs (Stored-map xs))

pub Stored-cong : {X Y : Type 0} (f g : X → Y) (d : Y) (ys : List Y) (n : ℕ) (xs : List X) → ((x : X) → Memᴰ x xs → f x ≡ g x) → Stored f d ys n xs → Stored g d ys n xs
Stored-cong f g d ys n [] e h = tt
Stored-cong f g d ys n (x ∷ xs) e h = (h.0 ∙ e x (Memᴰ.head refl), Stored-cong f g d ys (suc n) xs (λ y m. e y (Memᴰ.tail m)) h.1)
