-- Tests that two letters or situations are equal, that compute, and that decide equality. The library's own decisions do not compute outside.
use mathlib.Core.Path.{◌≡◌, refl, ap, ap₂, subst, sym}
use mathlib.Core.Bool.{Bool, true, false, not, ◌&&◌, ◌||◌}
use mathlib.Core.HLevel.{Discrete}
use mathlib.Core.List.{List, [], ◌∷◌, Memᴰ}
use lib.Dec.{T, T_not}
use Rattle.basics.proofs.Tests.{T_and, and_both, or_left, or_right}
use Rattle.basics.specs.Count.{NoRepeats}
use Rattle.meaning.specs.Value.{equal, compares, same_value}
use Rattle.meaning.specs.Situation.{Situation, whole, cut}
use Rattle.meaning.proofs.Value.{compares-equal, same_means}

abbrev pub same_mark : Bool → Bool → Bool
same_mark true b = b
same_mark false b = not b

abbrev pub same_list : {X : Type 0} → (X → X → Bool) → List X → List X → Bool
same_list f [] [] = true
same_list f [] (y ∷ ys) = false
same_list f (x ∷ xs) [] = false
same_list f (x ∷ xs) (y ∷ ys) = f x y && same_list f xs ys

abbrev pub same_situation : Situation → Situation → Bool
same_situation (whole r) (whole t) = same_list (same_list (compares equal)) r t
same_situation (whole r) (cut t y n) = false
same_situation (cut r x m) (whole t) = false
same_situation (cut r x m) (cut t y n) = same_list (same_list (compares equal)) r t && (same_list same_value x y && same_list same_mark m n)

-- A test that decides equality.
pub record Decides {X : Type 0} (f : X → X → Bool) : Type 0 where
  pub sound : (x y : X) → T (f x y) → x ≡ y
  pub reflexive : (x : X) → T (f x x)

integers : Decides (compares equal)
integers = record { sound = λ x y. (compares-equal x y).0; reflexive = λ x. (compares-equal x x).1 refl }

values : Decides same_value
values = record { sound = λ x y. (same_means x y).0; reflexive = λ x. (same_means x x).1 refl }

marks : Decides same_mark
marks = record { sound = sound; reflexive = reflexive }
  where
    sound : (x y : Bool) → T (same_mark x y) → x ≡ y
    sound true true t = refl
    sound true false t = absurd t
    sound false true t = absurd t
    sound false false t = refl

    reflexive : (x : Bool) → T (same_mark x x)
    reflexive true = tt
    reflexive false = tt

pub lists : {X : Type 0} {f : X → X → Bool} → Decides f → Decides (same_list f)
lists {X} {f} d = record { sound = sound; reflexive = reflexive }
  where
    sound : (x y : List X) → T (same_list f x y) → x ≡ y
    sound [] [] t = refl
    sound [] (y ∷ ys) t = absurd t
    sound (x ∷ xs) [] t = absurd t
    sound (x ∷ xs) (y ∷ ys) t = let p = (T_and (f x y) (same_list f xs ys)).0 t in ap₂ ◌∷◌ (d.sound x y p.0) (sound xs ys p.1)

    reflexive : (x : List X) → T (same_list f x x)
    reflexive [] = tt
    reflexive (x ∷ xs) = and_both (f x x) (same_list f xs xs) (d.reflexive x) (reflexive xs)

situations : Decides same_situation
situations = record { sound = sound; reflexive = reflexive }
  where
    sound : (x y : Situation) → T (same_situation x y) → x ≡ y
    sound (whole r) (whole t) h = ap whole ((lists (lists integers)).sound r t h)
    sound (whole r) (cut t y n) h = absurd h
    sound (cut r x m) (whole t) h = absurd h
    sound (cut r x m) (cut t y n) h =
        let p = (T_and (same_list (same_list (compares equal)) r t) (same_list same_value x y && same_list same_mark m n)).0 h in
        let q = (T_and (same_list same_value x y) (same_list same_mark m n)).0 p.1 in
        λ i. cut ((lists (lists integers)).sound r t p.0 i) ((lists values).sound x y q.0 i) ((lists marks).sound m n q.1 i)

    reflexive : (x : Situation) → T (same_situation x x)
    reflexive (whole r) = (lists (lists integers)).reflexive r
    reflexive (cut r x m) =
        and_both (same_list (same_list (compares equal)) r r) (same_list same_value x x && same_list same_mark m m) ((lists (lists integers)).reflexive r)
        (and_both (same_list same_value x x) (same_list same_mark m m) ((lists values).reflexive x) ((lists marks).reflexive m))

pub same_situation-sound : (x y : Situation) → T (same_situation x y) → x ≡ y
same_situation-sound x y t = situations.sound x y t

pub same_situation-complete : (x y : Situation) → x ≡ y → T (same_situation x y)
same_situation-complete x y e = subst (λ z. T (same_situation x z)) e (situations.reflexive x)

-- The decision that computes.
abbrev pub decide_by : {x y : Situation} (b : Bool) → same_situation x y ≡ b → Dec (x ≡ y)
decide_by {x} {y} true e = yes (same_situation-sound x y (subst T (sym e) tt))
decide_by {x} {y} false e = no (λ q. subst T e (same_situation-complete x y q))

abbrev pub decide_situation : Discrete Situation
decide_situation x y = decide_by {x = x} {y = y} (same_situation x y) refl

-- The situation is one of the list.
abbrev pub is_member : Situation → List Situation → Bool
is_member x [] = false
is_member x (y ∷ ys) = same_situation x y || is_member x ys

pub is_member-sound : (x : Situation) (l : List Situation) → T (is_member x l) → Memᴰ x l
is_member-sound x [] t = absurd t
is_member-sound x (y ∷ ys) t = go (same_situation x y) refl t (is_member-sound x ys)
  where
    go : (b : Bool) → same_situation x y ≡ b → T (b || is_member x ys) → (T (is_member x ys) → Memᴰ x ys) → Memᴰ x (y ∷ ys)
    go true e t rest = Memᴰ.head (same_situation-sound x y (subst T (sym e) tt))
    go false e t rest = Memᴰ.tail (rest t)

is_member-complete : (x : Situation) (l : List Situation) → Memᴰ x l → T (is_member x l)
is_member-complete x [] x'' = elim x'' [ ]
is_member-complete x (y ∷ ys) (Memᴰ.head e) = or_left (same_situation x y) (is_member x ys) (same_situation-complete x y e)
is_member-complete x (y ∷ ys) (Memᴰ.tail m) = or_right (same_situation x y) (is_member x ys) (is_member-complete x ys m)

-- The list has no repeats.
abbrev pub has_no_repeats : List Situation → Bool
has_no_repeats [] = true
has_no_repeats (x ∷ xs) = not (is_member x xs) && has_no_repeats xs

pub has_no_repeats-sound : (l : List Situation) → T (has_no_repeats l) → NoRepeats l
has_no_repeats-sound [] t = tt
has_no_repeats-sound (x ∷ xs) t =
    let p = (T_and (not (is_member x xs)) (has_no_repeats xs)).0 t in
    (λ m. T_not (is_member x xs) p.0 (is_member-complete x xs m), has_no_repeats-sound xs p.1)
