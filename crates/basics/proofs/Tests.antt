-- Laws of tests, which are values of `Bool`, and of what they say, by `T`; and of choices by a test.
use Prim.Native.Nat.{◌≤◌}
use native.Mathlib.Omega.{arith}
use mathlib.Core.Path.{◌≡◌, refl, sym}
use mathlib.Core.Logic.{◌↔◌, ◌⊎◌, inl, inr}
use mathlib.Core.Bool.{Bool, true, false, not, cond, ◌&&◌, ◌||◌, true≢false}
use lib.Dec.{T}

pub T-dec : (b : Bool) → Dec (T b)
T-dec true = yes tt
T-dec false = no (λ t. t)

pub true_of_T : (b : Bool) → T b → b ≡ true
true_of_T true t = refl
true_of_T false t = absurd t

pub T-of_true : (b : Bool) → b ≡ true → T b
T-of_true b e = rw e tt

-- No test both passes and fails.
pub not-both : {X : Type 0} → false ≡ true → X
not-both e = absurd (true≢false (sym e))

pub not-passed : (b : Bool) → T (not b) → b ≡ false
not-passed true t = absurd t
not-passed false t = refl

pub by_contradiction : (b : Bool) → (T (not b) → ⊥) → T b
by_contradiction true h = tt
by_contradiction false h = absurd (h tt)

-- ---- `&&` and `||`

pub and_left : (b c : Bool) → T (b && c) → T b
and_left true c t = tt
and_left false c t = t

pub and_right : (b c : Bool) → T (b && c) → T c
and_right true c t = t
and_right false c t = absurd t

pub and_both : (b c : Bool) → T b → T c → T (b && c)
and_both true c t u = u
and_both false c t u = t

pub or_left : (b c : Bool) → T b → T (b || c)
or_left true c t = tt
or_left false c t = absurd t

pub or_right : (b c : Bool) → T c → T (b || c)
or_right true c t = tt
or_right false c t = t

pub or_true : (b : Bool) → b || true ≡ true
or_true true = refl
or_true false = refl

pub or_cases : {X : Type 0} (b c : Bool) → T (b || c) → (T b → X) → (T c → X) → X
or_cases true c t f g = f tt
or_cases false c t f g = g t

pub T_and : (b c : Bool) → T (b && c) ↔ (T b × T c)
T_and b c = (λ h. (and_left b c h, and_right b c h), λ p. and_both b c p.0 p.1)

pub T-or : (b c : Bool) → T (b || c) ↔ (T b ⊎ T c)
T-or b c = (λ h. or_cases b c h inl inr, from)
  where
    from : T b ⊎ T c → T (b || c)
    from (inl x) = or_left b c x
    from (inr x) = or_right b c x

-- ---- choices

-- A choice has a property if each of its branches has it where it is taken.
pub cond_cases : {X : Type 0} (P : X → Type 0) (c : Bool) {x y : X} → (T c → P x) → (T (not c) → P y) → P (cond c x y)
cond_cases P true f g = f tt
cond_cases P false f g = g tt

pub cond_true : {X : Type 0} (c : Bool) (x y : X) → T c → cond c x y ≡ x
cond_true true x y t = refl
cond_true false x y t = absurd t

pub cond_false : {X : Type 0} (c : Bool) (x y : X) → T (not c) → cond c x y ≡ y
cond_false true x y t = absurd t
cond_false false x y t = refl

-- A test as a number is at most 1.
pub bit-most : (b : Bool) → cond b 1 0 ≤ 1
bit-most true = omega arith
bit-most false = omega arith
