-- When a Boolean test decides a proposition: the tests on numbers do, and `||`, `&&` and `not` keep it. All from the definitions.
use Prim.Native.Nat.{ℕ, ◌≤◌, ◌<◌, suc}
use mathlib.Core.Path.{◌≡◌, refl, sym}
use mathlib.Core.Bool.{Bool, true, false, not, ◌&&◌, ◌||◌, true≢false}
use mathlib.Core.Logic.{◌⊎◌, inl, inr}
use native.Mathlib.Omega.{arith}
use lib.Dec.{T, leb, ltb, eqb}
use borrow.Author.Tests.{ltb-true, ltb-false, leb-true, leb-false, eqb-true, eqb-false}

-- The test's value says whether the proposition holds.
pub data Reflects (P : Type 0) : Bool → Type 0 where
  holds : P → Reflects P true
  fails : (P → ⊥) → Reflects P false

pub reflects : {P : Type 0} (b : Bool) → (b ≡ true → P) → (b ≡ false → P → ⊥) → Reflects P b
reflects true f g = holds (f refl)
reflects false f g = fails (g refl)

-- What a test's value says, both ways.
pub from_true : {P : Type 0} {b : Bool} → Reflects P b → b ≡ true → P
from_true (holds p) e = p
from_true (fails n) e = absurd (true≢false (sym e))

pub from_false : {P : Type 0} {b : Bool} → Reflects P b → b ≡ false → P → ⊥
from_false (holds p) e q = true≢false e
from_false (fails n) e q = n q

pub to_true : {P : Type 0} {b : Bool} → Reflects P b → P → b ≡ true
to_true (holds p) q = refl
to_true (fails n) q = absurd (n q)

pub to_false : {P : Type 0} {b : Bool} → Reflects P b → (P → ⊥) → b ≡ false
to_false (holds p) n = absurd (n p)
to_false (fails m) n = refl

pub decide : {P : Type 0} {b : Bool} → Reflects P b → Dec P
decide (holds p) = yes p
decide (fails n) = no n

-- Where a test passes, its type is inhabited, and conversely.
pub T-reflects : (b : Bool) → Reflects (T b) b
T-reflects true = holds tt
T-reflects false = fails (λ t. t)

-- A proposition that says the same is decided by the same test.
pub reflects_iff : {P Q : Type 0} {b : Bool} → (P → Q) → (Q → P) → Reflects P b → Reflects Q b
reflects_iff f g (holds p) = holds (f p)
reflects_iff f g (fails n) = fails (λ q. n (g q))

pub or_reflects : {P Q : Type 0} {b c : Bool} → Reflects P b → Reflects Q c → Reflects (P ⊎ Q) (b || c)
or_reflects (holds p) r = holds (inl p)
or_reflects (fails n) (holds q) = holds (inr q)
or_reflects {P} {Q} (fails n) (fails m) = fails neither
  where
    neither : P ⊎ Q → ⊥
    neither (inl p) = n p
    neither (inr q) = m q

pub and_reflects : {P Q : Type 0} {b c : Bool} → Reflects P b → Reflects Q c → Reflects (P × Q) (b && c)
and_reflects (holds p) (holds q) = holds (p, q)
and_reflects (holds p) (fails m) = fails (λ h. m h.1)
and_reflects (fails n) r = fails (λ h. n h.0)

pub not_reflects : {P : Type 0} {b : Bool} → Reflects P b → Reflects (P → ⊥) (not b)
not_reflects (holds p) = fails (λ n. n p)
not_reflects (fails n) = holds n

pub leb_reflects : (m n : ℕ) → Reflects (m ≤ n) (leb m n)
leb_reflects m n = reflects (leb m n) (leb-true m n) (λ e h. let k : n < m = leb-false m n e in omega arith)

pub ltb_reflects : (m n : ℕ) → Reflects (m < n) (ltb m n)
ltb_reflects m n = reflects (ltb m n) (ltb-true m n) (λ e h. let k : n ≤ m = ltb-false m n e in omega arith)

pub eqb_reflects : (m n : ℕ) → Reflects (m ≡ n) (eqb m n)
eqb_reflects m n = reflects (eqb m n) (eqb-true m n) (eqb-false m n)

-- A failed test, as a proposition.
pub false_reflects : (b : Bool) → Reflects (b ≡ false) (not b)
false_reflects true = fails true≢false
false_reflects false = holds refl

-- What is tested cannot both fail and not fail.
pub not-fails : {P : Type 0} {b : Bool} → Reflects P b → ((P → ⊥) → ⊥) → P
not-fails (holds p) n = p
not-fails (fails m) n = absurd (n m)

-- Tests of two propositions that say the same have the same value.
pub reflects_same : {P Q : Type 0} {b c : Bool} → Reflects P b → Reflects Q c → (P → Q) → (Q → P) → b ≡ c
reflects_same (holds p) r f g = sym (to_true r (f p))
reflects_same (fails n) r f g = sym (to_false r (λ q. n (g q)))

pub ltb_suc : (m n : ℕ) → ltb (suc m) (suc n) ≡ ltb m n
ltb_suc m n = reflects_same (ltb_reflects (suc m) (suc n)) (ltb_reflects m n) (λ h. omega arith) (λ h. omega arith)
