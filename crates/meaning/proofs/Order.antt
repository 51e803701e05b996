-- The order of the integers: it is transitive and antisymmetric, `least` and `greatest` are its bounds of two numbers, a number above
-- another lies a natural number of steps above it, and a function that never falls (rises) from one number to the next keeps (turns) the order.
use Prim.Native.Nat.{ℕ, zero, suc, ◌+◌, ◌-◌, ◌≤◌, ◌<◌}
use native.Mathlib.Omega.{arith}
use native.Mathlib.Nat.{le_trans, le_antisymm, le_of_lt}
use mathlib.Core.Path.{◌≡◌, sym, ◌∙◌, ap, subst, subst₂}
use mathlib.Core.Bool.{not}
use lib.Dec.{T, ltb, leb→le, le→leb, nleb→lt, ltb→lt, lt→ltb}
use lib.Arith.{le→nltb, lt_of_le-ne}
use lib.IntN.{ℤ, pos, negsuc, nat_abs, suc_ℤ, pred_ℤ, ◌+ℤ◌, ◌-ℤ◌, +ℤ-suc_ℤ, +ℤ_idr, +ℤ_comm, +ℤ-neg_ℤ_cancel, -ℤ-+ℤ_cancel, +ℤ_assoc}
use lib.Signed.{le_z, lt_z, ◌≤ℤ◌, ◌<ℤ◌, ≤ℤ_refl, le_z_yes, lt_z_yes, <ℤ-≤ℤ_trans, <ℤ_irrefl}
use Rattle.basics.proofs.Tests.{cond_cases, cond_true, cond_false}
use Rattle.meaning.specs.Arithmetic.{least, greatest}

le_z_trans : (a b c : ℤ) → T (le_z a b) → T (le_z b c) → T (le_z a c)
le_z_trans (pos a) (pos b) (pos c) h k = le→leb a c (le_trans (leb→le a b h) (leb→le b c k))
le_z_trans (pos a) (pos b) (negsuc c) h k = k
le_z_trans (pos a) (negsuc b) c h k = absurd h
le_z_trans (negsuc a) (pos b) (pos c) h k = tt
le_z_trans (negsuc a) (pos b) (negsuc c) h k = absurd k
le_z_trans (negsuc a) (negsuc b) (pos c) h k = tt
le_z_trans (negsuc a) (negsuc b) (negsuc c) h k = le→leb c a (le_trans (leb→le c b k) (leb→le b a h))

pub ≤ℤ_trans : {a b c : ℤ} → a ≤ℤ b → b ≤ℤ c → a ≤ℤ c
≤ℤ_trans {a} {b} {c} h k = le_z_yes (le_z_trans a b c h.le k.le)

le_z_antisym : (a b : ℤ) → T (le_z a b) → T (le_z b a) → a ≡ b
le_z_antisym (pos a) (pos b) h k = ap pos (le_antisymm (leb→le a b h) (leb→le b a k))
le_z_antisym (pos a) (negsuc b) h k = absurd h
le_z_antisym (negsuc a) (pos b) h k = absurd k
le_z_antisym (negsuc a) (negsuc b) h k = ap negsuc (le_antisymm (leb→le a b k) (leb→le b a h))

pub ≤ℤ_antisym : {a b : ℤ} → a ≤ℤ b → b ≤ℤ a → a ≡ b
≤ℤ_antisym {a} {b} h k = le_z_antisym a b h.le k.le

-- Of two numbers one is at most the other.
pub le_z_no : (a b : ℤ) → T (not (le_z a b)) → b ≤ℤ a
le_z_no (pos a) (pos b) t = le_z_yes (le→leb b a (let h = nleb→lt a b t in omega arith))
le_z_no (pos a) (negsuc b) t = le_z_yes tt
le_z_no (negsuc a) (pos b) t = absurd t
le_z_no (negsuc a) (negsuc b) t = le_z_yes (le→leb a b (let h = nleb→lt b a t in omega arith))

pub <ℤ-≤ℤ : {a b : ℤ} → a <ℤ b → a ≤ℤ b
<ℤ-≤ℤ {a} {b} h = le_z_yes (lt_z_le_z a b h.lt)
  where
    lt_z_le_z : (a b : ℤ) → T (lt_z a b) → T (le_z a b)
    lt_z_le_z (pos a) (pos b) t = le→leb a b (le_of_lt (ltb→lt a b t))
    lt_z_le_z (pos a) (negsuc b) t = t
    lt_z_le_z (negsuc a) (pos b) t = t
    lt_z_le_z (negsuc a) (negsuc b) t = le→leb b a (le_of_lt (ltb→lt b a t))

pub least-≤-left : (a b : ℤ) → least a b ≤ℤ a
least-≤-left a b = cond_cases (λ z. z ≤ℤ a) (le_z a b) (λ t. ≤ℤ_refl a) (le_z_no a b)

pub least-≤-right : (a b : ℤ) → least a b ≤ℤ b
least-≤-right a b = cond_cases (λ z. z ≤ℤ b) (le_z a b) le_z_yes (λ t. ≤ℤ_refl b)

-- What holds of both numbers holds of the least.
pub least-cases : (P : ℤ → Type 0) {a b : ℤ} → P a → P b → P (least a b)
least-cases P {a} {b} p q = cond_cases P (le_z a b) (λ t. p) (λ t. q)

pub greatest-≥-left : (a b : ℤ) → a ≤ℤ greatest a b
greatest-≥-left a b = cond_cases (λ z. a ≤ℤ z) (le_z a b) le_z_yes (λ t. ≤ℤ_refl a)

pub greatest-≥-right : (a b : ℤ) → b ≤ℤ greatest a b
greatest-≥-right a b = cond_cases (λ z. b ≤ℤ z) (le_z a b) (λ t. ≤ℤ_refl b) (le_z_no a b)

pub greatest-cases : (P : ℤ → Type 0) {a b : ℤ} → P a → P b → P (greatest a b)
greatest-cases P {a} {b} p q = cond_cases P (le_z a b) (λ t. q) (λ t. p)

-- ---- steps

pub ≤_sucℤ : (a : ℤ) → a ≤ℤ suc_ℤ a
≤_sucℤ (pos n) = le_z_yes (le→leb n (suc n) (omega arith))
≤_sucℤ (negsuc zero) = le_z_yes tt
≤_sucℤ (negsuc (suc n)) = le_z_yes (le→leb n (suc n) (omega arith))

pub predℤ_≤ : (a : ℤ) → pred_ℤ a ≤ℤ a
predℤ_≤ (pos zero) = le_z_yes tt
predℤ_≤ (pos (suc n)) = le_z_yes (le→leb n (suc n) (omega arith))
predℤ_≤ (negsuc n) = le_z_yes (le→leb n (suc n) (omega arith))

le_z_steps : (a b : ℤ) → T (le_z a b) → (n : ℕ) × (b ≡ a +ℤ pos n)
le_z_steps (pos a) (pos b) t = let h = leb→le a b t in (b - a, ap pos (omega arith))
le_z_steps (pos a) (negsuc b) t = absurd t
le_z_steps (negsuc a) (pos b) t =
    let e : b + suc a - suc a ≡ b = omega arith in
    (b + suc a, sym (cond_false (ltb (b + suc a) (suc a)) _ _ (le→nltb (b + suc a) (suc a) (omega arith)) ∙ ap pos e))
le_z_steps (negsuc a) (negsuc b) t =
    let h = leb→le b a t in
    let e : suc a - suc (a - b) ≡ b = omega arith in
    (a - b, sym (cond_true (ltb (a - b) (suc a)) _ _ (lt→ltb (a - b) (suc a) (omega arith)) ∙ ap negsuc e))

-- A function of the integers that never falls from one number to the next, or never rises.
pub record Rising (f : ℤ → ℤ) : Type 0 where
  pub step : (m : ℤ) → f m ≤ℤ f (suc_ℤ m)

pub record Falling (f : ℤ → ℤ) : Type 0 where
  pub step : (m : ℤ) → f (suc_ℤ m) ≤ℤ f m

rising-steps : {f : ℤ → ℤ} → Rising f → (a : ℤ) (n : ℕ) → f a ≤ℤ f (a +ℤ pos n)
rising-steps {f} r a zero = subst (λ z. f a ≤ℤ f z) (sym (+ℤ_idr a)) (≤ℤ_refl (f a))
rising-steps {f} r a (suc n) = ≤ℤ_trans (rising-steps r a n) (subst (λ z. f (a +ℤ pos n) ≤ℤ f z) (sym (+ℤ-suc_ℤ a (pos n))) (r.step (a +ℤ pos n)))

falling-steps : {f : ℤ → ℤ} → Falling f → (a : ℤ) (n : ℕ) → f (a +ℤ pos n) ≤ℤ f a
falling-steps {f} r a zero = subst (λ z. f z ≤ℤ f a) (sym (+ℤ_idr a)) (≤ℤ_refl (f a))
falling-steps {f} r a (suc n) = ≤ℤ_trans (subst (λ z. f z ≤ℤ f (a +ℤ pos n)) (sym (+ℤ-suc_ℤ a (pos n))) (r.step (a +ℤ pos n))) (falling-steps r a n)

pub rising-≤ : {f : ℤ → ℤ} → Rising f → {a b : ℤ} → a ≤ℤ b → f a ≤ℤ f b
rising-≤ {f} r {a} {b} h = let s = le_z_steps a b h.le in subst (λ z. f a ≤ℤ f z) (sym s.1) (rising-steps r a s.0)

pub falling-≤ : {f : ℤ → ℤ} → Falling f → {a b : ℤ} → a ≤ℤ b → f b ≤ℤ f a
falling-≤ {f} r {a} {b} h = let s = le_z_steps a b h.le in subst (λ z. f z ≤ℤ f a) (sym s.1) (falling-steps r a s.0)

-- ---- the distance from a lower number to a higher one

pub ≤-+ℤ_pos : (a : ℤ) (n : ℕ) → a ≤ℤ (a +ℤ pos n)
≤-+ℤ_pos a n = rising-steps (record { step = ≤_sucℤ }) a n

-- The distance of a number that lies n above a.
pub distance_+ℤ_pos : (a : ℤ) (n : ℕ) → nat_abs ((a +ℤ pos n) -ℤ a) ≡ n
distance_+ℤ_pos a n = rw (+ℤ_comm a (pos n), +ℤ-neg_ℤ_cancel (pos n) a)

-- A higher number is the lower one and the distance.
pub +ℤ_pos_distance : {a b : ℤ} → a ≤ℤ b → a +ℤ pos (nat_abs (b -ℤ a)) ≡ b
+ℤ_pos_distance {a} {b} h =
    let s = le_z_steps a b h.le in
    subst (λ z. a +ℤ pos (nat_abs (z -ℤ a)) ≡ z) (sym s.1) (ap (λ n. a +ℤ pos n) (distance_+ℤ_pos a s.0))

pub +ℤ_pos_≤ : (a : ℤ) {m n : ℕ} → m ≤ n → (a +ℤ pos m) ≤ℤ (a +ℤ pos n)
+ℤ_pos_≤ a {m} {n} h =
    let e : m + (n - m) ≡ n = omega arith in
    subst (λ z. (a +ℤ pos m) ≤ℤ z) (+ℤ_assoc a (pos m) (pos (n - m)) ∙ ap (λ k. a +ℤ pos k) e) (≤-+ℤ_pos (a +ℤ pos m) (n - m))

pub distance_≤ : {a b c : ℤ} → a ≤ℤ b → b ≤ℤ c → nat_abs (b -ℤ a) ≤ nat_abs (c -ℤ a)
distance_≤ {a} {b} {c} h k =
    let m = nat_abs (b -ℤ a) in
    let s = le_z_steps b c k.le in
    let e : c ≡ a +ℤ pos (m + s.0) = s.1 ∙ ap (λ z. z +ℤ pos s.0) (sym (+ℤ_pos_distance h)) ∙ +ℤ_assoc a (pos m) (pos s.0) in
    omega (arith, ap (λ z. nat_abs (z -ℤ a)) e ∙ distance_+ℤ_pos a (m + s.0))

pub distance_< : {a b c : ℤ} → a ≤ℤ b → b <ℤ c → nat_abs (b -ℤ a) < nat_abs (c -ℤ a)
distance_< {a} {b} {c} h k =
    let l = <ℤ-≤ℤ k in
    lt_of_le-ne (distance_≤ h l) (λ e. <ℤ_irrefl (subst (λ z. z <ℤ c) (sym (+ℤ_pos_distance h) ∙ ap (λ n. a +ℤ pos n) e ∙ +ℤ_pos_distance (≤ℤ_trans h l)) k))

-- ---- strictly

pub <_sucℤ : (a : ℤ) → a <ℤ suc_ℤ a
<_sucℤ (pos n) = lt_z_yes (lt→ltb n (suc n) (omega arith))
<_sucℤ (negsuc zero) = lt_z_yes tt
<_sucℤ (negsuc (suc n)) = lt_z_yes (lt→ltb n (suc n) (omega arith))

pub +ℤ_pos_< : (a : ℤ) {m n : ℕ} → m < n → (a +ℤ pos m) <ℤ (a +ℤ pos n)
+ℤ_pos_< a {m} {n} h = <ℤ-≤ℤ_trans (subst (λ z. (a +ℤ pos m) <ℤ z) (sym (+ℤ-suc_ℤ a (pos m))) (<_sucℤ (a +ℤ pos m))) (+ℤ_pos_≤ a {m = suc m} {n = n} (omega arith))

pub -ℤ-pos_≤ : (a : ℤ) (n : ℕ) → (a -ℤ pos n) ≤ℤ a
-ℤ-pos_≤ a n = subst (λ z. (a -ℤ pos n) ≤ℤ z) (-ℤ-+ℤ_cancel a (pos n)) (≤-+ℤ_pos (a -ℤ pos n) n)

pub -ℤ-pos_< : (a : ℤ) {m n : ℕ} → m < n → (a -ℤ pos n) <ℤ (a -ℤ pos m)
-ℤ-pos_< a {m} {n} h =
    let c = a -ℤ pos n in
    let d : n - m + m ≡ n = omega arith in
    let e : c +ℤ pos (n - m) ≡ a -ℤ pos m =
    sym (+ℤ-neg_ℤ_cancel (c +ℤ pos (n - m)) (pos m))
    ∙ ap (λ z. z -ℤ pos m) (+ℤ_assoc c (pos (n - m)) (pos m) ∙ ap (λ k. c +ℤ pos k) d ∙ -ℤ-+ℤ_cancel a (pos n)) in
    subst₂ (λ y z. y <ℤ z) (+ℤ_idr c) e (+ℤ_pos_< c {m = 0} {n = n - m} (omega arith))
