-- The loop that gives the live rows their first classes: rows of one kind get one class, named by the first row of the kind.
use mathlib.Core.Path.{◌≡◌, refl, sym, ◌∙◌}
use mathlib.Core.Logic.{◌⊎◌, inl, inr, ◌≢◌}
use mathlib.Core.List.{List}
use Prim.Native.Nat.{ℕ, suc, ◌+◌, ◌-◌, ◌<◌, ◌≤◌}
use native.Mathlib.Omega.{arith}
use native.Mathlib.Decide.{ℕ_discrete, dec_lt}
use lib.ListN.{length, get_or, set, length-set, get_or-eq_default}
use lib.Seq.{get_or-set_same}
use Rattle.marks.specs.Marks.{Marked}
use Rattle.marks.proofs.Laws.{marked-inside}
use Rattle.refine.specs.Steps.{ByFinals}
use Rattle.basics.proofs.Lists.{below_set, set_other}

-- the rows below n with P have the class v, named by the first of them; v is 0 as long as there is none
pub record IsKind (P : ℕ → Type 0) (class : List ℕ) (n v : ℕ) : Type 0 where
  pub most : v ≤ n
  pub own : 0 < v → P (v - 1) × (get_or class (v - 1) 0 ≡ v)
  pub all : (s : ℕ) → s < n → P s → (get_or class s 0 ≡ v) × (0 < v) × (v ≤ suc s)

module _ {P : ℕ → Type 0} {class : List ℕ} {n v : ℕ} (I : IsKind P class n v) where
  own_kept : (x : ℕ) → 0 < v → P (v - 1) × (get_or (set class n x) (v - 1) 0 ≡ v)
  own_kept x h = let o = I.own h in (o.0, set_other class n x (v - 1) (omega (arith, I.most)) ∙ o.1)

  -- row n is of another kind
  pub kind_other : (x : ℕ) → n < length class → ¬ P n → IsKind P (set class n x) (n + 1) v
  kind_other x h np = record {
    most = omega (arith, I.most);
    own = own_kept x;
    all = λ s hs. below_set (λ s c. P s → (c ≡ v) × (0 < v) × (v ≤ suc s)) class n x h I.all (λ p. absurd (np p)) s hs;
  }

  -- row n is of the kind
  pub kind_same : (w : ℕ) → n < length class → P n → (v ≡ 0 → w ≡ n + 1) × ((v ≡ 0 → ⊥) → w ≡ v) → IsKind P (set class n w) (n + 1) w
  kind_same w h p f = go (ℕ_discrete v 0)
    where
      go : Dec (v ≡ 0) → IsKind P (set class n w) (n + 1) w
      go (yes q) = let e : w ≡ n + 1 = f.0 q in let r : w - 1 ≡ n = omega arith in record {
        most = omega arith;
        own = λ z. rw r (p, get_or-set_same class n w 0 h);
        all = below_set (λ s c. P s → (c ≡ w) × (0 < w) × (w ≤ suc s)) class n w h (λ s hs ps. absurd (omega (arith, (I.all s hs ps).1))) (λ ps. (refl, omega arith, omega arith));
      }
      go (no q) = let e : w ≡ v = f.1 q in record {
        most = omega (arith, I.most);
        own = λ z. rw e (own_kept v (omega arith));
        all = below_set (λ s c. P s → (c ≡ w) × (0 < w) × (w ≤ suc s)) class n w h (λ s hs ps. rw e (I.all s hs ps)) (λ ps. (refl, omega arith, omega (arith, I.most)));
      }

-- the live rows that are final, and those that are not
pub record Closed (live finals : List ℕ) (s : ℕ) : Type 0 where
  pub lives : Marked live s
  pub final : Marked finals s

pub record Open (live finals : List ℕ) (s : ℕ) : Type 0 where
  pub lives : Marked live s
  pub pending : ¬ Marked finals s

-- after the first n rows
pub record Naming (live finals class : List ℕ) (n done pending : ℕ) : Type 0 where
  pub within : n ≤ length live
  pub same : length class ≡ length live
  pub none : (s : ℕ) → s < n → ¬ Marked live s → get_or class s 0 ≡ 0
  pub closed : IsKind (Closed live finals) class n done
  pub pendings : IsKind (Open live finals) class n pending

pub naming_named : {live finals class : List ℕ} {done pending : ℕ} → Naming live finals class (length live) done pending → ByFinals live finals class
naming_named {live} {finals} {class} {done} {pending} I = record {
  named = record { none = none; some = λ s m. (kind s m).1; low = low; name = name };
  finals_alike = alike;
  parted = parted;
}
  where
    none : (s : ℕ) → ¬ Marked live s → get_or class s 0 ≡ 0
    none s m = elim (dec_lt s (length live)) [ yes h ↦ I.none s h m | no h ↦ get_or-eq_default class 0 (omega (arith, I.same)) ]

    closed : (s : ℕ) → Marked live s → Marked finals s → (get_or class s 0 ≡ done) × (0 < done) × (done ≤ suc s)
    closed s m f = I.closed.all s (marked-inside live s m) (record { lives = m; final = f })

    pendings : (s : ℕ) → Marked live s → ¬ Marked finals s → (get_or class s 0 ≡ pending) × (0 < pending) × (pending ≤ suc s)
    pendings s m f = I.pendings.all s (marked-inside live s m) (record { lives = m; pending = f })

    -- what holds of each live row's class
    kind : (s : ℕ) → Marked live s → (get_or class (get_or class s 0 - 1) 0 ≡ get_or class s 0) × (0 < get_or class s 0) × (get_or class s 0 ≤ suc s)
    kind s m = elim (ℕ_discrete (get_or finals s 0) 1) [
      | yes f ↦ let c = closed s m f in rw c.0 ((I.closed.own c.1).1, c.1, c.2)
      | no f ↦ let c = pendings s m f in rw c.0 ((I.pendings.own c.1).1, c.1, c.2)
    ]

    low : (s : ℕ) → get_or class s 0 ≤ suc s
    low s = elim (ℕ_discrete (get_or live s 0) 1) [ yes m ↦ (kind s m).2 | no m ↦ omega (arith, none s m) ]

    name : (s : ℕ) → Marked live s → get_or class (get_or class s 0 - 1) 0 ≡ get_or class s 0
    name s m = (kind s m).0

    -- the two classes differ
    apart : 0 < done → done ≢ pending
    apart h e = let o = (I.closed.own h).0 in let p = (I.pendings.own (omega arith)).0 in p.pending (rw e at o.final)

    alike : (s t : ℕ) → Marked live s → Marked live t → get_or class s 0 ≡ get_or class t 0 → Marked finals s → Marked finals t
    alike s t ms mt e f = elim (ℕ_discrete (get_or finals t 0) 1) [
      | yes g ↦ g
      | no g ↦ let c = closed s ms f in absurd (apart c.1 (sym c.0 ∙ (e ∙ (pendings t mt g).0)))
    ]

    parted : (s t : ℕ) → Marked live s → Marked live t → get_or class s 0 ≢ get_or class t 0 → (Marked finals s × (¬ Marked finals t)) ⊎ (Marked finals t × (¬ Marked finals s))
    parted s t ms mt ne = go (ℕ_discrete (get_or finals s 0) 1) (ℕ_discrete (get_or finals t 0) 1)
      where
        go : Dec (Marked finals s) → Dec (Marked finals t) → (Marked finals s × (¬ Marked finals t)) ⊎ (Marked finals t × (¬ Marked finals s))
        go (yes f) (yes g) = absurd (ne ((closed s ms f).0 ∙ sym (closed t mt g).0))
        go (yes f) (no g) = inl (f, g)
        go (no f) (yes g) = inr (g, f)
        go (no f) (no g) = absurd (ne ((pendings s ms f).0 ∙ sym (pendings t mt g).0))

kind-none : (P : ℕ → Type 0) (class : List ℕ) → IsKind P class 0 0
kind-none P class = record { most = omega arith; own = λ h. absurd (omega arith); all = λ s h. absurd (omega arith) }

pub naming_none : (live finals class : List ℕ) → length class ≡ length live → Naming live finals class 0 0 0
naming_none live finals class e = record {
  within = omega arith;
  same = e;
  none = λ s h. absurd (omega arith);
  closed = kind-none (Closed live finals) class;
  pendings = kind-none (Open live finals) class;
}

module _ {live finals class : List ℕ} {n done pending : ℕ} (I : Naming live finals class n done pending) (h : n < length live) where
  inside : n < length class
  inside = omega (arith, I.same)

  nones : (v : ℕ) → (¬ Marked live n → v ≡ 0) → (s : ℕ) → s < n + 1 → ¬ Marked live s → get_or (set class n v) s 0 ≡ 0
  nones v f = below_set (λ s c. ¬ Marked live s → c ≡ 0) class n v inside I.none f

  pub naming_closed : (w : ℕ) → Marked live n → Marked finals n → (done ≡ 0 → w ≡ n + 1) × ((done ≡ 0 → ⊥) → w ≡ done) → Naming live finals (set class n w) (n + 1) w pending
  naming_closed w m f e = record {
    within = omega arith;
    same = simp length-set I.same;
    none = nones w (λ q. absurd (q m));
    closed = kind_same I.closed w inside (record { lives = m; final = f }) e;
    pendings = kind_other I.pendings w inside (λ p. p.pending f);
  }

  pub naming_open : (w : ℕ) → Marked live n → ¬ Marked finals n → (pending ≡ 0 → w ≡ n + 1) × ((pending ≡ 0 → ⊥) → w ≡ pending) → Naming live finals (set class n w) (n + 1) done w
  naming_open w m f e = record {
    within = omega arith;
    same = simp length-set I.same;
    none = nones w (λ q. absurd (q m));
    closed = kind_other I.closed w inside (λ p. f p.final);
    pendings = kind_same I.pendings w inside (record { lives = m; pending = f }) e;
  }

  pub naming_dead : ¬ Marked live n → Naming live finals (set class n 0) (n + 1) done pending
  naming_dead m = record {
    within = omega arith;
    same = simp length-set I.same;
    none = nones 0 (λ q. refl);
    closed = kind_other I.closed 0 inside (λ p. m p.lives);
    pendings = kind_other I.pendings 0 inside (λ p. m p.lives);
  }
