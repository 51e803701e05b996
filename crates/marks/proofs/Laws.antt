-- What clearing or setting one mark does to a set of marks. From the definitions
-- of marks alone.
use mathlib.Core.Path.{◌≡◌, refl, sym, ◌∙◌}
use mathlib.Core.Logic.{◌⊎◌, inl, inr, ⊎_elim, ◌≢◌}
use mathlib.Core.List.{List, [], ◌∷◌}
use Prim.Native.Nat.{ℕ, zero, suc, ◌<◌}
use native.Mathlib.Omega.{arith}
use native.Mathlib.Decide.{ℕ_discrete}
use lib.ListN.{length, get_or, set}
use lib.Seq.{get_or-set_same, get_or-set_other}
use Rattle.marks.specs.Marks.{Marked, OnlyCleared, OnlyMarked}

-- marks

-- past the end nothing is marked
pub marked-inside : (marks : List ℕ) (s : ℕ) → Marked marks s → s < length marks
marked-inside [] s e = let z : ◌≡◌ {A = ℕ} 0 1 = e in omega arith
marked-inside (x ∷ xs) zero e = omega arith
marked-inside (x ∷ xs) (suc s) e = let h : s < length xs = marked-inside xs s e in omega arith

-- clearing

pub cleared_refl : (marks : List ℕ) → OnlyCleared marks marks
cleared_refl marks = record { row = λ s. inl refl }

pub cleared_trans : {a b c : List ℕ} → OnlyCleared a b → OnlyCleared b c → OnlyCleared a c
cleared_trans {a} {b} {c} p q = record { row = λ s. go s (p.row s) (q.row s) }
  where
    go : (s : ℕ) → (get_or b s 0 ≡ get_or a s 0) ⊎ ((get_or a s 0 ≡ 1) × (get_or b s 0 ≡ 0)) → (get_or c s 0 ≡ get_or b s 0) ⊎ ((get_or b s 0 ≡ 1) × (get_or c s 0 ≡ 0))
        → (get_or c s 0 ≡ get_or a s 0) ⊎ ((get_or a s 0 ≡ 1) × (get_or c s 0 ≡ 0))
    go s (inl f) (inl e) = inl (e ∙ f)
    go s (inl f) (inr e) = inr (sym f ∙ e.0, e.1)
    go s (inr f) (inl e) = inr (f.0, e ∙ f.1)
    go s (inr f) (inr e) = inr (f.0, e.1)

pub cleared-marked : {old new : List ℕ} → OnlyCleared old new → (s : ℕ) → Marked new s → Marked old s
cleared-marked k s a = ⊎_elim (λ e. sym e ∙ a) (λ e. absurd (let z : ◌≡◌ {A = ℕ} 0 1 = sym e.1 ∙ a in omega arith)) (k.row s)

pub cleared-set : (marks : List ℕ) (s : ℕ) → Marked marks s → OnlyCleared marks (set marks s 0)
cleared-set marks s m = record { row = λ t. go t (ℕ_discrete t s) }
  where
    go : (t : ℕ) → Dec (t ≡ s) → (get_or (set marks s 0) t 0 ≡ get_or marks t 0) ⊎ ((get_or marks t 0 ≡ 1) × (get_or (set marks s 0) t 0 ≡ 0))
    go t (yes q) = rw q (inr (m, get_or-set_same marks s 0 0 (marked-inside marks s m)))
    go t (no q) = inl (get_or-set_other marks s t 0 0 q)

-- marking

pub marked_refl : (marks : List ℕ) → OnlyMarked marks marks
marked_refl marks = record { row = λ s. inl refl }

pub marked_trans : {a b c : List ℕ} → OnlyMarked a b → OnlyMarked b c → OnlyMarked a c
marked_trans {a} {b} {c} p q = record { row = λ s. go s (p.row s) (q.row s) }
  where
    go : (s : ℕ) → (get_or b s 0 ≡ get_or a s 0) ⊎ ((get_or a s 0 ≢ 1) × (get_or b s 0 ≡ 1)) → (get_or c s 0 ≡ get_or b s 0) ⊎ ((get_or b s 0 ≢ 1) × (get_or c s 0 ≡ 1))
        → (get_or c s 0 ≡ get_or a s 0) ⊎ ((get_or a s 0 ≢ 1) × (get_or c s 0 ≡ 1))
    go s (inl f) (inl e) = inl (e ∙ f)
    go s (inl f) (inr e) = inr ((λ g. e.0 (f ∙ g)), e.1)
    go s (inr f) (inl e) = inr (f.0, e ∙ f.1)
    go s (inr f) (inr e) = inr (f.0, e.1)

pub marked-set : (marks : List ℕ) (s : ℕ) → s < length marks → ¬ Marked marks s → OnlyMarked marks (set marks s 1)
marked-set marks s h n = record { row = λ t. go t (ℕ_discrete t s) }
  where
    go : (t : ℕ) → Dec (t ≡ s) → (get_or (set marks s 1) t 0 ≡ get_or marks t 0) ⊎ ((get_or marks t 0 ≢ 1) × (get_or (set marks s 1) t 0 ≡ 1))
    go t (yes q) = rw q (inr (n, get_or-set_same marks s 1 0 h))
    go t (no q) = inl (get_or-set_other marks s t 1 0 q)
