-- What one change of a round keeps, and what a round without a change leaves: each cleared or marked node has its reason, and each
-- parting of two classes has its record.
use mathlib.Core.Path.{◌≡◌, refl, sym}
use mathlib.Core.Logic.{◌⊎◌, inl, inr}
use mathlib.Core.Bool.{Bool, true, false, not}
use mathlib.Core.List.{List, [], ◌∷◌}
use Prim.Native.Nat.{ℕ, zero, suc, ◌+◌, ◌<◌}
use native.Mathlib.Nat.{not-suc-le-zero, le_of_suc-le-suc}
use native.Mathlib.Omega.{arith}
use native.Mathlib.Decide.{ℕ_discrete}
use lib.Dec.{T, eqb}
use lib.ListN.{length, get_or, set}
use Rattle.automaton.specs.Graph.{Graph, Member}
use Rattle.automaton.specs.Fixpoints.{Terminating, ends, Reaches, there, Inevitable, later}
use Rattle.automaton.specs.Fixpoints.{Distinguished, swap, by_final, by_edge, by_letter, SameStep, IsPartition}
use Rattle.automaton.specs.Rounds.{is_set, AllSet, AllCleared, sum_of, SameClass, HasReasons, SameGraphSignature}
use Rattle.automaton.proofs.Graph.{member_decide}

-- one store to a list

-- what holds at every place holds after a store, if it holds of what is stored
pub set_all {ℓ κ} : {A : Type ℓ} (P : ℕ → A → Type κ) (l : List A) (i : ℕ) (x d : A) → ((j : ℕ) → P j (get_or l j d)) → P i x
    → (j : ℕ) → P j (get_or (set l i x) j d)
set_all P [] i x d all p j = all j
set_all P (y ∷ l) zero x d all p zero = p
set_all P (y ∷ l) zero x d all p (suc j) = all (suc j)
set_all P (y ∷ l) (suc i) x d all p zero = all zero
set_all P (y ∷ l) (suc i) x d all p (suc j) = set_all (λ k. P (suc k)) l i x d (λ k. all (suc k)) p j

pub sum-set : (l : List ℕ) (i x : ℕ) → i < length l → sum_of (set l i x) + get_or l i 0 ≡ sum_of l + x
unfolding sum_of
sum-set [] i x h = absurd (not-suc-le-zero h)
sum-set (y ∷ l) zero x h = omega arith
sum-set (y ∷ l) (suc i) x h = omega (arith, sum-set l i x (le_of_suc-le-suc h))

-- reasons for marks

module _ {G : Graph} (l : List ℕ) (s : ℕ) where
  -- a node with no marked successor may be cleared
  pub terminating_clear : AllCleared G.nodes (Terminating G) l
      → ((a : ℕ) → a < G.letters → G.successor s a < G.nodes → T (not (is_set l (G.successor s a))))
      → AllCleared G.nodes (Terminating G) (set l s 0)
  terminating_clear all h = set_all (λ u x. u < G.nodes → T (not (not (eqb x 0))) → Terminating G u) l s 0 0 all
      λ _ _. ends λ a ha hu. all (G.successor s a) hu (h a ha hu)

  -- a node with a marked successor may be marked
  pub reaches-mark : {kept : ℕ → Bool} (x : ℕ) → AllSet (Reaches G kept) l
      → (a : ℕ) → a < G.letters → G.successor s a < G.nodes → T (is_set l (G.successor s a)) → AllSet (Reaches G kept) (set l s x)
  reaches-mark {kept} x all a ha hu m = set_all (λ u y. T (not (eqb y 0)) → Reaches G kept u) l s x 0 all
      λ _. there a ha hu (all (G.successor s a) m)

  -- a node whose live successors are all marked may be marked
  pub inevitable_mark : {live : ℕ → Bool} (x : ℕ) → AllSet (Inevitable G live) l
      → ((a : ℕ) → a < G.letters → Member G live (G.successor s a) → T (is_set l (G.successor s a)))
      → AllSet (Inevitable G live) (set l s x)
  inevitable_mark {live} x all h = set_all (λ u y. T (not (eqb y 0)) → Inevitable G live u) l s x 0 all
      λ _. later λ a ha m. all (G.successor s a) (h a ha m)

-- reasons for classes

-- each of m cases has P, or one gives Q
pub each_or : {Q : Type 0} (P : ℕ → Type 0) (m : ℕ) → ((a : ℕ) → a < m → P a ⊎ Q) → ((a : ℕ) → a < m → P a) ⊎ Q
each_or P zero f = inl λ a ha. absurd (not-suc-le-zero ha)
each_or {Q} P (suc m) f = go (each_or P m (λ a ha. f a (omega arith))) (f m (omega arith))
  where
    go : ((a : ℕ) → a < m → P a) ⊎ Q → P m ⊎ Q → ((a : ℕ) → a < suc m → P a) ⊎ Q
    go (inr q) y = inr q
    go (inl g) (inr q) = inr q
    go (inl g) (inl p) = inl λ a ha. pick a ha (ℕ_discrete a m)
      where
        pick : (a : ℕ) → a < suc m → Dec (a ≡ m) → P a
        pick a ha (yes e) = rw e p
        pick a ha (no ne) = g a (omega arith)

module _ {G : Graph} {live final : ℕ → Bool} where
  -- classes by the final set
  pub final-reason : (s t : ℕ) → (final s ≡ final t) ⊎ Distinguished G live final s t
  final-reason s t = go (final s) (final t) refl refl
    where
      go : (b c : Bool) → final s ≡ b → final t ≡ c → (b ≡ c) ⊎ Distinguished G live final s t
      go true true e f = inl refl
      go true false e f = inr (by_final {s = s} {t = t} (rw e tt) (rw f tt))
      go false true e f = inr (swap (by_final {s = t} {t = s} (rw f tt) (rw e tt)))
      go false false e f = inl refl

  module _ {class : ℕ → ℕ} (reasons : HasReasons G live final class) where
    step-reason : (s t a : ℕ) → a < G.letters → SameStep G live (SameClass class) s t a ⊎ Distinguished G live final s t
    step-reason s t a ha = go (member_decide G live u) (member_decide G live v)
      where
        u : ℕ
        u = G.successor s a

        v : ℕ
        v = G.successor t a

        both : Member G live u → Member G live v → SameClass class u v ⊎ Distinguished G live final u v
            → SameStep G live (SameClass class) s t a ⊎ Distinguished G live final s t
        both mu mv (inl e) = inl (record { to = λ _. mv; from = λ _. mu; step = λ _. e })
        both mu mv (inr d) = inr (by_letter a ha mu mv d)

        go : Dec (Member G live u) → Dec (Member G live v) → SameStep G live (SameClass class) s t a ⊎ Distinguished G live final s t
        go (yes mu) (yes mv) = both mu mv (reasons u v mu mv)
        go (yes mu) (no nv) = inr (by_edge a ha mu nv)
        go (no nu) (yes mv) = inr (swap (by_edge a ha mv nu))
        go (no nu) (no nv) = inl (record { to = λ m. absurd (nu m); from = λ m. absurd (nv m); step = λ m. absurd (nu m) })

    -- a round that keeps nodes of one signature in one class has a reason for every parting
    pub refine_reasons : {class' : ℕ → ℕ}
        → ((s t : ℕ) → Member G live s → Member G live t → SameGraphSignature G live class s t → SameClass class' s t) → HasReasons G live final class'
    refine_reasons {class'} keeps s t ms mt = go (reasons s t ms mt) (each_or (SameStep G live (SameClass class) s t) G.letters (step-reason s t))
      where
        go : SameClass class s t ⊎ Distinguished G live final s t
            → ((a : ℕ) → a < G.letters → SameStep G live (SameClass class) s t a) ⊎ Distinguished G live final s t
            → SameClass class' s t ⊎ Distinguished G live final s t
        go (inr d) y = inr d
        go (inl e) (inr d) = inr d
        go (inl e) (inl f) = inl (keeps s t ms mt (record { same = e; steps = f }))

    -- a round that parts no class leaves the partition
    pub signature_partition : ((s t : ℕ) → Member G live s → Member G live t → SameClass class s t → T (final s) → T (final t))
        → ((s t : ℕ) → Member G live s → Member G live t → SameClass class s t → SameGraphSignature G live class s t)
        → IsPartition G live final (SameClass class)
    signature_partition finals signature = record {
      reason = reasons;
      symmetric = λ s t ms mt. sym;
      finals = finals;
      steps = λ s t a ms mt e. (signature s t ms mt e).steps a;
    }
