-- The added entries of the normal form are met exactly where each added stream has the values of the expression that it stands for; and where
-- it has, the rewritten constraints are met exactly where the sheet's constraints are.
use Prim.Native.Nat.{ℕ, zero, suc, ◌+◌}
use native.Mathlib.Nat.{add-suc, suc-add, add-zero}
use mathlib.Core.Path.{◌≡◌, refl, sym, ◌∙◌, ap, ap₂}
use mathlib.Core.Logic.Iff
use mathlib.Core.Logic.{◌↔◌}
use mathlib.Core.List.{List, [], ◌∷◌, ◌++◌}
use lib.ListN.{length}
use Rattle.basics.proofs.Lists.{All-append}
use Rattle.basics.specs.Lists.{All}
use Rattle.meaning.specs.Value.{ValueStreams, equal}
use Rattle.meaning.specs.Arithmetic.{apply}
use Rattle.meaning.specs.Expression.{Expression, integer, name, first, next, negation, binary, conditional, fby, comparison, Constraint, always, until, negated, value_from, MeetsFrom}
use Rattle.meaning.specs.NormalForm.{added, added_count, rewritten, equation, added_entries, added_by, rewritten_constraint, entries_by, all_added, all_rewritten, all_entries, MeetsEntry}
use Rattle.meaning.proofs.Value.{same_means}
use Rattle.meaning.proofs.Scope.{chosen_cong, always_cong, Until-cong}

module _ (v : ValueStreams) where
  -- The streams from number n on have the values of the listed expressions.
  abbrev pub StandFor : ℕ → List Expression → Type 0
  StandFor n [] = Unit
  StandFor n (e ∷ es) = ((i : ℕ) → v n i ≡ value_from v e i) × StandFor (suc n) es

  pub StandFor-append : (n : ℕ) (es fs : List Expression) → StandFor n (es ++ fs) ↔ (StandFor n es × StandFor (n + length es) fs)
  StandFor-append n [] fs = rw add-zero (λ h. (tt, h), λ h. h.1)
  StandFor-append n (e ∷ es) fs =
      let r = StandFor-append (suc n) es fs in
      rw (add-suc, ← suc-add) (λ h. let t = r.0 h.1 in ((h.0, t.0), t.1), λ h. (h.0.0, r.1 (h.0.1, h.1)))

  -- Where the added streams are what they stand for, the rewritten expression has the value of the expression.
  pub rewritten-value : (n : ℕ) (e : Expression) → StandFor n (added e) → (i : ℕ) → value_from v (rewritten n e) i ≡ value_from v e i
  unfolding value_from added rewritten
  rewritten-value n (integer z) h i = refl
  rewritten-value n (name k) h i = refl
  rewritten-value n (first e) h i = rewritten-value n e h zero
  rewritten-value n (next e) h i = h.0 i
  rewritten-value n (negation e) h i = ap negated (rewritten-value n e h i)
  rewritten-value n (binary o a b) h i =
      let t = (StandFor-append n (added a) (added b)).0 h in
      ap₂ (apply o) (rewritten-value n a t.0 i) (rewritten-value (n + added_count a) b t.1 i)
  rewritten-value n (conditional c a b) h i =
      let t = (StandFor-append n (added c) (added a ++ added b)).0 h in
      let u = (StandFor-append (n + added_count c) (added a) (added b)).0 t.1 in
      chosen_cong (rewritten-value n c t.0 i) (rewritten-value (n + added_count c) a u.0 i) (rewritten-value (n + added_count c + added_count a) b u.1 i)
  rewritten-value n (fby a b) h i = ((StandFor-append n (added a) (fby a b ∷ a ∷ b ∷ added b)).0 h).1.0 i

  always-equal : (a b : Expression) → MeetsEntry v (always (comparison equal) a b) ↔ ((i : ℕ) → value_from v a i ≡ value_from v b i)
  unfolding MeetsEntry
  always-equal a b = (λ h i. (same_means (value_from v a i) (value_from v b i)).0 (h i), λ h i. (same_means (value_from v a i) (value_from v b i)).1 (h i))

  -- 000's entry x == expr, expr rewritten, where the streams added for expr are what they stand for.
  equation-stands : (k n : ℕ) (e : Expression) → StandFor n (added e) → MeetsEntry v (equation k (rewritten n e)) ↔ ((i : ℕ) → v k i ≡ value_from v e i)
  unfolding value_from
  equation-stands k n e s =
      let q = always-equal (name k) (rewritten n e) in
      (λ h i. q.0 h i ∙ rewritten-value n e s i, λ h. q.1 (λ i. h i ∙ sym (rewritten-value n e s i)))

  -- Two lists of entries one after the other, where the second may rely on the streams of the first.
  append-stand : (cs ds : List Constraint) (n : ℕ) (es fs : List Expression)
      → All (MeetsEntry v) cs ↔ StandFor n es → (StandFor n es → All (MeetsEntry v) ds ↔ StandFor (n + length es) fs) → All (MeetsEntry v) (cs ++ ds) ↔ StandFor n (es ++ fs)
  append-stand cs ds n es fs p q = (
    λ h. let t = (All-append (MeetsEntry v) cs ds).0 h in let s = p.0 t.0 in (StandFor-append n es fs).1 (s, (q s).0 t.1),
    λ h. let t = (StandFor-append n es fs).0 h in (All-append (MeetsEntry v) cs ds).1 (p.1 t.0, (q t.0).1 t.1),
  )

  -- An operator's entries are met exactly where its added streams are what they stand for.
  pub added_entries-stand : (n : ℕ) (e : Expression) → All (MeetsEntry v) (added_entries n e) ↔ StandFor n (added e)
  unfolding value_from added rewritten added_entries
  added_entries-stand n (integer z) = (λ h. h, λ h. h)
  added_entries-stand n (name k) = (λ h. h, λ h. h)
  added_entries-stand n (first e) = added_entries-stand n e
  added_entries-stand n (next e) =
      let m = suc (suc n) in
      let r = added_entries-stand m e in
      let x₁ = always-equal (name n) (next (name (suc n))) in (
        λ h. let s = r.0 h.1.1 in let x₂ = (equation-stands (suc n) m e s).0 h.0 in (λ i. x₁.0 h.1.0 i ∙ x₂ (suc i), (x₂, s)),
        λ h. ((equation-stands (suc n) m e h.1.1).1 h.1.0, (x₁.1 (λ i. h.0 i ∙ sym (h.1.0 (suc i))), r.1 h.1.1)),
      )
  added_entries-stand n (negation e) = added_entries-stand n e
  added_entries-stand n (binary o a b) =
      append-stand (added_entries n a) (added_entries (n + added_count a) b) n (added a) (added b) (added_entries-stand n a) (λ s. added_entries-stand (n + added_count a) b)
  added_entries-stand n (conditional c a b) =
      let m = n + added_count c in
      append-stand (added_entries n c) (added_entries m a ++ added_entries (m + added_count a) b) n (added c) (added a ++ added b) (added_entries-stand n c)
      (λ s. append-stand (added_entries m a) (added_entries (m + added_count a) b) m (added a) (added b) (added_entries-stand m a) (λ t. added_entries-stand (m + added_count a) b))
  added_entries-stand n (fby a b) =
      let x = n + added_count a in
      let m = suc (suc (suc x)) in
      let r = added_entries-stand m b in
      let start = always-equal (first (name x)) (first (name (suc x))) in
      let later = always-equal (name (suc (suc x))) (next (name x)) in
      append-stand (added_entries n a) _ n (added a) (fby a b ∷ a ∷ b ∷ added b) (added_entries-stand n a)
      (λ s. (
        λ h.
            let t = r.0 h.1.1.1.1 in
            let x₂ = (equation-stands (suc x) n a s).0 h.0 in
            let x₃ = (equation-stands (suc (suc x)) m b t).0 h.1.0 in
            (λ i. elim i as (λ k. v (n + length (added a)) k ≡ value_from v (fby a b) k) [ zero ↦ start.0 h.1.1.0 zero ∙ x₂ zero | suc j ↦ sym (later.0 h.1.1.1.0 j) ∙ x₃ j ], (x₂, (x₃, t))),
        λ h. (
          (equation-stands (suc x) n a s).1 h.1.0,
          (
            (equation-stands (suc (suc x)) m b h.1.1.1).1 h.1.1.0,
            (start.1 (λ i. h.0 zero ∙ sym (h.1.0 zero)), (later.1 (λ i. h.1.1.0 i ∙ sym (h.0 (suc i))), r.1 h.1.1.1)),
          ),
        ),
      ))

  -- The entries that a constraint adds, and those of the whole list of constraints, are met exactly where the streams that they add are
  -- what they stand for.
  entries_by-stand : (n : ℕ) (c : Constraint) → All (MeetsEntry v) (entries_by n c) ↔ StandFor n (added_by c)
  unfolding entries_by added_by
  entries_by-stand n (always s a b) =
      append-stand (added_entries n a) (added_entries (n + added_count a) b) n (added a) (added b) (added_entries-stand n a) (λ t. added_entries-stand (n + added_count a) b)
  entries_by-stand n (until a b) =
      let x = n + added_count a in
      let m = suc (suc x) in
      let r = added_entries-stand m b in
      append-stand (added_entries n a) _ n (added a) (a ∷ b ∷ added b) (added_entries-stand n a)
      (λ s. (
        λ h. let t = r.0 h.1.1 in ((equation-stands x n a s).0 h.0, ((equation-stands (suc x) m b t).0 h.1.0, t)),
        λ h. ((equation-stands x n a s).1 h.0, ((equation-stands (suc x) m b h.1.1).1 h.1.0, r.1 h.1.1)),
      ))

  pub all_entries-stand : (n : ℕ) (cs : List Constraint) → All (MeetsEntry v) (all_entries n cs) ↔ StandFor n (all_added cs)
  unfolding all_entries all_added
  all_entries-stand n [] = (λ h. h, λ h. h)
  all_entries-stand n (c ∷ cs) =
      append-stand (entries_by n c) _ n (added_by c) (all_added cs) (entries_by-stand n c) (λ s. all_entries-stand (n + length (added_by c)) cs)

  -- Where they are, a constraint is met exactly where it is met rewritten.
  rewritten_constraint-meets : (n : ℕ) (c : Constraint) → StandFor n (added_by c) → MeetsFrom v (rewritten_constraint n c) ↔ MeetsFrom v c
  unfolding value_from MeetsFrom rewritten_constraint added_by
  rewritten_constraint-meets n (always s a b) h =
      let t = (StandFor-append n (added a) (added b)).0 h in
      let p = rewritten-value n a t.0 in
      let q = rewritten-value (n + added_count a) b t.1 in
      (always_cong s p q, always_cong s (λ i. sym (p i)) (λ i. sym (q i)))
  rewritten_constraint-meets n (until a b) h =
      let t = ((StandFor-append n (added a) (a ∷ b ∷ added b)).0 h).1 in
      (Until-cong t.0 t.1.0, Until-cong (λ i. sym (t.0 i)) (λ i. sym (t.1.0 i)))

  pub all_rewritten-meets : (n : ℕ) (cs : List Constraint) → StandFor n (all_added cs) → All (MeetsFrom v) (all_rewritten n cs) ↔ All (MeetsFrom v) cs
  unfolding all_rewritten all_added
  all_rewritten-meets n [] h = (λ m. m, λ m. m)
  all_rewritten-meets n (c ∷ cs) h =
      let t = (StandFor-append n (added_by c) (all_added cs)).0 h in
      Iff.and (rewritten_constraint-meets n c t.0) (all_rewritten-meets (n + length (added_by c)) cs t.1)
