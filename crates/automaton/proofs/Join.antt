-- The words of two tables together are the joined set, where both are tables of sets that settle: from the laws of accepted words. There pairs stay
-- final, since each table's final states do.
use mathlib.Core.Path.{◌≡◌, refl, sym, ◌∙◌, ap, subst}
use mathlib.Core.Logic.{◌≢◌}
use mathlib.Core.List.{List, [], ◌∷◌, ◌++◌, map, map-append}
use Prim.Native.Nat.{ℕ, zero, suc, ◌<◌, ◌≤◌, max}
use native.Mathlib.Omega.{arith}
use Rattle.automaton.specs.Words.{Word, tail, prefix, InRange, AllBelow}
use Rattle.automaton.specs.Solutions.{SameSolutions, Settles}
use Rattle.automaton.specs.Table.{no_state, walk, PathFrom, IsPath, IsTable}
use Rattle.automaton.specs.Situations.{IsCongruence}
use Rattle.automaton.specs.Join.{TwoTables, Joined, BothFollow, BothFinal, SamePair, Together, FinalsStay}
use Rattle.automaton.proofs.Solutions.{prefix-begins}
use Rattle.automaton.proofs.Paths.{run-walk, path↔begins, begins-state, entry-state, follows↔paths, follows↔begins}
use Rattle.automaton.proofs.Acceptance.{final-solution, solution-final}
use Rattle.automaton.proofs.States.{final-stays}
use Rattle.automaton.proofs.Course.{walk-append, path-append}

-- ---- the last letter of a path

path-cut : (entry : ℕ → ℕ → ℕ) (r : List ℕ) (i a : ℕ) → PathFrom entry i (r ++ (a ∷ [])) → PathFrom entry i r × (entry (walk entry i r) a ≢ no_state)
path-cut entry [] i a p = (tt, p.0)
path-cut entry (b ∷ r) i a p = let w = path-cut entry r (entry i b) a p.1 in ((p.0, w.0), w.1)

-- the same along the letters that f gives
module _ (f : ℕ → ℕ) (e : ℕ → ℕ → ℕ) (r : List ℕ) (a : ℕ) where
  pub longer-walk : walk e 0 (map f (r ++ (a ∷ []))) ≡ e (walk e 0 (map f r)) (f a)
  longer-walk = ap (walk e 0) (map-append f r (a ∷ [])) ∙ walk-append e 0 (map f r) (f a ∷ [])

  pub longer-path : IsPath e (map f (r ++ (a ∷ []))) → IsPath e (map f r) × (e (walk e 0 (map f r)) (f a) ≢ no_state)
  longer-path p = path-cut e (map f r) 0 (f a) (subst (IsPath e) (map-append f r (a ∷ [])) p)

  pub path-longer : IsPath e (map f r) → e (walk e 0 (map f r)) (f a) ≢ no_state → IsPath e (map f (r ++ (a ∷ [])))
  path-longer p h = subst (IsPath e) (sym (map-append f r (a ∷ []))) (path-append e 0 (map f r) (f a ∷ []) p (h, tt))

-- records that lead to one state go on alike
one-path : (f : ℕ → ℕ) (e : ℕ → ℕ → ℕ) (r s : List ℕ) (a : ℕ) → walk e 0 (map f r) ≡ walk e 0 (map f s) → IsPath e (map f s) → IsPath e (map f (r ++ (a ∷ []))) → IsPath e (map f (s ++ (a ∷ [])))
one-path f e r s a q p h = path-longer f e s a p (subst (λ x. e x (f a) ≢ no_state) q (longer-path f e r a h).1)

one-walk : (f : ℕ → ℕ) (e : ℕ → ℕ → ℕ) (r s : List ℕ) (a : ℕ) → walk e 0 (map f r) ≡ walk e 0 (map f s) → walk e 0 (map f (r ++ (a ∷ []))) ≡ walk e 0 (map f (s ++ (a ∷ [])))
one-walk f e r s a q = longer-walk f e r a ∙ ap (λ x. e x (f a)) q ∙ sym (longer-walk f e s a)

map-prefix : (f : ℕ → ℕ) (t : ℕ) (w : Word) → map f (prefix w t) ≡ prefix (λ i. f (w i)) t
map-prefix f zero w = refl
map-prefix f (suc t) w = ap (f (w 0) ∷◌) (map-prefix f t (tail w))

map_below : {k m : ℕ} (f : ℕ → ℕ) → ((a : ℕ) → a < k → f a < m) → (r : List ℕ) → AllBelow k r → AllBelow m (map f r)
map_below f h [] b = tt
map_below f h (a ∷ r) b = (h a b.0, map_below f h r b.1)

module _ {T : TwoTables} where
  pub pairs_congruence : IsCongruence T.letters (BothFollow T) (BothFinal T) (SamePair T)
  pairs_congruence = record {
    symmetric = λ r s e. record { same_left = sym e.same_left; same_right = sym e.same_right };
    transitive = λ r s u e f. record { same_left = e.same_left ∙ f.same_left; same_right = e.same_right ∙ f.same_right };
    lawful_extend = λ r s a ha e lr ls h. record {
      left_path = one-path T.left T.left_entry r s a e.same_left ls.left_path h.left_path;
      right_path = one-path T.right T.right_entry r s a e.same_right ls.right_path h.right_path;
    };
    alike_extend = λ r s a ha e lr ls. record {
      same_left = one-walk T.left T.left_entry r s a e.same_left;
      same_right = one-walk T.right T.right_entry r s a e.same_right;
    };
    done_alike = λ r s e lr ls d. record {
      left_final = ap T.left_final (sym e.same_left) ∙ d.left_final;
      right_final = ap T.right_final (sym e.same_right) ∙ d.right_final;
    };
  }

-- ---- one table along cuts

module _ {Sol : Word → Type 0} {j k n : ℕ} {entry : ℕ → ℕ → ℕ} {final : ℕ → ℕ} (A : IsTable Sol k n entry final) (f : ℕ → ℕ) (inside : (a : ℕ) → a < j → f a < k) where
  cut_range : (w : Word) → InRange j w → InRange k (λ t. f (w t))
  cut_range w b t = inside (w t) (b t)

  -- a word is a solution where its prefixes are followed and one of them ends in a final state
  cut-solution : (w : Word) → InRange j w → ((t : ℕ) → IsPath entry (map f (prefix w t))) → (u : ℕ) → final (walk entry 0 (map f (prefix w u))) ≡ 1 → Sol (λ t. f (w t))
  cut-solution w b p u e =
      let l : Word = λ t. f (w t) in
      final-solution A l (cut_range w b) ((follows↔paths A 0 l A.some_state (cut_range w b)).1 λ t. rw (map-prefix f t w) at (p t)) u (rw (run-walk entry u 0 l, ← map-prefix f u w) e)

  solution_paths : (w : Word) → InRange j w → Sol (λ t. f (w t)) → (t : ℕ) → IsPath entry (map f (prefix w t))
  solution_paths w b x t =
      let l : Word = λ i. f (w i) in
      rw (map-prefix f t w) ((follows↔paths A 0 l A.some_state (cut_range w b)).0 ((follows↔begins A l (cut_range w b)).1 λ i. prefix-begins i l (cut_range w b) x) t)

  solution-ends : (S : Settles Sol k) (w : Word) (b : InRange j w) (x : Sol (λ t. f (w t))) (u : ℕ) → S.time (λ t. f (w t)) (cut_range w b) x ≤ u → final (walk entry 0 (map f (prefix w u))) ≡ 1
  solution-ends S w b x u h = let l : Word = λ t. f (w t) in rw (map-prefix f u w, ← run-walk entry u 0 l) (solution-final A S l (cut_range w b) x u h)

  -- a final state is followed by final states
  cut-stays : (r : List ℕ) (a : ℕ) → AllBelow j r → a < j → IsPath entry (map f (r ++ (a ∷ []))) → final (walk entry 0 (map f r)) ≡ 1 → final (walk entry 0 (map f (r ++ (a ∷ [])))) ≡ 1
  cut-stays r a b h p e =
      let l = longer-path f entry r a p in
      let below = map_below f inside r b in
      let state = (begins-state A (map f r) below ((path↔begins A (map f r) below).0 l.0)).0 in
      ap final (longer-walk f entry r a) ∙ final-stays A _ (f a) state (inside a h) (entry-state A _ (f a) state (inside a h) l.1).0 e

-- ---- two tables of sets that settle

module _ (T : TwoTables) {LeftSol RightSol : Word → Type 0} {k₁ k₂ n₁ n₂ : ℕ} (A : IsTable LeftSol k₁ n₁ T.left_entry T.left_final) (B : IsTable RightSol k₂ n₂ T.right_entry T.right_final)
    (hl : (a : ℕ) → a < T.letters → T.left a < k₁) (hr : (a : ℕ) → a < T.letters → T.right a < k₂) where
  pub compiled-stay : FinalsStay T
  compiled-stay = record {
    stay = λ r a b h p d. record {
      left_final = cut-stays A T.left hl r a b h p.left_path d.left_final;
      right_final = cut-stays B T.right hr r a b h p.right_path d.right_final;
    };
  }

  pub joined_prefixes : Settles LeftSol k₁ → Settles RightSol k₂ → SameSolutions T.letters (Together T) (Joined T.left T.right LeftSol RightSol)
  joined_prefixes S R = record {
    to = λ w b x. record {
      solves_left = cut-solution A T.left hl w b (λ t. (x.all_lawful t).left_path) x.time x.is_done.left_final;
      solves_right = cut-solution B T.right hr w b (λ t. (x.all_lawful t).right_path) x.time x.is_done.right_final;
    };
    from = λ w b x.
        let u = S.time (λ t. T.left (w t)) (cut_range A T.left hl w b) x.solves_left in
        let v = R.time (λ t. T.right (w t)) (cut_range B T.right hr w b) x.solves_right in
        record {
          all_lawful = λ t. record { left_path = solution_paths A T.left hl w b x.solves_left t; right_path = solution_paths B T.right hr w b x.solves_right t };
          time = max u v;
          is_done = record {
            left_final = solution-ends A T.left hl S w b x.solves_left (max u v) (omega arith);
            right_final = solution-ends B T.right hr R w b x.solves_right (max u v) (omega arith);
          };
        };
  }
