-- Records in one situation have the same continuations, where what is done stays done; so a table of two tables together has at most as many states as they
-- reach pairs. From the laws of prefixes and of situations that are congruent (automaton).
use Prim.Native.Nat.{ℕ, zero, suc, ◌+◌, ◌-◌, ◌≤◌, ◌<◌, max}
use native.Mathlib.Omega.{arith}
use native.Mathlib.Decide.{ℕ_discrete}
use mathlib.Core.Path.{◌≡◌, refl, sym, ap, subst, ◌∙◌}
use mathlib.Core.List.{List, [], ◌∷◌, ◌++◌, append_assoc, append-nil}
use lib.ListN.{length}
use Rattle.basics.specs.Count.{CountOf}
use Rattle.basics.proofs.Count.{rows_at_most}
use Rattle.automaton.specs.Words.{Word, append, prefix, InRange, AllBelow}
use Rattle.automaton.specs.Solutions.{ByPrefixes}
use Rattle.automaton.specs.Situations.{IsCongruence}
use Rattle.automaton.specs.Table.{IsTable}
use Rattle.automaton.specs.Join.{TwoTables, BothFollow, SamePair, pair_of, IsPair, Together, FinalsStay}
use Rattle.automaton.proofs.Words.{prefix_extend, in_range-append, all-below-prefix}
use Rattle.automaton.proofs.Join.{longer-path, pairs_congruence}

-- ---- prefixes of a record and a word behind it

prefix-behind : (r : List ℕ) (w : Word) (t : ℕ) → length r ≤ t → prefix (append r w) t ≡ r ++ prefix w (t - length r)
prefix-behind [] w t h = let e : t ≡ t - 0 = omega arith in ap (prefix w) e
prefix-behind (a ∷ r) w zero h = absurd (omega arith)
prefix-behind (a ∷ r) w (suc t) h = let e : t - length r ≡ suc t - suc (length r) = omega arith in ap (a ∷◌) (prefix-behind r w t (omega arith) ∙ ap (λ u. r ++ prefix w u) e)

module _ {k : ℕ} {lawful done : List ℕ → Type 0} {alike : List ℕ → List ℕ → Type 0} (C : IsCongruence k lawful done alike)
    (beginning : (r : List ℕ) (a : ℕ) → lawful (r ++ (a ∷ [])) → lawful r)
    (stays : (r : List ℕ) (a : ℕ) → AllBelow k r → a < k → lawful (r ++ (a ∷ [])) → done r → done (r ++ (a ∷ []))) where
  -- a shorter prefix is lawful too
  shorter : (v : Word) (u t : ℕ) → t ≤ u → lawful (prefix v u) → lawful (prefix v t)
  shorter v zero t h l = let e : 0 ≡ t = omega arith in subst (λ x. lawful (prefix v x)) e l
  shorter v (suc u) t h l = by (ℕ_discrete t (suc u)) (λ g. shorter v u t g (beginning (prefix v u) (v u) (subst lawful (prefix_extend u v) l)))
    where
      by : Dec (t ≡ suc u) → (t ≤ u → lawful (prefix v t)) → lawful (prefix v t)
      by (yes e) again = subst (λ x. lawful (prefix v x)) (sym e) l
      by (no ne) again = again (omega arith)

  -- a longer prefix is done too
  longer : (v : Word) → InRange k v → ((t : ℕ) → lawful (prefix v t)) → (u t : ℕ) → t ≤ u → done (prefix v t) → done (prefix v u)
  longer v b all zero t h d = let e : t ≡ 0 = omega arith in subst (λ x. done (prefix v x)) e d
  longer v b all (suc u) t h d = by (ℕ_discrete t (suc u)) (λ g. longer v b all u t g d)
    where
      by : Dec (t ≡ suc u) → (t ≤ u → done (prefix v u)) → done (prefix v (suc u))
      by (yes e) again = subst (λ x. done (prefix v x)) e d
      by (no ne) again =
          subst done (sym (prefix_extend u v)) (stays (prefix v u) (v u) (all-below-prefix u v b) (b u) (subst lawful (prefix_extend u v) (all (suc u))) (again (omega arith)))

  module _ (r s : List ℕ) (rb : AllBelow k r) (ls : lawful s) (same : alike r s) (w : Word) (b : InRange k w) (x : ByPrefixes lawful done (append r w)) where
    lawful-behind : (u : ℕ) → lawful (r ++ prefix w u)
    lawful-behind u = let e : length r + u - length r ≡ u = omega arith in subst lawful (prefix-behind r w (length r + u) (omega arith) ∙ ap (λ t. r ++ prefix w t) e) (x.all_lawful (length r + u))

    both : (u : ℕ) → lawful (s ++ prefix w u) × alike (r ++ prefix w u) (s ++ prefix w u)
    both zero = (subst lawful (sym (append-nil s)) ls, subst (λ p. alike p (s ++ [])) (sym (append-nil r)) (subst (alike r) (sym (append-nil s)) same))
    both (suc u) =
        let (l, a) = both u in
        let split : (q : List ℕ) → (q ++ prefix w u) ++ (w u ∷ []) ≡ q ++ prefix w (suc u) = λ q. append_assoc q (prefix w u) (w u ∷ []) ∙ ap (q ++◌) (sym (prefix_extend u w)) in
        let lr = subst lawful (sym (split r)) (lawful-behind (suc u)) in
        let l' = C.lawful_extend (r ++ prefix w u) (s ++ prefix w u) (w u) (b u) a (lawful-behind u) l lr in
        let a' = C.alike_extend (r ++ prefix w u) (s ++ prefix w u) (w u) (b u) a lr l' in
        (subst lawful (split s) l', subst (λ p. alike p (s ++ prefix w (suc u))) (split r) (subst (alike ((r ++ prefix w u) ++ (w u ∷ []))) (split s) a'))

    pub same_continuation : ByPrefixes lawful done (append s w)
    same_continuation =
        let far = max x.time (length r) in
        let u = far - length r in
        let d = subst done (prefix-behind r w far (omega arith)) (longer (append r w) (in_range-append r rb b) x.all_lawful far x.time (omega arith) x.is_done) in
        let e : length s + u - length s ≡ u = omega arith in
        record {
          all_lawful = λ t.
              let far' = max t (length s) in
              shorter (append s w) far' t (omega arith) (subst lawful (sym (prefix-behind s w far' (omega arith))) (both (far' - length s)).0);
          time = length s + u;
          is_done = subst done (sym (prefix-behind s w (length s + u) (omega arith) ∙ ap (λ t. s ++ prefix w t) e)) (C.done_alike (r ++ prefix w u) (s ++ prefix w u) (both u).1 (lawful-behind u) (both u).0 d);
        }

-- ---- the states of a table of two tables together

module _ {T₀ : TwoTables} (f : FinalsStay T₀) {n : ℕ} {entry : ℕ → ℕ → ℕ} {final : ℕ → ℕ} (t : IsTable (Together T₀) T₀.letters n entry final) where
  begins : (r : List ℕ) (a : ℕ) → BothFollow T₀ (r ++ (a ∷ [])) → BothFollow T₀ r
  begins r a l = record { left_path = (longer-path T₀.left T₀.left_entry r a l.left_path).0; right_path = (longer-path T₀.right T₀.right_entry r a l.right_path).0 }

  followed : (i : ℕ) → i < n → BothFollow T₀ (t.representative i)
  followed i h =
      let b = t.not_empty i h in
      let r = t.representative i in
      let e : length r - length r ≡ 0 = omega arith in
      subst (BothFollow T₀) (prefix-behind r b.word (length r) (omega arith) ∙ ap (λ u. r ++ prefix b.word u) e ∙ append-nil r) (b.continues.solves.all_lawful (length r))

  pair-at : (i j : ℕ) → pair_of T₀ (t.representative i) ≡ pair_of T₀ (t.representative j) → SamePair T₀ (t.representative i) (t.representative j)
  pair-at i j e = record { same_left = ap (λ p. p.0) e; same_right = ap (λ p. p.1) e }

  continue : (i j : ℕ) → i < n → j < n → pair_of T₀ (t.representative i) ≡ pair_of T₀ (t.representative j) → (w : Word) → InRange T₀.letters w → Together T₀ (append (t.representative i) w) → Together T₀ (append (t.representative j) w)
  continue i j hi hj e w b x = same_continuation pairs_congruence begins f.stay (t.representative i) (t.representative j) (t.letters i hi) (followed j hj) (pair-at i j e) w b x

  pairs-differ : (i j : ℕ) → i < n → j < n → pair_of T₀ (t.representative i) ≡ pair_of T₀ (t.representative j) → i ≡ j
  pairs-differ i j hi hj e =
      t.distinct i j hi hj (record { to = λ w b x. record { solves = continue i j hi hj e w b x.solves }; from = λ w b x. record { solves = continue j i hj hi (sym e) w b x.solves } })

  pub states-at-most-pairs : {m : ℕ} → CountOf (IsPair T₀) m → n ≤ m
  states-at-most-pairs c =
      rows_at_most
      (record {
        distinct = λ i j h g e. omega (arith, pairs-differ i j (omega arith) g e);
        holds = λ i h. record { shown = t.representative i; letters = t.letters i h; is_lawful = followed i h; same = refl };
      }) c
