-- Paths of a table: which records are paths, to which state each leads, and what an endless path is. From the definition of a
-- table.
use mathlib.Core.Path.{◌≡◌, refl}
use mathlib.Core.Logic.{◌↔◌, inl, inr, ◌≢◌}
use mathlib.Core.List.{List, [], ◌∷◌, ◌++◌, append_assoc, append-nil}
use Prim.Native.Nat.{ℕ, zero, suc, ◌<◌}
use native.Mathlib.Omega.{arith}
use Rattle.automaton.specs.Words.{Word, tail, append, prefix, suffix, InRange, AllBelow}
use Rattle.automaton.specs.Solutions.{NoSolution, SameContinuations, Begins}
use Rattle.automaton.specs.Table.{no_state, walk, run, PathFrom, IsPath, Follows, IsEntry, IsTable}
use Rattle.automaton.proofs.Words.{all-below-prefix}
use Rattle.automaton.proofs.Solutions.{solutions_refl, solutions_sym, solutions_trans, same-append, begins-same, begins_shorter}

-- runs and walks over any entries

module _ (entry : ℕ → ℕ → ℕ) where
  pub run-walk : (t i : ℕ) (w : Word) → run entry i w t ≡ walk entry i (prefix w t)
  run-walk zero i w = refl
  run-walk (suc t) i w = run-walk t (entry i (w 0)) (tail w)

  pub run-append : (t i : ℕ) (w v : Word) → run entry i (append (prefix w t) v) t ≡ run entry i w t
  run-append zero i w v = refl
  run-append (suc t) i w v = run-append t (entry i (w 0)) (tail w) v

  module _ (n : ℕ) where
    pub follows-suffix : (t i : ℕ) (w : Word) → Follows n entry i w → Follows n entry (run entry i w t) (suffix w t)
    follows-suffix zero i w f = f
    follows-suffix (suc t) i w f = follows-suffix t (entry i (w 0)) (tail w) λ j. f (suc j)

    pub follows-append : (u i : ℕ) (w v : Word) → Follows n entry i w → Follows n entry (run entry i w u) v
        → Follows n entry i (append (prefix w u) v)
    follows-append zero i w v f g t = g t
    follows-append (suc u) i w v f g zero = f 0
    follows-append (suc u) i w v f g (suc t) = follows-append u (entry i (w 0)) (tail w) v (λ j. f (suc j)) g t

-- what is followed in n states is followed where their entries are the same
pub follows-agree : {k n : ℕ} {entry entry' : ℕ → ℕ → ℕ} (i : ℕ) (w : Word) → InRange k w
    → ((j a : ℕ) → j < n → a < k → entry j a ≡ entry' j a) → Follows n entry i w → Follows n entry' i w
follows-agree {k} {n} {entry} {entry'} i w b e f t = rw (← go t i w b f) (f t)
  where
    go : (t i : ℕ) (w : Word) → InRange k w → Follows n entry i w → run entry i w t ≡ run entry' i w t
    go zero i w b f = refl
    go (suc t) i w b f = rw (← e i (w 0) (f 0) (b 0)) (go t (entry i (w 0)) (tail w) (λ j. b (suc j)) λ j. f (suc j))

module _ {Sol : Word → Type 0} {k n : ℕ} {entry : ℕ → ℕ → ℕ} {final : ℕ → ℕ} (A : IsTable Sol k n entry final) where
  -- one entry: that of a record which begins a solution is a state, and a state has the continuations of the record

  pub begins-entry : (i a : ℕ) → i < n → a < k → Begins Sol k (A.representative i ++ (a ∷ [])) → entry i a ≢ no_state
  begins-entry i a hi ha g = go (A.entries i a hi ha)
    where
      go : IsEntry Sol k n A.representative (A.representative i ++ (a ∷ [])) (entry i a) → entry i a ≢ no_state
      go (inl x) = absurd (x.1 g)
      go (inr x) = omega (arith, x.0, A.room)

  pub entry-state : (i a : ℕ) → i < n → a < k → entry i a ≢ no_state
      → (entry i a < n) × SameContinuations Sol k (A.representative i ++ (a ∷ [])) (A.representative (entry i a))
  entry-state i a hi ha ne = go (A.entries i a hi ha)
    where
      go : IsEntry Sol k n A.representative (A.representative i ++ (a ∷ [])) (entry i a)
          → (entry i a < n) × SameContinuations Sol k (A.representative i ++ (a ∷ [])) (A.representative (entry i a))
      go (inl x) = absurd (ne x.0)
      go (inr x) = x

  -- records: the record r leads to the state i if it has the state's continuations

  record Leads (r : List ℕ) (i : ℕ) : Type 0 where
    below : i < n
    same : SameContinuations Sol k r (A.representative i)

  leads-start : Leads [] 0
  leads-start = record { below = A.some_state; same = rw A.start solutions_refl }

  leads_extend : {r : List ℕ} {i a : ℕ} → a < k → Leads r i → entry i a ≢ no_state → Leads (r ++ (a ∷ [])) (entry i a)
  leads_extend {i = i} {a = a} ha l ne =
      let e = entry-state i a l.below ha ne in
      record { below = e.0; same = solutions_trans (same-append (a ∷ []) (ha, tt) l.same) e.1 }

  path-leads : (s : List ℕ) {r : List ℕ} {i : ℕ} → AllBelow k s → Leads r i → PathFrom entry i s → Leads (r ++ s) (walk entry i s)
  path-leads [] h l p = rw append-nil l
  path-leads (a ∷ s) h l p = rw append_assoc at (path-leads s h.1 (leads_extend h.0 l p.0) p.1)

  begins-path : (s : List ℕ) {r : List ℕ} {i : ℕ} → AllBelow k s → Leads r i → Begins Sol k (r ++ s) → PathFrom entry i s
  begins-path [] h l g = tt
  begins-path (a ∷ s) {r} {i} h l g =
      let g1 : Begins Sol k (r ++ (a ∷ []) ++ s) = rw append_assoc g in
      let g2 = begins-same (same-append (a ∷ []) (h.0, tt) l.same) (begins_shorter (r ++ (a ∷ [])) s h.1 g1) in
      let ne = begins-entry i a l.below h.0 g2 in
      (ne, begins-path s h.1 (leads_extend h.0 l ne) g1)

  -- a record, the empty one too, is a path exactly when it begins a solution
  pub path↔begins : (r : List ℕ) → AllBelow k r → IsPath entry r ↔ Begins Sol k r
  path↔begins r h = (
    (λ p. let l = path-leads r h leads-start p in begins-same (solutions_sym l.same) (A.not_empty (walk entry 0 r) l.below)),
    begins-path r h leads-start,
  )

  -- "one state for each distinct set of endless continuations, not empty, that records leave over": each record that begins a
  -- solution leads to a state with its continuations
  pub begins-state : (r : List ℕ) → AllBelow k r → Begins Sol k r
      → (walk entry 0 r < n) × SameContinuations Sol k r (A.representative (walk entry 0 r))
  begins-state r h g = let l = path-leads r h leads-start (begins-path r h leads-start g) in (l.below, l.same)

  -- only a set with a solution has a table, and the empty record begins one

  pub start-begins : Begins Sol k []
  start-begins = (path↔begins [] tt).0 tt

  pub has_solution : ¬ NoSolution k Sol
  has_solution h = h start-begins.word start-begins.in_range start-begins.continues.solves

  -- endless paths

  follows-path : (t i : ℕ) (w : Word) → Follows n entry i w → PathFrom entry i (prefix w t)
  follows-path zero i w f = tt
  follows-path (suc t) i w f = (omega (arith, f 1, A.room), follows-path t (entry i (w 0)) (tail w) λ j. f (suc j))

  path-below : (t i : ℕ) (w : Word) → i < n → InRange k w → ((j : ℕ) → PathFrom entry i (prefix w j)) → run entry i w t < n
  path-below zero i w hi b p = hi
  path-below (suc t) i w hi b p =
      path-below t (entry i (w 0)) (tail w) (entry-state i (w 0) hi (b 0) (p 1).0).0 (λ j. b (suc j)) λ j. (p (suc j)).1

  -- a word is an endless path from a state exactly when each of its prefixes is a path from it
  pub follows↔paths : (i : ℕ) (w : Word) → i < n → InRange k w → Follows n entry i w ↔ ((t : ℕ) → PathFrom entry i (prefix w t))
  follows↔paths i w hi b = ((λ f t. follows-path t i w f), λ p t. path-below t i w hi b p)

  -- and one from the start exactly when each of its prefixes begins a solution
  pub follows↔begins : (w : Word) → InRange k w → Follows n entry 0 w ↔ ((t : ℕ) → Begins Sol k (prefix w t))
  follows↔begins w b = (
    (λ f t. (path↔begins (prefix w t) (all-below-prefix t w b)).0 (follows-path t 0 w f)),
    λ g. (follows↔paths 0 w A.some_state b).1 λ t. (path↔begins (prefix w t) (all-below-prefix t w b)).1 (g t),
  )

  -- the state met on an endless path from the state i has the continuations of the letters so far, after those of a record that leads to i
  pub run-from-state : (i t : ℕ) (w : Word) → i < n → InRange k w → Follows n entry i w
      → SameContinuations Sol k (A.representative i ++ prefix w t) (A.representative (run entry i w t))
  run-from-state i t w hi b f = rw (run-walk entry t i w)
      (path-leads (prefix w t) {r = A.representative i} {i = i} (all-below-prefix t w b) (record { below = hi; same = solutions_refl }) (follows-path t i w f)).same

  -- so from the start
  pub run-state : (t : ℕ) (w : Word) → InRange k w → Follows n entry 0 w
      → SameContinuations Sol k (prefix w t) (A.representative (run entry 0 w t))
  run-state t w b f = rw A.start at (run-from-state 0 t w A.some_state b f)
