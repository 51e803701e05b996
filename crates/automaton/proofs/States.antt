-- What is followed from a state of a table: the continuations of the records that lead to it, which meet a final state where the set settles. From the
-- definition of a table and the laws of its paths.
use mathlib.Core.Path.{◌≡◌, refl, sym, ◌∙◌, ap, subst}
use mathlib.Core.List.{List, [], ◌∷◌, ◌++◌}
use Prim.Native.Nat.{ℕ, zero, suc, ◌+◌, ◌<◌}
use native.Mathlib.Nat.{zero-add, suc-add}
use native.Mathlib.Omega.{arith}
use lib.ListN.{length}
use Rattle.automaton.specs.Words.{Word, tail, cons, append, prefix, suffix, InRange, AllBelow}
use Rattle.automaton.specs.Solutions.{Continuation, SameContinuations, Settles}
use Rattle.automaton.specs.Table.{walk, run, IsPath, Follows, IsTable}
use Rattle.automaton.proofs.Words.{append-prefix-suffix, append-append, in_range-append, in_range-cons, in_range-suffix}
use Rattle.automaton.proofs.Solutions.{continuation_append, prefix-begins}
use Rattle.automaton.proofs.Flags.{flag-set, flag-holds}
use Rattle.automaton.proofs.Paths.{follows-suffix, path↔begins, begins-state, entry-state, follows↔begins, run-from-state}
use Rattle.automaton.proofs.Acceptance.{solution-final}

-- ---- runs

run-over-append : (entry : ℕ → ℕ → ℕ) (r : List ℕ) (i : ℕ) (w : Word) (t : ℕ)
    → run entry i (append r w) (length r + t) ≡ run entry (walk entry i r) w t
run-over-append entry [] i w t = ap (run entry i w) (zero-add t)
run-over-append entry (a ∷ r) i w t =
    ap (run entry i (append (a ∷ r) w)) (suc-add (length r) t) ∙ run-over-append entry r (entry i a) w t

-- one letter more
pub run-last : (entry : ℕ → ℕ → ℕ) (t i : ℕ) (w : Word) → run entry i w (suc t) ≡ entry (run entry i w t) (w t)
run-last entry zero i w = refl
run-last entry (suc t) i w = run-last entry t (entry i (w 0)) (tail w)

module _ {Sol : Word → Type 0} {k n : ℕ} {entry : ℕ → ℕ → ℕ} {final : ℕ → ℕ} (A : IsTable Sol k n entry final) where
  -- ---- records that lead to a state

  -- the representative of a state leads to it
  pub representative-path : (i : ℕ) → i < n → IsPath entry (A.representative i)
  representative-path i hi = (path↔begins A (A.representative i) (A.letters i hi)).1 (A.not_empty i hi)

  pub representative-leads : (i : ℕ) → i < n → walk entry 0 (A.representative i) ≡ i
  representative-leads i hi =
      let x = begins-state A (A.representative i) (A.letters i hi) (A.not_empty i hi) in
      sym (A.distinct i (walk entry 0 (A.representative i)) hi x.0 x.1)

  -- every record that leads to a state has its continuations
  pub leads-same : {i : ℕ} (r : List ℕ) → AllBelow k r → IsPath entry r → walk entry 0 r ≡ i → SameContinuations Sol k r (A.representative i)
  leads-same r h p e = rw e at (begins-state A r h ((path↔begins A r h).0 p)).1

  -- ---- words from a state

  -- a word that is followed from a state and meets a final state completes a solution
  pub followed_continuation : (i : ℕ) → i < n → (w : Word) → InRange k w → Follows n entry i w → (u : ℕ) → final (run entry i w u) ≡ 1 → Continuation Sol (A.representative i) w
  followed_continuation i hi w b f u e =
      let bu = in_range-suffix u w b in
      let c = flag-holds (A.finals (run entry i w u) (f u)) e (suffix w u) bu (follows-suffix entry n u i w f) in
      let x = (run-from-state A i u w hi b f).from (suffix w u) bu c in
      let y = (continuation_append {k = k} (A.representative i) (prefix w u)).from (suffix w u) bu x in
      record { solves = rw (append-prefix-suffix w u) at y.solves.solves }

  -- the entries of a final state are final
  pub final-stays : (i a : ℕ) → i < n → a < k → entry i a < n → final i ≡ 1 → final (entry i a) ≡ 1
  final-stays i a hi ha he e = flag-set (A.finals (entry i a) he) λ w b f.
      let c = flag-holds (A.finals i hi) e (cons a w) (in_range-cons ha b) (goes w f) in
      (entry-state A i a hi ha (omega (arith, A.room))).1.to w b (record { solves = rw (append-append (A.representative i) (a ∷ []) w) c.solves })
    where
      goes : (w : Word) → Follows n entry (entry i a) w → Follows n entry i (cons a w)
      goes w f zero = hi
      goes w f (suc t) = f t

  module _ (i : ℕ) (hi : i < n) (w : Word) (b : InRange k w) (x : Continuation Sol (A.representative i) w) where
    abbrev z : Word
    z = append (A.representative i) w

    bz : InRange k z
    bz = in_range-append (A.representative i) (A.letters i hi) b

    at : (t : ℕ) → run entry 0 z (length (A.representative i) + t) ≡ run entry i w t
    at t = run-over-append entry (A.representative i) 0 w t ∙ ap (λ j. run entry j w t) (representative-leads i hi)

    -- a continuation of a state is followed from it,
    pub continuation_followed : Follows n entry i w
    continuation_followed t = rw (at t) at ((follows↔begins A z bz).1 (λ u. prefix-begins u z bz x.solves) (length (A.representative i) + t))

    -- and meets a final state
    pub continuation_final : (S : Settles Sol k) → (u : ℕ) × (final (run entry i w u) ≡ 1)
    continuation_final S =
        let u = S.time z bz x.solves in
        (u, ap final (sym (at u)) ∙ solution-final A S z bz x.solves (length (A.representative i) + u) (omega arith))
