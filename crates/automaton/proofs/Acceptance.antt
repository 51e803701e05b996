-- The solutions of a set that settles are the words that its table accepts; and only a set that settles has a table that
-- accepts its solutions, so no weaker condition would do.
use mathlib.Core.Path.{◌≡◌}
use mathlib.Core.Logic.{◌↔◌}
use Prim.Native.Nat.{ℕ, ◌+◌, ◌≤◌}
use native.Mathlib.Omega.{arith}
use Rattle.automaton.specs.Words.{Word, append, prefix, suffix, InRange}
use Rattle.automaton.specs.Solutions.{Settles}
use Rattle.automaton.specs.Table.{run, Follows, AcceptedWord, Completes, IsTable}
use Rattle.automaton.proofs.Words.{append-prefix-suffix, prefix-append, in_range-append, in_range-suffix, all-below-prefix}
use Rattle.automaton.proofs.Solutions.{prefix-begins}
use Rattle.automaton.proofs.Flags.{flag-set, flag-holds}
use Rattle.automaton.proofs.Paths.{run-walk, follows-suffix, follows-append, follows↔begins, run-state}

module _ {Sol : Word → Type 0} {k n : ℕ} {entry : ℕ → ℕ → ℕ} {final : ℕ → ℕ} (A : IsTable Sol k n entry final) where
  -- a word that is followed for ever and meets a final state once is a solution
  pub final-solution : (w : Word) → InRange k w → Follows n entry 0 w → (u : ℕ) → final (run entry 0 w u) ≡ 1 → Sol w
  final-solution w b f u e =
      let q = run entry 0 w u in
      let x = flag-holds (A.finals q (f u)) e (suffix w u) (in_range-suffix u w b) (follows-suffix entry n u 0 w f) in
      rw (append-prefix-suffix w u) at ((run-state A u w b f).from (suffix w u) (in_range-suffix u w b) x).solves

  module _ (S : Settles Sol k) where
    -- after the time at which a solution settles every state that it meets is final
    pub solution-final : (w : Word) (b : InRange k w) (x : Sol w) (u : ℕ) → S.time w b x ≤ u → final (run entry 0 w u) ≡ 1
    solution-final w b x u h = flag-set (A.finals (run entry 0 w u) (f u)) completes
      where
        f : Follows n entry 0 w
        f = (follows↔begins A w b).1 λ t. prefix-begins t w b x

        completes : Completes Sol k n entry (A.representative (run entry 0 w u)) (run entry 0 w u)
        completes v c g =
            let z = append (prefix w u) v in
            let bz : InRange k z = in_range-append (prefix w u) (all-below-prefix u w b) c in
            let fz : Follows n entry 0 z = follows-append entry n u 0 w v f g in
            let y : Sol z = S.settled w b x z bz (prefix-append (S.time w b x) u w v h) ((follows↔begins A z bz).0 fz) in
            (run-state A u w b f).to v c (record { solves = y })

    pub solution↔accepted : (w : Word) → InRange k w → Sol w ↔ AcceptedWord n entry final w
    solution↔accepted w b = (
      (λ x. record {
        follows = (follows↔begins A w b).1 λ t. prefix-begins t w b x;
        again = λ t. (S.time w b x + t, omega arith, solution-final w b x (S.time w b x + t) (omega arith));
      }),
      λ a. final-solution w b a.follows (a.again 0).0 (a.again 0).2,
    )

  pub accepted_settles : ((w : Word) → InRange k w → Sol w → AcceptedWord n entry final w) → Settles Sol k
  accepted_settles h = record {
    time = λ w b x. ((h w b x).again 0).0;
    settled = λ w b x v c p g.
        let u = ((h w b x).again 0).0 in
        let e : run entry 0 v u ≡ run entry 0 w u = rw (run-walk entry u 0 v, run-walk entry u 0 w, p) in
        final-solution v c ((follows↔begins A v c).1 g) u (rw e ((h w b x).again 0).2);
  }
