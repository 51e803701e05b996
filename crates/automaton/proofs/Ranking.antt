-- The passes over the states of a game give a ranking, there always is one, and two rankings rank the same states. From the laws of turns.
use mathlib.Core.Path.{◌≡◌, refl, sym, ◌∙◌}
use mathlib.Core.Logic.{◌⊎◌, inl, inr, ⊎_elim, ◌≢◌}
use mathlib.Core.Bool.{Bool, true, false, cond}
use mathlib.Core.List.{List}
use Prim.Native.Nat.{ℕ, zero, suc, ◌<◌, ◌≤◌}
use native.Mathlib.Omega.{arith}
use native.Mathlib.Decide.{ℕ_discrete, dec_lt}
use lib.ListN.{length, replicate, length-replicate, get_or-replicate, get_or-eq_default}
use lib.Dec.{eqb}
use borrow.Author.Tests.{eq-eqb, ne_eqb}
use Rattle.automaton.specs.Closure.{tabulate}
use Rattle.automaton.specs.PlayTable.{Game}
use Rattle.automaton.specs.Ranking.{rank_of, Ranked, Answered, Lost, lost, KeepsFinal, RankingPasses, IsRanking}
use Rattle.automaton.proofs.Closure.{get_d_tabulate, length-tabulate}
use Rattle.automaton.proofs.Turns.{ranked-inside, states-left-most, turns-length, turns-left, pruned-kept, pruned-lost, grown-below, grown-old, grown-lower, all_turned}

-- ---- the passes give a ranking

module _ {G : Game} {safe seeds ranks : List ℕ} (P : RankingPasses G safe seeds ranks) where
  safe-length : length safe ≡ G.states
  safe-length = turns-length P.pruned.turns ∙ length-replicate G.states 1

  safe-one : (s : ℕ) → Ranked safe s → rank_of safe s ≡ 1
  safe-one s r = pruned-kept P.pruned.turns s r ∙ get_or-replicate G.states s 1 0 (omega (arith, ranked-inside safe s r, safe-length))

  -- the seeds are the safe states that are final, with the rank 1
  seed_cases : (s : ℕ) → ((Ranked safe s × (G.final s ≡ 1)) × (rank_of seeds s ≡ 1)) ⊎ ((¬ (Ranked safe s × (G.final s ≡ 1))) × (rank_of seeds s ≡ 0))
  seed_cases s = by (ℕ_discrete (G.final s) 1) (ℕ_discrete (rank_of safe s) 0)
    where
      by : Dec (G.final s ≡ 1) → Dec (rank_of safe s ≡ 0) → ((Ranked safe s × (G.final s ≡ 1)) × (rank_of seeds s ≡ 1)) ⊎ ((¬ (Ranked safe s × (G.final s ≡ 1))) × (rank_of seeds s ≡ 0))
      by (yes f) (yes z) = inr ((λ x. x.0 z), P.seeded.kept s f ∙ z)
      by (yes f) (no r) = inl ((r, f), P.seeded.kept s f ∙ safe-one s r)
      by (no f) z = inr ((λ x. f x.1), P.seeded.cleared s f)

  seed_below : (s : ℕ) → rank_of seeds s < 2
  seed_below s = ⊎_elim (λ x. omega (arith, x.1)) (λ x. omega (arith, x.1)) (seed_cases s)

  -- a state has the rank 1 exactly if it is a seed
  first_seed : (s : ℕ) → rank_of ranks s ≡ 1 → Ranked safe s × (G.final s ≡ 1)
  first_seed s e = ⊎_elim (λ x. x.0) (λ x. absurd (by x (grown-old P.grown.turns s))) (seed_cases s)
    where
      by : (¬ (Ranked safe s × (G.final s ≡ 1))) × (rank_of seeds s ≡ 0) → (rank_of ranks s ≡ rank_of seeds s) ⊎ ((¬ Ranked seeds s) × (2 ≤ rank_of ranks s)) → ⊥
      by x (inl o) = omega (arith, x.1)
      by x (inr o) = omega (arith, o.1)

  seed_first : (s : ℕ) → Ranked safe s → G.final s ≡ 1 → rank_of ranks s ≡ 1
  seed_first s r f = by (grown-old P.grown.turns s)
    where
      one : rank_of seeds s ≡ 1
      one = P.seeded.kept s f ∙ safe-one s r

      by : (rank_of ranks s ≡ rank_of seeds s) ⊎ ((¬ Ranked seeds s) × (2 ≤ rank_of ranks s)) → rank_of ranks s ≡ 1
      by (inl o) = o ∙ one
      by (inr o) = absurd (o.0 λ z. omega (arith, one))

  pub passes_ranking : IsRanking G safe ranks
  passes_ranking =
      let long : length ranks ≡ G.states = turns-length P.grown.turns ∙ P.seeded.same ∙ safe-length in
      record {
        safe_states = safe-length;
        safe_answered = λ s r. ⊎_elim (λ n. absurd (n r)) (λ x. x) (P.pruned.settled s (ranked-inside safe s r));
        unsafe_lost = pruned-lost (λ s h z. omega (arith, get_or-replicate {A = ℕ} G.states s 1 0 h)) P.pruned.turns;
        ranked_states = long;
        first_safe = λ s e. (first_seed s e).0;
        first_final = λ s e. (first_seed s e).1;
        final_first = seed_first;
        lower = λ s c h hc. grown-lower seed_below (omega arith) P.grown.turns s h c hc;
        bounded = λ s. omega (arith, grown-below seed_below P.grown.turns s, turns-left (omega arith) P.grown.turns, states-left-most true seeds, P.seeded.same, safe-length);
        unranked = λ s h n. ⊎_elim (λ r. absurd (n r)) (λ x. x) (P.grown.settled s (omega arith));
      }

-- ---- there always is one

module _ (G : Game) where
  keeps_final : (old : List ℕ) → (new : List ℕ) × KeepsFinal G old new
  keeps_final old = (
    tabulate (length old) kept,
    record {
      same = length-tabulate (length old) kept;
      kept = λ s e. at s (dec_lt s (length old)) ∙ rw (eq-eqb (G.final s) 1 e);
      cleared = λ s e. at s (dec_lt s (length old)) ∙ rw (ne_eqb (G.final s) 1 e);
    },
  )
    where
      kept : ℕ → ℕ
      kept s = cond (eqb (G.final s) 1) (rank_of old s) 0

      beyond : (b : Bool) (s : ℕ) → length old ≤ s → cond b (rank_of old s) 0 ≡ 0
      beyond true s h = get_or-eq_default old 0 h
      beyond false s h = refl

      at : (s : ℕ) → Dec (s < length old) → rank_of (tabulate (length old) kept) s ≡ kept s
      at s (yes h) = get_d_tabulate (length old) kept s 0 h
      at s (no h) = get_or-eq_default (tabulate (length old) kept) 0 (omega (arith, length-tabulate (length old) kept)) ∙ sym (beyond (eqb (G.final s) 1) s (omega arith))

  pub ranking_exists : (safe : List ℕ) × (ranks : List ℕ) × IsRanking G safe ranks
  ranking_exists =
      let safe = all_turned G false (replicate G.states 1) 2 (omega arith) in
      let seeds = keeps_final safe.0 in
      let ranks = all_turned G true seeds.0 2 (omega arith) in
      (safe.0, ranks.0, passes_ranking (record { pruned = safe.1; seeded = seeds.1; grown = ranks.1 }))

-- ---- two rankings rank the same states

module _ {G : Game} where
  -- from a state with an answer to every choice the play is not lost
  lost-not-safe : {ranks : List ℕ} → length ranks ≡ G.states → ((s : ℕ) → Ranked ranks s → Answered G ranks s) → {s : ℕ} → Lost G s → ¬ Ranked ranks s
  lost-not-safe {ranks} long closed {s} (lost c h f) r =
      let x = (closed s r).answer c h in
      lost-not-safe long closed (f x.letter x.is_letter x.has_choice (omega (arith, ranked-inside ranks (G.entry s x.letter) x.leads))) x.leads

  module _ {safe ranks safe' ranks' : List ℕ} (R : IsRanking G safe ranks) (R' : IsRanking G safe' ranks') where
    safe-same : (s : ℕ) → Ranked safe s → Ranked safe' s
    safe-same s r z = lost-not-safe R.safe_states R.safe_answered (R'.unsafe_lost s (omega (arith, ranked-inside safe s r, R.safe_states)) λ q. q z) r

    ranked-up_to : (t s : ℕ) → Ranked ranks s → rank_of ranks s ≤ t → Ranked ranks' s
    ranked-up_to zero s r h = absurd (r (omega arith))
    ranked-up_to (suc t) s r h = by (ℕ_discrete (rank_of ranks s) 1) (ℕ_discrete (rank_of ranks' s) 0) λ u. ranked-up_to t u
      where
        by : Dec (rank_of ranks s ≡ 1) → Dec (rank_of ranks' s ≡ 0) → ((u : ℕ) → Ranked ranks u → rank_of ranks u ≤ t → Ranked ranks' u) → Ranked ranks' s
        by (yes e) z rest = λ q. omega (arith, R'.final_first s (safe-same s (R.first_safe s e)) (R.first_final s e))
        by (no e) (no q) rest = q
        by (no e) (yes z) rest =
            let y = R'.unranked s (omega (arith, ranked-inside ranks s r, R.ranked_states)) (λ q. q z) in
            let x = R.lower s y.at (omega arith) y.is_choice in
            absurd (y.none x.letter x.is_letter x.has_choice (rest (G.entry s x.letter) x.leads.0 (omega (arith, x.leads.1))))

    pub ranked-same : (s : ℕ) → Ranked ranks s → Ranked ranks' s
    ranked-same s r = ranked-up_to (rank_of ranks s) s r (omega arith)

    -- and they have the same seeds
    pub first-same : (s : ℕ) → rank_of ranks s ≡ 1 → rank_of ranks' s ≡ 1
    first-same s e = R'.final_first s (safe-same s (R.first_safe s e)) (R.first_final s e)
