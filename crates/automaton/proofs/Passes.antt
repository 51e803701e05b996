-- The passes of the construction give the analysis of the graph: the computed sets are the closed sets with reasons, and the
-- computed classes are those of the nodes that are the same.
use mathlib.Core.Path.{◌≡◌}
use mathlib.Core.Logic.{◌↔◌, inl, inr}
use mathlib.Core.Bool.{Bool, false, not, ◌&&◌}
use mathlib.Core.List.{List}
use Prim.Native.Nat.{ℕ, ◌<◌, ◌≤◌}
use native.Mathlib.Omega.{arith}
use lib.Dec.{T, T_not, ltb, ltb→lt, lt→ltb}
use lib.ListN.{get_or}
use Rattle.basics.proofs.Tests.{by_contradiction, T_and}
use Rattle.automaton.specs.Graph.{Graph, SameLanguage, IsAnalysis}
use Rattle.automaton.specs.Fixpoints.{Terminating, ends, IsEndlessSet, Reaches, here, there, IsLiveSet}
use Rattle.automaton.specs.Fixpoints.{Inevitable, now, later, IsFinalSet, IsPartition}
use Rattle.automaton.specs.Closure.{find_below, contains}
use Rattle.automaton.specs.Construction.{terminating_set, live_set, final_set, pair, distinguished_set, classes}
use Rattle.automaton.proofs.Solutions.{solutions_refl, solutions_sym, solutions_trans}
use Rattle.automaton.proofs.Fixpoints.{same↔language, fixpoints_analysis}
use Rattle.automaton.proofs.Closure.{get_d_tabulate, find_below-found, find_below-least}
use Rattle.automaton.proofs.Rules.{every-sound, every-outside, some-sound, some-inside}
use Rattle.automaton.proofs.Pairs.{distinguished_partition}

-- the three sets

module _ (G : Graph) where
  pub terminating_endless : IsEndlessSet G (λ s. not (contains (terminating_set G) s))
  terminating_endless = record {
    closed = λ s m.
        let p = (every-outside G (λ s. false) is-node s m.inside m.holds).1 in
        record { letter = p.0; is_letter = p.1; inside = ltb→lt (G.successor s p.0) G.nodes p.2; holds = p.3 };
    reason = λ s hs h. every-sound G (λ s. false) is-node (Terminating G) (λ s x. absurd x)
        (λ s e. ends λ a ha hu. e a ha (lt→ltb (G.successor s a) G.nodes hu))
        s (by_contradiction (contains (terminating_set G) s) (T_not (not (contains (terminating_set G) s)) h));
  }
    where
      is-node : ℕ → Bool
      is-node u = ltb u G.nodes

  module _ (terminating : List Bool) where
    abbrev kept : ℕ → Bool
    kept s = not (contains terminating s)

    live-reaches : (s : ℕ) → T (contains (live_set G terminating) s) → (s < G.nodes) × Reaches G (λ u. not (contains terminating u)) s
    live-reaches = some-sound G (λ s. kept s && G.done s) (λ s. (s < G.nodes) × Reaches G kept s)
        (λ s hs x. let p = (T_and (kept s) (G.done s)).0 x in (hs, here p.0 p.1)) (λ s a hs ha p. (hs, there a ha p.0 p.1))

    pub live-live : IsLiveSet G (λ s. not (contains terminating s)) (contains (live_set G terminating))
    live-live = record {
      reason = λ s m. (live-reaches s m.holds).1;
      base = λ s hs k d. some-inside G (λ s. kept s && G.done s) s hs (inl ((T_and (kept s) (G.done s)).1 (k, d)));
      closed = λ s a hs ha m. some-inside G (λ s. kept s && G.done s) s hs (inr (a, ha, m.holds));
    }

  module _ (live : List Bool) (below : (s : ℕ) → T (contains live s) → s < G.nodes) where
    pub final-final : IsFinalSet G (contains live) (contains (final_set G live))
    final-final = record {
      reason = λ s m. every-sound G G.done (contains live) (Inevitable G (contains live)) (λ s x. now x)
          (λ s e. later λ a ha m. e a ha m.holds) s;
      base = λ s m n. (every-outside G G.done (contains live) s m.inside n).0;
      closed = λ s m n.
          let p = (every-outside G G.done (contains live) s m.inside n).1 in
          record { letter = p.0; is_letter = p.1; inside = below (G.successor s p.0) p.2; holds = (p.2, p.3) };
    }

-- classes: the first number that is related to s is the same for all that are related to s
module _ (n : ℕ) (holds : ℕ → Bool) (related : ℕ → ℕ → Bool) (below : (s : ℕ) → T (holds s) → s < n)
    (reflexive : (s : ℕ) → T (holds s) → T (related s s)) (symmetric : (s t : ℕ) → T (holds s) → T (holds t) → T (related s t) → T (related t s))
    (transitive : (s t u : ℕ) → T (holds s) → T (holds t) → T (holds u) → T (related s t) → T (related t u) → T (related s u)) where
  abbrev first : ℕ → ℕ
  first s = find_below n (λ t. holds t && related s t)

  first-least : (s t : ℕ) → T (holds t) → T (related s t) → first s ≤ t
  first-least s t h r = find_below-least n (λ t. holds t && related s t) t (below t h) ((T_and (holds t) (related s t)).1 (h, r))

  first_found : (s : ℕ) → T (holds s) → T (holds (first s)) × T (related s (first s))
  first_found s h = (T_and (holds (first s)) (related s (first s))).0
      (find_below-found n (λ t. holds t && related s t) (omega (arith, below s h, first-least s s h (reflexive s h))))

  first↔related : (s t : ℕ) → T (holds s) → T (holds t) → (first s ≡ first t) ↔ T (related s t)
  first↔related s t hs ht = (
    (λ e. transitive s (first t) t hs q.0 ht (rw e at p.1) (symmetric t (first t) ht q.0 q.1)),
    λ r.
        let le = first-least s (first t) q.0 (transitive s t (first t) hs ht q.0 r q.1) in
        let ge = first-least t (first s) p.0 (transitive t s (first s) ht hs p.0 (symmetric s t hs ht r) p.1) in
        omega arith,
  )
    where
      p : T (holds (first s)) × T (related s (first s))
      p = first_found s hs

      q : T (holds (first t)) × T (related t (first t))
      q = first_found t ht

-- all together

module _ (G : Graph) where
  abbrev live : List Bool
  live = live_set G (terminating_set G)

  abbrev final : List Bool
  final = final_set G live

  abbrev class : ℕ → ℕ
  class s = get_or (classes G live (distinguished_set G live final)) s 0

  abbrev same : ℕ → ℕ → Bool
  same s t = not (contains (distinguished_set G live final) (pair G s t))

  pub live_below : (s : ℕ) → T (contains (live_set G (terminating_set G)) s) → s < G.nodes
  live_below s h = (live-reaches G (terminating_set G) s h).0

  is-endless : IsEndlessSet G (λ s. not (contains (terminating_set G) s))
  is-endless = terminating_endless G

  is_live : IsLiveSet G (λ s. not (contains (terminating_set G) s)) (contains live)
  is_live = live-live G (terminating_set G)

  is_final : IsFinalSet G (contains live) (contains final)
  is_final = final-final G live live_below

  is-partition : IsPartition G (contains live) (contains final) (λ s t. T (same s t))
  is-partition = distinguished_partition G live final live_below

  same-equal : (s t : ℕ) → T (contains live s) → T (contains live t) → T (same s t) ↔ SameLanguage G s t
  same-equal s t hs ht = same↔language is-endless is_live is_final is-partition s t
      (record { inside = live_below s hs; holds = hs }) (record { inside = live_below t ht; holds = ht })

  class↔same : (s t : ℕ) → T (contains live s) → T (contains live t) → (class s ≡ class t) ↔ T (same s t)
  class↔same s t hs ht = rw (get_d_tabulate G.nodes first-same s 0 (live_below s hs), get_d_tabulate G.nodes first-same t 0 (live_below t ht))
      (first↔related G.nodes (contains live) same live_below
      (λ s hs. (same-equal s s hs hs).1 solutions_refl)
      (λ s t hs ht h. (same-equal t s ht hs).1 (solutions_sym ((same-equal s t hs ht).0 h)))
      (λ s t u hs ht hu h g. (same-equal s u hs hu).1 (solutions_trans ((same-equal s t hs ht).0 h) ((same-equal t u ht hu).0 g)))
      s t hs ht)
    where
      first-same : ℕ → ℕ
      first-same s = find_below G.nodes (λ u. contains live u && same s u)

  pub passes_analysis : IsAnalysis G (contains live) (contains final) class
  passes_analysis = fixpoints_analysis is-endless is_live is_final is-partition λ s t ms mt. class↔same s t ms.holds mt.holds
