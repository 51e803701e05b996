-- What the passes find is the analysis of the graph: the live rows have a word, final rows are final by meaning, and rows of one
-- class have one language. From what the passes leave, by the laws of closed sets with reasons.
use mathlib.Core.Path.{◌≡◌, subst, ◌∙◌}
use mathlib.Core.Logic.{◌⊎◌, inl, inr, ◌≢◌}
use mathlib.Core.Bool.{Bool, not}
use mathlib.Core.List.{List}
use Prim.Native.Nat.{ℕ, ◌<◌}
use native.Mathlib.Omega.{arith}
use native.Mathlib.Decide.{ℕ_discrete}
use lib.Dec.{T, T_not, not_T}
use lib.ListN.{get_or, length, replicate, get_or-replicate}
use Rattle.automaton.specs.Stored.{entry_at}
use Rattle.automaton.specs.Graph.{Member, IsAnalysis}
use Rattle.automaton.specs.Fixpoints.{SomeEdge, Terminating, IsEndlessSet, Reaches, IsLiveSet, Inevitable, now, later, IsFinalSet, Distinguished, swap, by_final, by_edge, by_letter, IsPartition}
use Rattle.automaton.specs.Fixpoints.{ends as terminates, here as reached, there as leads-on}
use Rattle.automaton.proofs.Flags.{flag-set, flag-holds}
use Rattle.automaton.proofs.Fixpoints.{fixpoints_analysis}
use Rattle.marks.specs.Marks.{Marked, target, Ends, ends, LeadsToMarked, here, there}
use Rattle.marks.proofs.Laws.{marked-inside, cleared-marked}
use Rattle.marks.specs.Tests.{is_marked}
use Rattle.refine.specs.Classes.{edges, Refined}
use Rattle.marks.proofs.Tests.{marked-test, test-marked, unmarked_test}
use Rattle.stored_graph.specs.StoredGraph.{IsStoredGraph, stored_graph}
use Rattle.live_rows.proofs.Loops.{flagged-both}
use Rattle.live_rows.specs.Sets.{FindsLive, LiveWithout, FindsFinals}

-- which records tell nodes apart depends on no flag
module _ {entries flags : List ℕ} {letters rows : ℕ} (g : IsStoredGraph entries flags letters rows) where
  member-to : {L : ℕ → Bool} {s : ℕ} → Member (stored_graph g) L s → Member (edges letters entries rows) L s
  member-to m = record { inside = m.inside; holds = m.holds }

  member-from : {L : ℕ → Bool} {s : ℕ} → Member (edges letters entries rows) L s → Member (stored_graph g) L s
  member-from m = record { inside = m.inside; holds = m.holds }

  told-apart : {L final : ℕ → Bool} {s t : ℕ} → Distinguished (edges letters entries rows) L final s t → Distinguished (stored_graph g) L final s t
  told-apart (swap d) = swap (told-apart d)
  told-apart (by_final f n) = by_final f n
  told-apart (by_edge a ha m n) = by_edge a ha (member-from m) (λ q. n (member-to q))
  told-apart (by_letter a ha m n d) = by_letter a ha (member-from m) (member-from n) (told-apart d)

  partition-from : {L final : ℕ → Bool} {same : ℕ → ℕ → Type 0} → IsPartition (edges letters entries rows) L final same → IsPartition (stored_graph g) L final same
  partition-from {L} {final} {same} P = record {
    reason = λ s t ms mt. go (P.reason s t (member-to ms) (member-to mt));
    symmetric = λ s t ms mt. P.symmetric s t (member-to ms) (member-to mt);
    finals = λ s t ms mt. P.finals s t (member-to ms) (member-to mt);
    steps = λ s t a ms mt e ha. let q = P.steps s t a (member-to ms) (member-to mt) e ha in record {
      to = λ m. member-from (q.to (member-to m));
      from = λ m. member-from (q.from (member-to m));
      step = λ m. q.step (member-to m);
    };
  }
    where
      go : {s t : ℕ} → same s t ⊎ Distinguished (edges letters entries rows) L final s t → same s t ⊎ Distinguished (stored_graph g) L final s t
      go (inl e) = inl e
      go (inr d) = inr (told-apart d)

module _ {entries flags : List ℕ} {letters rows : ℕ} (g : IsStoredGraph entries flags letters rows) {live : List ℕ} (len : length live ≡ rows) where
  -- rows with an endless path, and live rows

  module _ (L : FindsLive letters entries flags live) where
    inside : (list : List ℕ) → length list ≡ length live → (s : ℕ) → Marked list s → s < rows
    inside list e s m = omega (arith, marked-inside list s m)

    all-marked : (s : ℕ) → s < rows → Marked (replicate (length live) 1) s
    all-marked s h = get_or-replicate (length live) s 1 0 (omega arith)

    terminating : {s : ℕ} → Ends letters entries (replicate (length live) 1) s → Terminating (stored_graph g) s
    unfolding all-marked
    terminating {s} (ends h) = terminates λ a ha hu. terminating (h a ha (all-marked (entry_at letters entries s a) hu))

    pub kept-endless : IsEndlessSet (stored_graph g) (is_marked L.kept)
    kept-endless = record {
      closed = λ s m. let p = L.pruned.closed s (test-marked L.kept s m.holds) in record {
        letter = p.letter;
        is_letter = p.is_letter;
        inside = inside L.kept L.kept_length (target letters entries s p.letter) p.marked;
        holds = marked-test L.kept (target letters entries s p.letter) p.marked;
      };
      reason = λ s hs n. terminating (L.pruned.reason s (all-marked s hs) λ m. T_not (is_marked L.kept s) n (marked-test L.kept s m));
    }

    reaches : {s : ℕ} → LeadsToMarked letters entries L.flagged s → Reaches (stored_graph g) (is_marked L.kept) s
    reaches {s} (here m) = let p = (flagged-both L.is_flagged s).0 m in reached (marked-test L.kept s p.0) (marked-test flags s p.1)
    reaches {s} (there a ha h l) = let q : entry_at letters entries s a < rows = omega (arith, h, L.flagged_length) in leads-on a ha q (reaches l)

    grown-marked : (s : ℕ) → Marked L.flagged s → Marked live s
    grown-marked s m = go (L.grown.marked.row s)
      where
        go : (get_or live s 0 ≡ get_or L.flagged s 0) ⊎ ((get_or L.flagged s 0 ≢ 1) × (get_or live s 0 ≡ 1)) → Marked live s
        go (inl e) = e ∙ m
        go (inr p) = p.1

    pub live-set : IsLiveSet (stored_graph g) (is_marked L.kept) (is_marked live)
    live-set = record {
      reason = λ s m. reaches (L.grown.reason s (test-marked live s m.holds));
      base = λ s hs k d. marked-test live s (grown-marked s ((flagged-both L.is_flagged s).1 (test-marked L.kept s k, test-marked flags s d)));
      closed = λ s a hs ha m. marked-test live s (L.grown.closed s (omega arith) (record {
        letter = a;
        is_letter = ha;
        marked = test-marked live (entry_at letters entries s a) m.holds;
      }));
    }

  -- final rows

  module _ {endless finals : List ℕ} (F : FindsFinals letters entries live flags endless finals) where
    pending : (s : ℕ) → Marked live s → ¬ Marked flags s → Marked F.pending s
    pending s m n = flag-set (F.is_pending.row s (marked-inside live s m)) (record { lives = m; without = n })

    of-pending : (s : ℕ) → Marked F.pending s → LiveWithout live flags s
    of-pending s m = flag-holds (F.is_pending.row s (omega (arith, marked-inside F.pending s m, F.pending_length))) m

    of-endless : (s : ℕ) → Marked endless s → LiveWithout live flags s
    of-endless s m = of-pending s (cleared-marked F.pruned.cleared s m)

    not-endless : (s : ℕ) → Marked live s → Marked finals s → ¬ Marked endless s
    not-endless s m f = (flag-holds (F.is_final.row s (marked-inside live s m)) f).without

    is-endless : (s : ℕ) → Marked live s → ¬ Marked finals s → Marked endless s
    is-endless s m n = elim (ℕ_discrete (get_or endless s 0) 1) [
      | yes e ↦ e
      | no e ↦ absurd (n (flag-set (F.is_final.row s (marked-inside live s m)) (record { lives = m; without = e })))
    ]

    inevitable : {s : ℕ} → Ends letters entries F.pending s → Inevitable (stored_graph g) (is_marked live) s
    inevitable {s} (ends h) = later λ a ha m. go a m (ℕ_discrete (get_or flags (entry_at letters entries s a) 0) 1) λ q. inevitable (h a ha q)
      where
        go : (a : ℕ) → Member (stored_graph g) (is_marked live) (entry_at letters entries s a) → Dec (Marked flags (entry_at letters entries s a))
            → (Marked F.pending (entry_at letters entries s a) → Inevitable (stored_graph g) (is_marked live) (entry_at letters entries s a)) → Inevitable (stored_graph g) (is_marked live) (entry_at letters entries s a)
        go a m (yes d) f = now (marked-test flags (entry_at letters entries s a) d)
        go a m (no d) f = f (pending (entry_at letters entries s a) (test-marked live (entry_at letters entries s a) m.holds) d)

    pub final-set : IsFinalSet (stored_graph g) (is_marked live) (is_marked finals)
    final-set = record {
      reason = λ s m f. reason s (lives s m) (test-marked finals s f) (ℕ_discrete (get_or flags s 0) 1);
      base = λ s m n. not_T (is_marked flags s) λ d. (of-endless s (is-endless s (lives s m) (unset s n))).without (test-marked flags s d);
      closed = λ s m n. closed s (is-endless s (lives s m) (unset s n));
    }
      where
        lives : (s : ℕ) → Member (stored_graph g) (is_marked live) s → Marked live s
        lives s m = test-marked live s m.holds

        unset : (s : ℕ) → T (not (is_marked finals s)) → ¬ Marked finals s
        unset s n m = T_not (is_marked finals s) n (marked-test finals s m)

        reason : (s : ℕ) → Marked live s → Marked finals s → Dec (Marked flags s) → Inevitable (stored_graph g) (is_marked live) s
        reason s m f (yes d) = now (marked-test flags s d)
        reason s m f (no d) = inevitable (F.pruned.reason s (pending s m d) (not-endless s m f))

        closed : (s : ℕ) → Marked endless s → SomeEdge (stored_graph g) (λ u. T (is_marked live u) × T (not (is_marked finals u))) s
        closed s m =
            let p = F.pruned.closed s m in
            let u = target letters entries s p.letter in
            let l = (of-endless u p.marked).lives in
            record {
              letter = p.letter;
              is_letter = p.is_letter;
              inside = omega (arith, marked-inside live u l);
              holds = (marked-test live u l, unmarked_test finals u λ f. not-endless u l f p.marked);
            }

  -- classes

  pub class-partition : {finals class : List ℕ} → Refined letters entries live finals class → IsPartition (stored_graph g) (is_marked live) (is_marked finals) (λ s t. get_or class s 0 ≡ get_or class t 0)
  class-partition {finals} {class} R = partition-from g (subst (λ n. IsPartition (edges letters entries n) (is_marked live) (is_marked finals) (λ s t. get_or class s 0 ≡ get_or class t 0)) len R.partition)

  pub passes_analysis : {endless finals class : List ℕ} → FindsLive letters entries flags live → FindsFinals letters entries live flags endless finals → Refined letters entries live finals class
      → IsAnalysis (stored_graph g) (is_marked live) (is_marked finals) (λ s. get_or class s 0)
  passes_analysis L F R = fixpoints_analysis (kept-endless L) (live-set L) (final-set F) (class-partition R) (λ s t ms mt. ((λ e. e), λ e. e))
