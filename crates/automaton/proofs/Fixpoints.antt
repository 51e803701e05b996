-- What closed sets with reasons mean: kept nodes are those with an endless path, live nodes those whose language has a word, final
-- nodes those from which every endless path through live nodes is a word, and nodes that are the same have one language.
use mathlib.Core.Path.{◌≡◌}
use mathlib.Core.Logic.Iff
use mathlib.Core.Logic.{◌↔◌, ◌⊎◌, inl, inr}
use mathlib.Core.Bool.{Bool, not}
use Prim.Native.Nat.{ℕ, zero, suc, ◌<◌}
use lib.Dec.{T, T_not}
use Rattle.basics.proofs.Tests.{by_contradiction}
use Rattle.automaton.specs.Words.{Word, tail, cons, append, prefix, suffix, InRange}
use Rattle.automaton.specs.Graph.{Graph, node_after, EndlessPath, Language, SameLanguage, Member, PathIn, IsAnalysis}
use Rattle.automaton.specs.Fixpoints.{SomeEdge, Terminating, ends, IsEndlessSet, Reaches, here, there, IsLiveSet}
use Rattle.automaton.specs.Fixpoints.{Inevitable, now, later, IsFinalSet, Distinguished, swap, by_final, by_edge, by_letter, IsPartition}
use Rattle.automaton.proofs.Words.{in_range-cons, in_range-append, in_range-suffix, all-below-prefix}
use Rattle.automaton.proofs.Solutions.{solutions_sym}
use Rattle.automaton.proofs.Paths.{run-append}
use Rattle.automaton.proofs.Graph.{language_cons, language_tail, same_language_step, language_suffix, language_append}
use Rattle.automaton.proofs.Graph.{path_in_endless, path_in_tail, path_in_suffix, path, path-in_range, path-at}

-- kept: an endless path

terminating_ends : {G : Graph} {s : ℕ} → Terminating G s → (w : Word) → InRange G.letters w → ¬ EndlessPath G s w
terminating_ends (ends h) w b f = terminating_ends (h (w 0) (b 0) (f 1)) (tail w) (λ t. b (suc t)) λ t. f (suc t)

module _ {G : Graph} {kept : ℕ → Bool} (E : IsEndlessSet G kept) where
  pub endless-kept : (s : ℕ) (w : Word) → InRange G.letters w → EndlessPath G s w → T (kept s)
  endless-kept s w b f = by_contradiction (kept s) λ r. terminating_ends (E.reason s (f 0) r) w b f

  pub kept-endless : (s : ℕ) → Member G kept s → (w : Word) × InRange G.letters w × EndlessPath G s w
  kept-endless s m = (
    path P step s m.inside m.holds,
    (λ t. path-in_range P step t s m.inside m.holds),
    λ t. (path-at P step t s m.inside m.holds).0,
  )
    where
      P : ℕ → Type 0
      P u = T (kept u)

      step : (u : ℕ) → u < G.nodes → P u → SomeEdge G P u
      step u h p = E.closed u (record { inside = h; holds = p })

-- live: a word

module _ {G : Graph} {kept live : ℕ → Bool} (E : IsEndlessSet G kept) (L : IsLiveSet G kept live) where
  reaches-word : {s : ℕ} → s < G.nodes → Reaches G kept s → (w : Word) × InRange G.letters w × Language G s w
  reaches-word {s} h (here c d) =
      let p = kept-endless E s (record { inside = h; holds = c }) in
      (p.0, p.1, record { follows = p.2; time = zero; is_done = d })
  reaches-word {s} h (there a ha hs r) =
      let p = reaches-word hs r in
      (cons a p.0, in_range-cons ha p.1, language_cons h p.2)

  pub live-word : (s : ℕ) → Member G live s → (w : Word) × InRange G.letters w × Language G s w
  live-word s m = reaches-word m.inside (L.reason s m)

  done-live : (t s : ℕ) (w : Word) → InRange G.letters w → EndlessPath G s w → T (G.done (node_after G s w t)) → T (live s)
  done-live zero s w b f d = L.base s (f 0) (endless-kept E s w b f) d
  done-live (suc t) s w b f d =
      let h = done-live t (G.successor s (w 0)) (tail w) (λ j. b (suc j)) (λ j. f (suc j)) d in
      L.closed s (w 0) (f 0) (b 0) (record { inside = f 1; holds = h })

  pub word_live : (s : ℕ) (w : Word) → InRange G.letters w → Language G s w → Member G live s
  word_live s w b l = record { inside = l.follows 0; holds = done-live l.time s w b l.follows l.is_done }

  -- a word of the language leads through live nodes
  pub word-path : (s : ℕ) (w : Word) → InRange G.letters w → Language G s w → PathIn G live s w
  word-path s w b l = record { at = λ t. go t s w b l }
    where
      go : (t s : ℕ) (w : Word) → InRange G.letters w → Language G s w → Member G live (node_after G s w t)
      go zero s w b l = word_live s w b l
      go (suc t) s w b l = go t (G.successor s (w 0)) (tail w) (λ j. b (suc j)) (language_tail s w b l)

-- final: every endless path through live nodes is a word

module _ {G : Graph} {live final : ℕ → Bool} (F : IsFinalSet G live final) where
  inevitable_done : {s : ℕ} → Inevitable G live s → (w : Word) → InRange G.letters w → PathIn G live s w
      → (t : ℕ) × T (G.done (node_after G s w t))
  inevitable_done (now d) w b f = (zero, d)
  inevitable_done (later h) w b f =
      let p = inevitable_done (h (w 0) (b 0) (f.at 1)) (tail w) (λ j. b (suc j)) (path_in_tail f) in
      (suc p.0, p.1)

  pub final-all : (s : ℕ) → T (final s) → (w : Word) → InRange G.letters w → PathIn G live s w → Language G s w
  final-all s h w b f =
      let p = inevitable_done (F.reason s (f.at 0) h) w b f in
      record { follows = path_in_endless f; time = p.0; is_done = p.1 }

  -- from a live node that is not final, an endless path through live nodes that is never done
  record OpenPath (s : ℕ) : Type 0 where
    word : Word
    in_range : InRange G.letters word
    lives : PathIn G live s word
    not_done : (t : ℕ) → ¬ T (G.done (node_after G s word t))

  open_path : (s : ℕ) → Member G live s → T (not (final s)) → OpenPath s
  open_path s m h = record {
    word = w;
    in_range = λ t. path-in_range P step t s m.inside q;
    lives = record { at = lives };
    not_done = λ t. T_not (G.done (node_after G s w t)) (F.base (node_after G s w t) (lives t) (path-at P step t s m.inside q).1.1);
  }
    where
      P : ℕ → Type 0
      P u = T (live u) × T (not (final u))

      step : (u : ℕ) → u < G.nodes → P u → SomeEdge G P u
      step u hu p = F.closed u (record { inside = hu; holds = p.0 }) p.1

      q : P s
      q = (m.holds, h)

      w : Word
      w = path P step s m.inside q

      lives : (t : ℕ) → Member G live (node_after G s w t)
      lives t = let x = path-at P step t s m.inside q in record { inside = x.0; holds = x.1.0 }

  pub all-final : (s : ℕ) → Member G live s → ((w : Word) → InRange G.letters w → PathIn G live s w → Language G s w) → T (final s)
  all-final s m h = by_contradiction (final s) λ n.
      let p = open_path s m n in
      let l = h p.word p.in_range p.lives in
      p.not_done l.time l.is_done

-- same: one language

module _ {G : Graph} {kept live final : ℕ → Bool} {same : ℕ → ℕ → Type 0}
    (E : IsEndlessSet G kept) (L : IsLiveSet G kept live) (F : IsFinalSet G live final) (C : IsPartition G live final same) where
  -- a node that is the same can be followed along
  same-path : (j s t : ℕ) (w : Word) → InRange G.letters w → Member G live t → same s t → PathIn G live s w
      → Member G live (node_after G t w j) × same (node_after G s w j) (node_after G t w j)
  same-path zero s t w b m e f = (m, e)
  same-path (suc j) s t w b m e f =
      let p = C.steps s t (w 0) (f.at 0) m e (b 0) in
      same-path j (G.successor s (w 0)) (G.successor t (w 0)) (tail w) (λ i. b (suc i)) (p.to (f.at 1)) (p.step (f.at 1)) (path_in_tail f)

  same_word : (s t : ℕ) → Member G live t → same s t → (w : Word) → InRange G.letters w → Language G s w → Language G t w
  same_word s t m e w b l =
      language_suffix j t w (path_in_endless g) (final-all F v final_v (suffix w j) (in_range-suffix j w b) (path_in_suffix j g))
    where
      j : ℕ
      j = l.time

      u : ℕ
      u = node_after G s w j

      v : ℕ
      v = node_after G t w j

      f : PathIn G live s w
      f = word-path E L s w b l

      g : PathIn G live t w
      g = record { at = λ i. (same-path i s t w b m e f).0 }

      final-u : T (final u)
      final-u = by_contradiction (final u) λ n. T_not (G.done u) (F.base u (f.at j) n) l.is_done

      final_v : T (final v)
      final_v = C.finals u v (f.at j) (g.at j) (same-path j s t w b m e f).1 final-u

  -- what can be followed through live nodes from t can be from s, if they have one language
  language_path : (s t : ℕ) → SameLanguage G s t → (w : Word) → InRange G.letters w → PathIn G live t w → PathIn G live s w
  language_path s t h w b f = record { at = go }
    where
      go : (j : ℕ) → Member G live (node_after G s w j)
      go j =
          let p = live-word E L (node_after G t w j) (f.at j) in
          let z = append (prefix w j) p.0 in
          let bz : InRange G.letters z = in_range-append (prefix w j) (all-below-prefix j w b) p.1 in
          let l : Language G s z = h.from z bz (language_append j t w p.0 (path_in_endless f) p.2) in
          rw (run-append G.successor j s w p.0) at ((word-path E L s z bz l).at j)

  distinguished_differs : {s t : ℕ} → Distinguished G live final s t → Member G live s → Member G live t → ¬ SameLanguage G s t
  distinguished_differs (swap d) ms mt h = distinguished_differs d mt ms (solutions_sym h)
  distinguished_differs {s} {t} (by_final x y) ms mt h =
      let p = open_path F t mt y in
      let f = language_path s t h p.word p.in_range p.lives in
      let l = h.to p.word p.in_range (final-all F s x p.word p.in_range f) in
      p.not_done l.time l.is_done
  distinguished_differs {s} {t} (by_edge a ha mu nv) ms mt h =
      let p = live-word E L (G.successor s a) mu in
      nv (word_live E L (G.successor t a) p.0 p.1 ((same_language_step ms.inside mt.inside ha h).to p.0 p.1 p.2))
  distinguished_differs (by_letter a ha mu mv d) ms mt h = distinguished_differs d mu mv (same_language_step ms.inside mt.inside ha h)

  pub same↔language : (s t : ℕ) → Member G live s → Member G live t → same s t ↔ SameLanguage G s t
  same↔language s t ms mt = (
    (λ e. record { to = same_word s t mt e; from = same_word t s ms (C.symmetric s t ms mt e) }),
    λ h. go h (C.reason s t ms mt),
  )
    where
      go : SameLanguage G s t → same s t ⊎ Distinguished G live final s t → same s t
      go h (inl e) = e
      go h (inr d) = absurd (distinguished_differs d ms mt h)

  -- the four sets together, where a class is of the nodes that are the same
  pub fixpoints_analysis : {class : ℕ → ℕ} → ((s t : ℕ) → Member G live s → Member G live t → (class s ≡ class t) ↔ same s t)
      → IsAnalysis G live final class
  fixpoints_analysis e = record {
    live↔word = λ s. (live-word E L s, λ p. word_live E L s p.0 p.1 p.2);
    final↔all = λ s m. (final-all F s, all-final F s m);
    class↔same = λ s t ms mt. Iff.trans (e s t ms mt) (same↔language s t ms mt);
  }
