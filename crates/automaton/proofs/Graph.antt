-- Laws of the language of a node: letter by letter, over a prefix, and that it settles; and of sets of nodes and of paths through
-- them.
use mathlib.Core.Path.{◌≡◌, refl}
use mathlib.Core.Bool.{Bool, true, false}
use mathlib.Core.List.{[], ◌∷◌}
use Prim.Native.Nat.{ℕ, zero, suc, ◌<◌}
use native.Mathlib.Decide.{dec_lt}
use lib.Dec.{T}
use Rattle.automaton.specs.Words.{Word, tail, cons, append, prefix, suffix, InRange}
use Rattle.automaton.specs.Solutions.{SameSolutions, Continuation, Settles}
use Rattle.automaton.specs.Graph.{Graph, node_after, EndlessPath, Language, SameLanguage, Member, PathIn}
use Rattle.automaton.specs.Fixpoints.{SomeEdge}
use Rattle.automaton.proofs.Words.{in_range-cons}
use Rattle.automaton.proofs.Solutions.{solutions_sym, solutions_trans, continuation_same}
use Rattle.automaton.proofs.Paths.{run-walk, run-append}

module _ {G : Graph} where
  -- letter by letter

  pub language_cons : {s a : ℕ} {w : Word} → s < G.nodes → Language G (G.successor s a) w → Language G s (cons a w)
  language_cons {s} {a} {w} h l = record { follows = go; time = suc l.time; is_done = l.is_done }
    where
      go : (t : ℕ) → node_after G s (cons a w) t < G.nodes
      go zero = h
      go (suc t) = l.follows t

  pub language_tail : (s : ℕ) (w : Word) → InRange G.letters w → Language G s w → Language G (G.successor s (w 0)) (tail w)
  language_tail s w b l = go l.time l.is_done
    where
      f : EndlessPath G (G.successor s (w 0)) (tail w)
      f t = l.follows (suc t)

      go : (t : ℕ) → T (G.done (node_after G s w t)) → Language G (G.successor s (w 0)) (tail w)
      go zero d = record { follows = f; time = zero; is_done = G.done_stays s (w 0) (l.follows 0) (b 0) (f 0) d }
      go (suc t) d = record { follows = f; time = t; is_done = d }

  -- what the letter a leaves over of the language of s is the language of the successor
  pub language_continuation : {s a : ℕ} → s < G.nodes → a < G.letters
      → SameSolutions G.letters (Continuation (Language G s) (a ∷ [])) (Language G (G.successor s a))
  language_continuation {s} {a} hs ha = record {
    to = λ w b x. language_tail s (cons a w) (in_range-cons ha b) x.solves;
    from = λ w b l. record { solves = language_cons hs l };
  }

  pub same_language_step : {s t a : ℕ} → s < G.nodes → t < G.nodes → a < G.letters → SameLanguage G s t
      → SameLanguage G (G.successor s a) (G.successor t a)
  same_language_step {a = a} hs ht ha h = solutions_trans (solutions_sym (language_continuation hs ha))
      (solutions_trans (continuation_same (a ∷ []) (ha, tt) h) (language_continuation ht ha))

  -- over the first j letters of a path

  pub language_suffix : (j s : ℕ) (w : Word) → EndlessPath G s w → Language G (node_after G s w j) (suffix w j) → Language G s w
  language_suffix zero s w f l = l
  language_suffix (suc j) s w f l =
      let l1 : Language G (G.successor s (w 0)) (tail w) = language_suffix j (G.successor s (w 0)) (tail w) (λ i. f (suc i)) l in
      record { follows = f; time = suc l1.time; is_done = l1.is_done }

  pub language_append : (j s : ℕ) (w v : Word) → EndlessPath G s w → Language G (node_after G s w j) v → Language G s (append (prefix w j) v)
  language_append zero s w v f l = l
  language_append (suc j) s w v f l = language_cons (f 0) (language_append j (G.successor s (w 0)) (tail w) v (λ i. f (suc i)) l)

-- once a word is done, only the edges decide
pub language_settles : (G : Graph) (s : ℕ) → Settles (Language G s) G.letters
language_settles G s = record {
  time = λ w b l. l.time;
  settled = λ w b l v c p g. record {
    follows = λ t. rw (run-append G.successor t s v (g t).word) at ((g t).continues.solves.follows t);
    time = l.time;
    is_done = rw (run-walk G.successor l.time s v, p, ← run-walk G.successor l.time s w) l.is_done;
  };
}

-- sets of nodes

pub member_decide : (G : Graph) (L : ℕ → Bool) (s : ℕ) → Dec (Member G L s)
member_decide G L s = go (dec_lt s G.nodes) (L s) refl
  where
    go : Dec (s < G.nodes) → (b : Bool) → L s ≡ b → Dec (Member G L s)
    go (yes h) true e = yes (record { inside = h; holds = rw e tt })
    go (yes h) false e = no λ m. rw e at m.holds
    go (no g) b e = no λ m. g m.inside

module _ {G : Graph} {L : ℕ → Bool} where
  pub path_in_endless : {s : ℕ} {w : Word} → PathIn G L s w → EndlessPath G s w
  path_in_endless f t = (f.at t).inside

  pub path_in_tail : {s : ℕ} {w : Word} → PathIn G L s w → PathIn G L (G.successor s (w 0)) (tail w)
  path_in_tail f = record { at = λ t. f.at (suc t) }

  pub path_in_suffix : (j : ℕ) {s : ℕ} {w : Word} → PathIn G L s w → PathIn G L (node_after G s w j) (suffix w j)
  path_in_suffix zero f = f
  path_in_suffix (suc j) f = path_in_suffix j (path_in_tail f)

-- a path built step by step, where every node with P has an edge to another
module _ {G : Graph} (P : ℕ → Type 0) (step : (s : ℕ) → s < G.nodes → P s → SomeEdge G P s) where
  pub path : (s : ℕ) → s < G.nodes → P s → Word
  path s h p zero = (step s h p).letter
  path s h p (suc t) = path (G.successor s (step s h p).letter) (step s h p).inside (step s h p).holds t

  pub path-in_range : (t s : ℕ) (h : s < G.nodes) (p : P s) → path s h p t < G.letters
  unfolding path
  path-in_range zero s h p = (step s h p).is_letter
  path-in_range (suc t) s h p = path-in_range t (G.successor s (step s h p).letter) (step s h p).inside (step s h p).holds

  pub path-at : (t s : ℕ) (h : s < G.nodes) (p : P s) → (node_after G s (path s h p) t < G.nodes) × P (node_after G s (path s h p) t)
  unfolding path
  path-at zero s h p = (h, p)
  path-at (suc t) s h p = path-at t (G.successor s (step s h p).letter) (step s h p).inside (step s h p).holds
