-- The graph of the situations of lawful records has, from the start, the language of the words whose prefixes are all lawful and
-- some time done. So the graph's table is the table of those words.
use mathlib.Core.List.{List, [], ◌∷◌, ◌++◌, append_assoc, append-nil}
use Prim.Native.Nat.{ℕ, zero, suc, ◌<◌}
use Rattle.automaton.specs.Words.{Word, tail, prefix, InRange}
use Rattle.automaton.specs.Solutions.{SameSolutions, ByPrefixes}
use Rattle.automaton.specs.Graph.{Graph, node_after, EndlessPath, Language}
use Rattle.automaton.specs.Situations.{IsCongruence, IsExplored}

module _ {G : Graph} {lawful done : List ℕ → Type 0} {alike : List ℕ → List ℕ → Type 0} {shown : ℕ → List ℕ} {s₀ : ℕ}
    (C : IsCongruence G.letters lawful done alike) (E : IsExplored G lawful done alike shown s₀) where
  -- r is lawful and in the situation of node s
  record Stands (r : List ℕ) (s : ℕ) : Type 0 where
    inside : s < G.nodes
    is_lawful : lawful r
    is_alike : alike r (shown s)

  stands-start : Stands [] s₀
  stands-start = record { inside = E.start_inside; is_lawful = E.start_lawful; is_alike = E.start_alike }

  stands_extend : (r : List ℕ) (s a : ℕ) → a < G.letters → Stands r s → G.successor s a < G.nodes → Stands (r ++ (a ∷ [])) (G.successor s a)
  stands_extend r s a ha p h =
      let r⁺ = r ++ (a ∷ []) in
      let s⁺ = shown s ++ (a ∷ []) in
      let ls = (E.edge↔lawful s a p.inside ha).0 h in
      let lr = C.lawful_extend (shown s) r a ha (C.symmetric r (shown s) p.is_alike) (E.shown_lawful s p.inside) p.is_lawful ls in
      record {
        inside = h;
        is_lawful = lr;
        is_alike = C.transitive r⁺ s⁺ (shown (G.successor s a))
            (C.alike_extend r (shown s) a ha p.is_alike lr ls) (E.edge_alike s a p.inside ha h);
      }

  lawful_edge : (r : List ℕ) (s a : ℕ) → a < G.letters → Stands r s → lawful (r ++ (a ∷ [])) → G.successor s a < G.nodes
  lawful_edge r s a ha p l =
      (E.edge↔lawful s a p.inside ha).1 (C.lawful_extend r (shown s) a ha p.is_alike p.is_lawful (E.shown_lawful s p.inside) l)

  follows-stands : (t s : ℕ) (r : List ℕ) (w : Word) → InRange G.letters w → Stands r s → EndlessPath G s w
      → Stands (r ++ prefix w t) (node_after G s w t)
  follows-stands zero s r w b p f = rw append-nil p
  follows-stands (suc t) s r w b p f =
      let q = stands_extend r s (w 0) (b 0) p (f 1) in
      rw append_assoc at (follows-stands t (G.successor s (w 0)) (r ++ (w 0 ∷ [])) (tail w) (λ j. b (suc j)) q λ j. f (suc j))

  lawful-follows : (t s : ℕ) (r : List ℕ) (w : Word) → InRange G.letters w → Stands r s → ((j : ℕ) → lawful (r ++ prefix w j))
      → node_after G s w t < G.nodes
  lawful-follows zero s r w b p l = p.inside
  lawful-follows (suc t) s r w b p l =
      let q = stands_extend r s (w 0) (b 0) p (lawful_edge r s (w 0) (b 0) p (l 1)) in
      lawful-follows t (G.successor s (w 0)) (r ++ (w 0 ∷ [])) (tail w) (λ j. b (suc j)) q λ j. rw append_assoc (l (suc j))

  pub explored_solutions : SameSolutions G.letters (Language G s₀) (ByPrefixes lawful done)
  explored_solutions = record { to = to; from = from }
    where
      at : (t : ℕ) (w : Word) → InRange G.letters w → EndlessPath G s₀ w → Stands (prefix w t) (node_after G s₀ w t)
      at t w b f = follows-stands t s₀ [] w b stands-start f

      to : (w : Word) → InRange G.letters w → Language G s₀ w → ByPrefixes lawful done w
      to w b l =
          let r = prefix w l.time in
          let s = node_after G s₀ w l.time in
          let p = at l.time w b l.follows in
          record {
            all_lawful = λ t. (at t w b l.follows).is_lawful;
            time = l.time;
            is_done = C.done_alike (shown s) r (C.symmetric r (shown s) p.is_alike) (E.shown_lawful s p.inside) p.is_lawful
                ((E.done↔done s p.inside).0 l.is_done);
          }

      from : (w : Word) → InRange G.letters w → ByPrefixes lawful done w → Language G s₀ w
      from w b x =
          let f : EndlessPath G s₀ w = λ t. lawful-follows t s₀ [] w b stands-start x.all_lawful in
          let r = prefix w x.time in
          let s = node_after G s₀ w x.time in
          let p = at x.time w b f in
          record {
            follows = f;
            time = x.time;
            is_done = (E.done↔done s p.inside).1
                (C.done_alike r (shown s) p.is_alike p.is_lawful (E.shown_lawful s p.inside) x.is_done);
          }
