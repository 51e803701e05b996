-- The closures of the two rules over the edges of a graph: what they contain, and what they leave out.
use mathlib.Core.Logic.{◌⊎◌, inl, inr}
use mathlib.Core.Bool.{Bool, not, ◌&&◌}
use Prim.Native.Nat.{ℕ, ◌<◌}
use lib.Dec.{T, T_not, not_T}
use Rattle.basics.proofs.Tests.{by_contradiction, T_and, T-or}
use Rattle.automaton.specs.Graph.{Graph}
use Rattle.automaton.specs.Closure.{any_below, contains, closure}
use Rattle.automaton.specs.Construction.{every_rule, some_rule}
use Rattle.automaton.proofs.Closure.{any_below↔, closure-closed, closure-sound}

-- every successor that passes `guard`

module _ (G : Graph) (base guard : ℕ → Bool) where
  -- the successor of s by a passes `guard` and is not in the set
  left_out : (ℕ → Bool) → ℕ → ℕ → Bool
  left_out set s a = guard (G.successor s a) && not (set (G.successor s a))

  -- P holds of the whole closure if it holds of the nodes that pass `base`, and of each node whose successors that pass `guard`
  -- all have it
  pub every-sound : (P : ℕ → Type 0) → ((s : ℕ) → T (base s) → P s)
      → ((s : ℕ) → ((a : ℕ) → a < G.letters → T (guard (G.successor s a)) → P (G.successor s a)) → P s)
      → (s : ℕ) → T (contains (closure G.nodes (every_rule G base guard)) s) → P s
  unfolding left_out
  every-sound P first next = closure-sound G.nodes (every_rule G base guard) P λ set all s hs h.
      go set all s ((T-or (base s) (not (any_below G.letters (left_out set s)))).0 h)
    where
      go : (set : ℕ → Bool) → ((j : ℕ) → T (set j) → P j) → (s : ℕ) → T (base s) ⊎ T (not (any_below G.letters (left_out set s))) → P s
      go set all s (inl x) = first s x
      go set all s (inr x) = next s λ a ha g.
          let u = G.successor s a in
          all u (by_contradiction (set u) λ n. T_not (any_below G.letters (left_out set s)) x
          ((any_below↔ G.letters (left_out set s)).1 (a, ha, (T_and (guard u) (not (set u))).1 (g, n))))

  -- a node outside the closure fails `base`, and has a successor that passes `guard` and is outside the closure
  pub every-outside : (s : ℕ) → s < G.nodes → T (not (contains (closure G.nodes (every_rule G base guard)) s))
      → T (not (base s)) × ((a : ℕ) × (a < G.letters) × T (guard (G.successor s a))
      × T (not (contains (closure G.nodes (every_rule G base guard)) (G.successor s a))))
  unfolding left_out
  every-outside s hs n = (not_T (base s) λ x. not-added (inl x), (p.0, p.1, q.0, q.1))
    where
      set : ℕ → Bool
      set = contains (closure G.nodes (every_rule G base guard))

      not-added : T (base s) ⊎ T (not (any_below G.letters (left_out set s))) → ⊥
      not-added x = T_not (set s) n
          (closure-closed G.nodes (every_rule G base guard) s hs ((T-or (base s) (not (any_below G.letters (left_out set s)))).1 x))

      p : (a : ℕ) × (a < G.letters) × T (left_out set s a)
      p = (any_below↔ G.letters (left_out set s)).0 (by_contradiction (any_below G.letters (left_out set s)) λ h. not-added (inr h))

      q : T (guard (G.successor s p.0)) × T (not (set (G.successor s p.0)))
      q = (T_and (guard (G.successor s p.0)) (not (set (G.successor s p.0)))).0 p.2

-- some successor

module _ (G : Graph) (base : ℕ → Bool) where
  -- P holds of the whole closure if it holds of the nodes that pass `base`, and of each node with a successor that has it
  pub some-sound : (P : ℕ → Type 0) → ((s : ℕ) → s < G.nodes → T (base s) → P s)
      → ((s a : ℕ) → s < G.nodes → a < G.letters → P (G.successor s a) → P s)
      → (s : ℕ) → T (contains (closure G.nodes (some_rule G base)) s) → P s
  some-sound P first next = closure-sound G.nodes (some_rule G base) P λ set all s hs h.
      go set all s hs ((T-or (base s) (any_below G.letters (λ a. set (G.successor s a)))).0 h)
    where
      go : (set : ℕ → Bool) → ((j : ℕ) → T (set j) → P j) → (s : ℕ) → s < G.nodes
          → T (base s) ⊎ T (any_below G.letters (λ a. set (G.successor s a))) → P s
      go set all s hs (inl x) = first s hs x
      go set all s hs (inr x) =
          let p = (any_below↔ G.letters (λ a. set (G.successor s a))).0 x in
          next s p.0 hs p.1 (all (G.successor s p.0) p.2)

  -- the closure contains each node that passes `base`, or that has a successor in it
  pub some-inside : (s : ℕ) → s < G.nodes
      → T (base s) ⊎ ((a : ℕ) × (a < G.letters) × T (contains (closure G.nodes (some_rule G base)) (G.successor s a)))
      → T (contains (closure G.nodes (some_rule G base)) s)
  some-inside s hs x = closure-closed G.nodes (some_rule G base) s hs ((T-or (base s) (any_below G.letters member)).1 (go x))
    where
      member : ℕ → Bool
      member a = contains (closure G.nodes (some_rule G base)) (G.successor s a)

      go : T (base s) ⊎ ((a : ℕ) × (a < G.letters) × T (member a)) → T (base s) ⊎ T (any_below G.letters member)
      go (inl x) = inl x
      go (inr x) = inr ((any_below↔ G.letters member).1 x)
