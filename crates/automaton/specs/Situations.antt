-- Situations of records, and graphs whose nodes are situations. "Lawful" and "situation" are document 01's terms: "Its situation
-- is the whole record if n ≤ D+B; else its last D+B letters, the value of each `first`, and for each `until` done or pending."
-- Here `lawful` and `done` are any two properties of records, and `alike` is any relation that stands for being in the same situation.
use Rattle.std.specs.Prelude.{◌↔◌, List, [], ◌∷◌, ◌++◌, ℕ, ◌<◌, T}
use Rattle.automaton.specs.Graph.{Graph}

-- Lawful records in the same situation can be extended by the same letters, stay in the same situation, and are done together.
-- "Only lawful records count".
pub record IsCongruence (k : ℕ) (lawful done : List ℕ → Type 0) (alike : List ℕ → List ℕ → Type 0) : Type 0 where
  pub symmetric : (r s : List ℕ) → alike r s → alike s r
  pub transitive : (r s u : List ℕ) → alike r s → alike s u → alike r u
  pub lawful_extend : (r s : List ℕ) (a : ℕ) → a < k → alike r s → lawful r → lawful s
      → lawful (r ++ (a ∷ [])) → lawful (s ++ (a ∷ []))
  pub alike_extend : (r s : List ℕ) (a : ℕ) → a < k → alike r s → lawful (r ++ (a ∷ [])) → lawful (s ++ (a ∷ []))
      → alike (r ++ (a ∷ [])) (s ++ (a ∷ []))
  pub done_alike : (r s : List ℕ) → alike r s → lawful r → lawful s → done r → done s

-- The graph of the situations that lawful records lead to, from that of the empty record: node s stands for the situation of
-- the record `shown s`.
pub record IsExplored (G : Graph) (lawful done : List ℕ → Type 0) (alike : List ℕ → List ℕ → Type 0) (shown : ℕ → List ℕ) (s₀ : ℕ)
    : Type 0 where
  pub start_inside : s₀ < G.nodes
  pub start_lawful : lawful []
  pub start_alike : alike [] (shown s₀)
  pub shown_lawful : (s : ℕ) → s < G.nodes → lawful (shown s)
  pub edge↔lawful : (s a : ℕ) → s < G.nodes → a < G.letters → (G.successor s a < G.nodes) ↔ lawful (shown s ++ (a ∷ []))
  pub edge_alike : (s a : ℕ) → s < G.nodes → a < G.letters → G.successor s a < G.nodes
      → alike (shown s ++ (a ∷ [])) (shown (G.successor s a))
  pub done↔done : (s : ℕ) → s < G.nodes → T (G.done s) ↔ done (shown s)
