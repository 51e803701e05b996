-- The sets that the passes over a graph find, by reasons and closedness. A pass that removes or marks nodes has a finite reason
-- for each node that it changes (`Terminating`, `Reaches`, `Inevitable`, `Distinguished`), and it ends with a set that is closed.
-- Reasons and closedness together say what the set means (`Rattle.automaton.proofs.Fixpoints`).
use Rattle.std.specs.Prelude.{◌⊎◌, Bool, not, ℕ, ◌<◌, T}
use Rattle.automaton.specs.Graph.{Graph, Member}

-- an edge from s to a node with P
pub record SomeEdge (G : Graph) (P : ℕ → Type 0) (s : ℕ) : Type 0 where
  pub letter : ℕ
  pub is_letter : letter < G.letters
  pub inside : G.successor s letter < G.nodes
  pub holds : P (G.successor s letter)

-- nodes with an endless path

-- every path from s ends
pub data Terminating (G : Graph) : ℕ → Type 0 where
  ends : {s : ℕ} → ((a : ℕ) → a < G.letters → G.successor s a < G.nodes → Terminating G (G.successor s a)) → Terminating G s

-- each kept node has a kept successor, and from each other node every path ends
pub record IsEndlessSet (G : Graph) (kept : ℕ → Bool) : Type 0 where
  pub closed : (s : ℕ) → Member G kept s → SomeEdge G (λ u. T (kept u)) s
  pub reason : (s : ℕ) → s < G.nodes → T (not (kept s)) → Terminating G s

-- nodes whose language has a word

-- some path from s leads to a kept node that is done
pub data Reaches (G : Graph) (kept : ℕ → Bool) : ℕ → Type 0 where
  here : {s : ℕ} → T (kept s) → T (G.done s) → Reaches G kept s
  there : {s : ℕ} (a : ℕ) → a < G.letters → G.successor s a < G.nodes → Reaches G kept (G.successor s a) → Reaches G kept s

-- kept nodes that are done are live, and so is each node with a live successor
pub record IsLiveSet (G : Graph) (kept live : ℕ → Bool) : Type 0 where
  pub reason : (s : ℕ) → Member G live s → Reaches G kept s
  pub base : (s : ℕ) → s < G.nodes → T (kept s) → T (G.done s) → T (live s)
  pub closed : (s a : ℕ) → s < G.nodes → a < G.letters → Member G live (G.successor s a) → T (live s)

-- live nodes from which every endless path through live nodes is done at some time

-- every path from s through live nodes leads to a done node
pub data Inevitable (G : Graph) (live : ℕ → Bool) : ℕ → Type 0 where
  now : {s : ℕ} → T (G.done s) → Inevitable G live s
  later : {s : ℕ} → ((a : ℕ) → a < G.letters → Member G live (G.successor s a) → Inevitable G live (G.successor s a)) → Inevitable G live s

-- a live node that is not final is not done, and has a live successor that is not final
pub record IsFinalSet (G : Graph) (live final : ℕ → Bool) : Type 0 where
  pub reason : (s : ℕ) → Member G live s → T (final s) → Inevitable G live s
  pub base : (s : ℕ) → Member G live s → T (not (final s)) → T (not (G.done s))
  pub closed : (s : ℕ) → Member G live s → T (not (final s)) → SomeEdge G (λ u. T (live u) × T (not (final u))) s

-- nodes of one language

-- a record tells s and t apart: by a final node, by a missing edge, or after a letter
pub data Distinguished (G : Graph) (live final : ℕ → Bool) : ℕ → ℕ → Type 0 where
  swap : {s t : ℕ} → Distinguished G live final t s → Distinguished G live final s t
  by_final : {s t : ℕ} → T (final s) → T (not (final t)) → Distinguished G live final s t
  by_edge : {s t : ℕ} (a : ℕ) → a < G.letters → Member G live (G.successor s a) → ¬ Member G live (G.successor t a)
      → Distinguished G live final s t
  by_letter : {s t : ℕ} (a : ℕ) → a < G.letters → Member G live (G.successor s a) → Member G live (G.successor t a)
      → Distinguished G live final (G.successor s a) (G.successor t a) → Distinguished G live final s t

-- s and t agree at the letter a: both have a live successor there or neither, and these two are the same
pub record SameStep (G : Graph) (live : ℕ → Bool) (same : ℕ → ℕ → Type 0) (s t a : ℕ) : Type 0 where
  pub to : Member G live (G.successor s a) → Member G live (G.successor t a)
  pub from : Member G live (G.successor t a) → Member G live (G.successor s a)
  pub step : Member G live (G.successor s a) → same (G.successor s a) (G.successor t a)

-- two live nodes are the same, and then agree in the final set and at each letter, or a record tells them apart
pub record IsPartition (G : Graph) (live final : ℕ → Bool) (same : ℕ → ℕ → Type 0) : Type 0 where
  pub reason : (s t : ℕ) → Member G live s → Member G live t → same s t ⊎ Distinguished G live final s t
  pub symmetric : (s t : ℕ) → Member G live s → Member G live t → same s t → same t s
  pub finals : (s t : ℕ) → Member G live s → Member G live t → same s t → T (final s) → T (final t)
  pub steps : (s t a : ℕ) → Member G live s → Member G live t → same s t → a < G.letters → SameStep G live same s t a
