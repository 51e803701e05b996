-- The loop that numbers the classes of live nodes in the order in which they are first met, "state by state and letter by
-- letter": what holds when it stands at state i and letter a, and what a store to one place changes.
use Rattle.std.specs.Prelude.{◌≡◌, Bool, ℕ, ◌<◌, ◌≤◌}
use Rattle.automaton.specs.Table.{Before, FirstMet}
use Rattle.automaton.specs.Graph.{Graph, Member, IsNodeEntry}

-- entry' holds v at (i, a), and at every place before it what entry holds there
pub record IsPut (k : ℕ) (entry entry' : ℕ → ℕ → ℕ) (i a v : ℕ) : Type 0 where
  pub here : entry' i a ≡ v
  pub earlier : (j b : ℕ) → b < k → Before j b i a → entry' j b ≡ entry j b

-- m states have been met, state j stands for the class of `node j`, and every place before (i, a) is filled
pub record IsFilling (G : Graph) (live : ℕ → Bool) (class : ℕ → ℕ) (s₀ m i a : ℕ) (node : ℕ → ℕ) (entry : ℕ → ℕ → ℕ) : Type 0 where
  pub some_state : 0 < m
  pub within : i ≤ m
  pub start : node 0 ≡ s₀
  pub lives : (j : ℕ) → j < m → Member G live (node j)
  pub distinct : (j l : ℕ) → j < m → l < m → class (node j) ≡ class (node l) → j ≡ l
  pub entries : (j b : ℕ) → Before j b i a → j < m → b < G.letters
      → IsNodeEntry G live class m node (G.successor (node j) b) (entry j b)
  pub first_met : (j : ℕ) → 0 < j → j < m → (f : FirstMet G.letters entry j) × Before f.state f.letter i a
