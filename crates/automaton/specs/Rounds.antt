-- What the passes over a graph keep while they run: sets of nodes as bytes, with a reason for each mark, and classes of nodes as
-- numbers, with a reason for each parting.
use Rattle.std.specs.Prelude.{◌≡◌, ◌⊎◌, Bool, not, List, [], ◌∷◌, ℕ, ◌+◌, ◌<◌, T, eqb, get_or}
use Rattle.automaton.specs.Graph.{Graph, Member}
use Rattle.automaton.specs.Fixpoints.{Distinguished, SameStep}

-- sets as bytes

-- the nodes whose byte is not 0
abbrev pub is_set : (bytes : List ℕ) (s : ℕ) → Bool
is_set bytes s = not (eqb (get_or bytes s 0) 0)

-- P holds of every marked node
abbrev pub AllSet : (P : ℕ → Type 0) (bytes : List ℕ) → Type 0
AllSet P bytes = (s : ℕ) → T (is_set bytes s) → P s

-- P holds of every node below n that is not marked
abbrev pub AllCleared : (n : ℕ) (P : ℕ → Type 0) (bytes : List ℕ) → Type 0
AllCleared n P bytes = (s : ℕ) → s < n → T (not (is_set bytes s)) → P s

-- the sum of the bytes: it falls when a mark is cleared, and rises when one is set
unfoldable pub sum_of : List ℕ → ℕ
sum_of [] = 0
sum_of (x ∷ l) = x + sum_of l

-- classes as numbers

abbrev pub SameClass : (class : ℕ → ℕ) (s t : ℕ) → Type 0
SameClass class s t = class s ≡ class t

-- two live nodes have one class, or a record tells them apart
abbrev pub HasReasons : (G : Graph) (live final : ℕ → Bool) (class : ℕ → ℕ) → Type 0
HasReasons G live final class = (s t : ℕ) → Member G live s → Member G live t → SameClass class s t ⊎ Distinguished G live final s t

-- s and t have one class, and so have their live successors by each letter
pub record SameGraphSignature (G : Graph) (live : ℕ → Bool) (class : ℕ → ℕ) (s t : ℕ) : Type 0 where
  pub same : SameClass class s t
  pub steps : (a : ℕ) → a < G.letters → SameStep G live (SameClass class) s t a
