-- Graphs that are written out in lists, for computation.
use Rattle.std.specs.Prelude.{Bool, not, ◌&&◌, List, ℕ, ◌+◌, ◌*◌, ltb, get_or}
use Rattle.automaton.specs.Table.{no_state}
use Rattle.automaton.specs.Closure.{any_below, contains}

-- the successor of s by the letter a stands at s * letters + a, the flag of s at s
pub record Listed : Type 0 where
  pub nodes : ℕ
  pub letters : ℕ
  pub successors : List ℕ
  pub done : List Bool

module _ (L : Listed) where
  abbrev pub listed_successor : (s a : ℕ) → ℕ
  listed_successor s a = get_or L.successors (s * L.letters + a) no_state

  -- the flag falls along the edge from s by a
  abbrev pub falls : (s a : ℕ) → Bool
  falls s a = let u = listed_successor s a in ltb u L.nodes && (contains L.done s && not (contains L.done u))

  -- the flag falls along no edge
  abbrev pub well_formed : Bool
  well_formed = not (any_below L.nodes (λ s. any_below L.letters (falls s)))
