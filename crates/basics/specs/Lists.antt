-- Properties of the members of a list, and lists as functions.
use Rattle.std.specs.Prelude.{List, [], ◌∷◌, ◌⊎◌, ℕ, get_or}

-- Every member has the property.
abbrev pub All : {X : Type 0} → (X → Type 0) → List X → Type 0
All P [] = Unit
All P (x ∷ xs) = P x × All P xs

-- Some member has the property.
abbrev pub Some : {X : Type 0} → (X → Type 0) → List X → Type 0
Some P [] = ⊥
Some P (x ∷ xs) = P x ⊎ Some P xs

-- The numbers of a list as a function, 0 behind its end.
abbrev pub at : List ℕ → ℕ → ℕ
at list i = get_or list i 0
