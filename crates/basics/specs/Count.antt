-- How many things have a property: the length of a list without repeats that holds exactly those.
use Rattle.std.specs.Prelude.{ℕ, ◌<◌, ◌≡◌, length}
use mathlib.Core.List.{List, [], ◌∷◌, Memᴰ}

-- No member stands twice.
abbrev pub NoRepeats : {X : Type 0} → List X → Type 0
NoRepeats [] = Unit
NoRepeats (x ∷ xs) = (Memᴰ x xs → ⊥) × NoRepeats xs

module _ {X : Type 0} (P : X → Type 0) where
  -- Exactly m things have the property.
  pub record CountOf (m : ℕ) : Type 0 where
    pub list : List X
    pub distinct : NoRepeats list
    pub found : (x : X) → Memᴰ x list → P x
    pub every : (x : X) → P x → Memᴰ x list
    pub count : length list ≡ m

  -- More than r things have the property.
  pub record MoreThan (r : ℕ) : Type 0 where
    pub list : List X
    pub distinct : NoRepeats list
    pub found : (x : X) → Memᴰ x list → P x
    pub longer : r < length list
