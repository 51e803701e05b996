-- The places of the nodes of firsts, found among stored nodes. "First" is document 01's term.
use Rattle.std.specs.Prelude.{ℕ, suc, ◌<◌, ◌≡◌, cond, List, [], ◌∷◌, eqb, ℤ, pos, nat_abs, length, get_or, set}

-- Each node of a `first` puts its place where its number says; the nodes stand from the place n on.
unfoldable pub with_firsts : ℕ → List ℕ → List ℤ → List ℕ → List ℕ
with_firsts n [] values places = places
with_firsts n (k ∷ kinds) [] places = places
with_firsts n (k ∷ kinds) (v ∷ values) places = with_firsts (suc n) kinds values (cond (eqb k 2) (set places (nat_abs v) n) places)

-- The number of each `first` is below 8.
pub record FewFirsts (kinds : List ℕ) (values : List ℤ) : Type 0 where
  pub numbered : (i : ℕ) → i < length kinds → get_or kinds i 0 ≡ 2 → (k : ℕ) × (get_or values i (pos 0) ≡ pos k) × (k < 8)
