-- What refusal 4 says of stored nodes (document 01, "unknown in a constraint").
use Rattle.std.specs.Prelude.{ℕ, Bool, false, ◌&&◌, ◌||◌, List, [], ◌∷◌, eqb, ℤ, pos}
use Rattle.std.specs.Int.Signed.{le_z}

-- A node of a name whose number is not below the number of streams.
abbrev pub is_unknown : ℕ → ℤ → ℕ → Bool
is_unknown kind value streams = eqb kind 1 && le_z (pos streams) value

abbrev pub some_unknown : List ℕ → List ℤ → ℕ → Bool
some_unknown [] values streams = false
some_unknown (k ∷ kinds) [] streams = false
some_unknown (k ∷ kinds) (v ∷ values) streams = is_unknown k v streams || some_unknown kinds values streams
