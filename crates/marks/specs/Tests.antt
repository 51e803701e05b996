-- Sets of rows as tests.
use Rattle.std.specs.Prelude.{Bool, List, ℕ, get_or, eqb}

-- the rows of a list that are 1, as a set
abbrev pub is_marked : List ℕ → ℕ → Bool
is_marked list s = eqb (get_or list s 0) 1
