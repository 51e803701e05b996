-- Changes from one letter to the next (document 02, S-8).
use Rattle.std.specs.Prelude.{ℕ, ◌+◌, Bool, true, false, cond, ◌&&◌, List, [], ◌∷◌}
use Rattle.meaning.specs.Value.{compares, Comparison.different}
use Rattle.meaning.specs.Expression.{StreamKind, read_kind, set_kind, Stream}
use Rattle.meaning.specs.Letter.{Letter, letter_of}

abbrev pub is_set_kind : StreamKind → Bool
is_set_kind read_kind = false
is_set_kind set_kind = true

-- "a change being a set stream whose value differs from the letter before": how many there are from a letter to another.
unfoldable pub differing : List Stream → Letter → Letter → ℕ
differing [] l m = 0
differing (s ∷ ss) [] m = 0
differing (s ∷ ss) (v ∷ l) [] = 0
differing (s ∷ ss) (v ∷ l) (w ∷ m) = cond (is_set_kind s.kind && compares different v w) 1 0 + differing ss l m

-- The same for letters given by their numbers.
unfoldable pub changed : List Stream → ℕ → ℕ → ℕ
changed ss a b = differing ss (letter_of ss a) (letter_of ss b)
