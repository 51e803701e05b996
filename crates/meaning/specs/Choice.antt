-- The choices of the river (document 02, S-7: "At every time the river gives all read values, any in range, and then the keeper gives the set values").
use Rattle.std.specs.Prelude.{ℕ, List, [], ◌∷◌}
use Rattle.meaning.specs.Expression.{StreamKind, read_kind, set_kind, Stream}
use Rattle.meaning.specs.Letter.{Letter, letter_count, letter_number, letter_of}

-- one more thing where its stream is read
abbrev pub where_read : {X : Type 0} → StreamKind → X → List X → List X
where_read read_kind x xs = x ∷ xs
where_read set_kind x xs = xs

-- "the read streams alone"
unfoldable pub read_streams : List Stream → List Stream
read_streams [] = []
read_streams (s ∷ ss) = where_read s.kind s (read_streams ss)

-- "all read values" of a letter
unfoldable pub read_values : List Stream → Letter → Letter
read_values [] l = []
read_values (s ∷ ss) [] = []
read_values (s ∷ ss) (v ∷ l) = where_read s.kind v (read_values ss l)

-- "Choices are numbered as letters are, over the read streams alone; without any there is one choice."
unfoldable pub choice_count : List Stream → ℕ
choice_count ss = letter_count (read_streams ss)

-- the choice of the letter with this number
unfoldable pub choice_of : List Stream → ℕ → ℕ
choice_of ss a = letter_number (read_streams ss) (read_values ss (letter_of ss a))
