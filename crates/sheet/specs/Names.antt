-- The names of streams in eight bytes each, as they are stored and described.
use Rattle.std.specs.Prelude.{ℕ, ◌-◌, ◌*◌, ◌≤◌, min, length, get_or, take, drop, replicate}
use mathlib.Core.List.{List, ◌++◌, Memᴰ}
use Rattle.text.specs.Bytes.{Token}
use Rattle.meaning.specs.Expression.{Stream}

-- The bytes of the name, and zeros up to eight.
abbrev pub eight_bytes : Stream → List ℕ
eight_bytes x = x.name ++ replicate (8 - length x.name) 0

-- Each name fits its eight bytes.
abbrev pub ShortNames : List Stream → Type 0
ShortNames ss = (x : Stream) → Memᴰ x ss → length x.name ≤ 8

-- The name in the first of the i-th eight bytes: as many as its length says, eight where it says more, of those that there are.
abbrev pub name_in : List ℕ → List ℕ → ℕ → Token
name_in names lengths i = take (min (get_or lengths i 0) 8) (drop (i * 8) names)
