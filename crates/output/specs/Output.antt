-- What is known of bytes that a program hands to writes. What reaches standard output is outside the logic.
use Rattle.std.specs.Prelude.{ℕ, ◌<◌, ◌≡◌, Bool, true, false, List, length, take, Option}
use Rattle.std.specs.Io.KnownBytes.{Appends}

-- How many bytes were taken by writes: all of these where every write took its bytes, and else fewer.
pub record Hands (bytes : List ℕ) (size : ℕ) (whole : Bool) : Type 0 where
  pub all : whole ≡ true → size ≡ length bytes
  pub cut : whole ≡ false → size < length bytes

-- What a writer holds after a call that writes these bytes, where what it holds is known: all of them behind what it held, or the first k of them, which
-- are fewer than all, where a write failed or took nothing.
abbrev pub WritesWhole : Option (List ℕ) → Option (List ℕ) → List ℕ → Bool → Type 0
WritesWhole old new bytes true = Appends old new bytes
WritesWhole old new bytes false = (k : ℕ) × (k < length bytes) × Appends old new (take k bytes)
