-- What the answer of a test says.
use Rattle.std.specs.Prelude.{Bool, true, false}

-- the answer is true if P holds, and false if not
abbrev pub Says : Bool → Type 0 → Type 0
Says true P = P
Says false P = ¬ P
