-- Values and their truth, comparisons, and streams (document 01, "Meaning at time i"; document 02, S-5).
use Rattle.std.specs.Prelude.{ℕ, zero, suc, Bool, true, false, not, ◌&&◌, ℤ, pos, negsuc}
use Rattle.std.specs.Int.Signed.{lt_z, le_z}

-- What an expression has at a time: a whole number; or none, as a quotient or remainder by 0 has: "such a quotient or remainder has no value"
-- (document 02, S-5).
pub data Value : Type 0 where
  absent : Value
  number : ℤ → Value

-- "any value but 0 is true": of numbers
abbrev pub nonzero : ℤ → Bool
nonzero (pos zero) = false
nonzero (pos (suc n)) = true
nonzero (negsuc n) = true

-- What `until` asks of a value: "`until` treats none as 0" (document 02, S-5).
abbrev pub truth : Value → Bool
truth absent = false
truth (number z) = nonzero z

-- "The word comparisons, `and`, `or`, `not` give 0 or 1"
abbrev pub bit : Bool → ℤ
bit true = pos 1
bit false = pos 0

-- The six comparisons that the signs `< <= == >= > !=` and the words `lt le eq ge gt ne` share.
pub data Comparison : Type 0 where
  less at_most equal at_least greater different : Comparison

abbrev pub compares : Comparison → ℤ → ℤ → Bool
compares less a b = lt_z a b
compares at_most a b = le_z a b
compares equal a b = le_z a b && le_z b a
compares at_least a b = le_z b a
compares greater a b = lt_z b a
compares different a b = not (le_z a b && le_z b a)

-- "in the added entries none equals none and no number" (document 02, S-5)
abbrev pub same_value : Value → Value → Bool
same_value absent absent = true
same_value absent (number b) = false
same_value (number a) absent = false
same_value (number a) (number b) = compares equal a b

-- The number that each stream has, by the stream's place in the sheet, at each time (000, section 2: "A stream a over a (finite) alphabet Σ is a function ℕ₀ → Σ").
abbrev pub Streams : Type 0
Streams = ℕ → ℕ → ℤ

-- The same for streams that may have none at a time, as the normal form's: "Added streams may carry none" (document 02, S-5).
abbrev pub ValueStreams : Type 0
ValueStreams = ℕ → ℕ → Value

-- Streams of numbers as streams of values.
abbrev pub numbers : Streams → ValueStreams
numbers w k i = number (w k i)
