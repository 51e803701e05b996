-- The bytes of one line in a chunk of a record, and the number of the next line.
use Rattle.std.specs.Prelude.{ℕ, suc, ◌≤◌, ◌<◌, min, max, ◌≡◌, false, List, [], ◌∷◌, eqb, length, get_or}
use Rattle.std.proofs.Math.Seq.{slice}

-- The highest number of the machine.
abbrev pub highest_number : ℕ
highest_number = 18446744073709551615

-- The number of the next line, which stays at the highest number of the machine.
abbrev pub one_more : ℕ → ℕ
one_more number = min (suc number) highest_number

abbrev pub NoLineEnd : List ℕ → Type 0
NoLineEnd [] = Unit {0}
NoLineEnd (b ∷ bs) = (eqb b 10 ≡ false) × NoLineEnd bs

-- A line's bytes in a chunk, from a place on: up to its byte 10, or to the end of the chunk. Behind the end there are none.
pub record RunsLine (chunk : List ℕ) (from next : ℕ) : Type 0 where
  pub onward : from ≤ next
  pub inside : next ≤ max from (length chunk)
  pub bytes : NoLineEnd (slice from next chunk)
  pub stops : next < length chunk → get_or chunk next 0 ≡ 10
