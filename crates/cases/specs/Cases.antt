-- What the functions that the programs on stored vectors share give back.
use Rattle.std.specs.Prelude.{◌≡◌, ℕ, zero, suc, ◌<◌, ◌≤◌, min, List, [], ◌∷◌, length, take}
use Rattle.io.specs.Counts.{IsPrefixLen}
use Rattle.io.specs.Digits.{IsDigitCount}
use Rattle.stored.specs.Number.{number_at}
use Rattle.cases.specs.declared.Case.{Case}

-- A case has as many bytes at the front of the space as the first number of its heading says.
pub record IsCase (space : List ℕ) (r : Case) : Type 0 where
  pub within : IsPrefixLen r.size space
  pub sized : r.size ≡ number_at 4 r.heading 0

-- How many elements of a table are taken, where so many are asked for: all where it has fewer.
unfoldable pub taken : ℕ → List ℕ → ℕ
taken count table = min count (length table)

-- The number taken. The other parts follow from the first: as in `Counts`, they are what `&table[..r]` asks.
abbrev pub IsTaken : ℕ → List ℕ → ℕ → Type 0
IsTaken count table r = (r ≡ taken count table) × (r ≤ length table) × (r ≡ length (take r table))

-- How many numbers of the list are not 0.
unfoldable pub nonzeros : List ℕ → ℕ
nonzeros [] = 0
nonzeros (zero ∷ ns) = nonzeros ns
nonzeros (suc n ∷ ns) = suc (nonzeros ns)

-- What printing a number gives back: how many digits it has, or 0 where a write did not take all of its bytes.
abbrev pub DigitsPrinted : ℕ → ℕ → Type 0
DigitsPrinted n r = 0 < r → IsDigitCount 10 1 n r
