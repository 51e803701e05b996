-- Lines one after the other, stored names, and numbers whose text is short.
use Rattle.std.specs.Prelude.{ℕ, zero, suc, ◌+◌, List, [], ◌∷◌, ◌++◌, ℤ}
use Rattle.std.specs.Int.{w64}
use Rattle.std.proofs.Common.{SFits}
use Rattle.text.specs.Bytes.{Token}
use Rattle.meaning.specs.Window.{join_over}
use Rattle.sheet.specs.Names.{name_in}

-- The text of lines from a number on, so many of them, one after the other.
unfoldable pub lines_from : (ℕ → List ℕ) → ℕ → ℕ → List ℕ
lines_from line from zero = []
lines_from line from (suc n) = lines_from line from n ++ line (from + n)

-- The texts of values one after the other, each with one text before it and one behind it.
abbrev pub each : {X : Type 0} → (before : List ℕ) (text : X → List ℕ) (xs : List X) (after : List ℕ) → List ℕ
each before text xs after = join_over (λ x. before ++ (text x ++ after)) xs

-- The names that are stored in eight bytes each, so many of them.
unfoldable pub stored_names : List ℕ → List ℕ → ℕ → List Token
stored_names names lengths zero = []
stored_names names lengths (suc i) = stored_names names lengths i ++ (name_in names lengths i ∷ [])

-- The values are numbers of the machine, so that each has at most 20 bytes in decimal.
abbrev pub AllFit : List ℤ → Type 0
AllFit [] = Unit {0}
AllFit (v ∷ vs) = SFits w64 v × AllFit vs
