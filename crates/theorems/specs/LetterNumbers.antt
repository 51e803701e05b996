-- What the count of letters must be (document 02, S-4), and worked ends of ranges: rows of one table, and what a row says.
use Rattle.std.specs.Prelude.{ℕ, ◌≤◌, ◌<◌, ◌≡◌, ◌↔◌, List, [], ◌∷◌, ℤ, pos, negsuc}
use Rattle.letters.specs.Described.{LetterCountCall}

-- "The count must be exact up to 1,024, and above 1,024 exactly when the true product is."
pub record ExactUpTo (bound product count : ℕ) : Type 0 where
  pub exact : product ≤ bound → count ≡ product
  pub above : (bound < count) ↔ (bound < product)

-- The lowest values of ranges, their highest values, and the count.
pub record WorkedCount : Type 0 where
  pub lows : List ℤ
  pub highs : List ℤ
  pub count : ℕ

-- The ends of the magnitude bound, and of 64 bits.
abbrev lowest : ℤ
lowest = negsuc 999999999

abbrev highest : ℤ
highest = pos 1000000000

abbrev lowest64 : ℤ
lowest64 = negsuc 9223372036854775807

abbrev highest64 : ℤ
highest64 = pos 9223372036854775807

unfoldable pub worked_counts : List WorkedCount
worked_counts =
    -- no range
    record { lows = []; highs = []; count = 1 }
    -- at the bound, and above it
    ∷ record { lows = pos 0 ∷ pos 0 ∷ []; highs = pos 31 ∷ pos 31 ∷ []; count = 1024 }
    ∷ record { lows = pos 0 ∷ pos 0 ∷ []; highs = pos 31 ∷ pos 32 ∷ []; count = 1025 }
    -- a product that is 0 in 32 bits, and in 64
    ∷ record { lows = pos 1 ∷ pos 1 ∷ []; highs = pos 65536 ∷ pos 65536 ∷ []; count = 1025 }
    ∷ record { lows = pos 1 ∷ pos 1 ∷ pos 1 ∷ pos 1 ∷ []; highs = pos 65536 ∷ pos 65536 ∷ pos 65536 ∷ pos 65536 ∷ []; count = 1025 }
    -- a range of over two thousand million values, and one of all numbers of 64 bits
    ∷ record { lows = pos 0 ∷ lowest ∷ []; highs = pos 0 ∷ highest ∷ []; count = 1025 }
    ∷ record { lows = lowest64 ∷ lowest64 ∷ []; highs = highest64 ∷ highest64 ∷ []; count = 1025 }
    -- an empty range behind such ranges, and before them
    ∷ record { lows = pos 0 ∷ pos 0 ∷ pos 5 ∷ []; highs = highest ∷ highest ∷ pos 4 ∷ []; count = 0 }
    ∷ record { lows = pos 5 ∷ pos 0 ∷ lowest64 ∷ []; highs = pos 4 ∷ highest ∷ highest64 ∷ []; count = 0 }
    ∷ record { lows = highest64 ∷ lowest64 ∷ []; highs = lowest64 ∷ highest64 ∷ []; count = 0 }
    ∷ []

-- What a row says.
abbrev pub HasCount : WorkedCount → Type 0
HasCount r = LetterCountCall r.lows r.highs r.count
